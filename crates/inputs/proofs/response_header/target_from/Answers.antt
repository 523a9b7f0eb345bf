-- `inputs::response_header::target_from` meets its contract: the line at the offset is read as a
-- `target` line, and its fields are moved from the line to the text.
use mathlib.Core.Path.{sym}
use native.Mathlib.Omega.{arith}
use Rattle.lines.specs.Line.{read_line}
use Rattle.rules.specs.ResponseText.{target_form}
use Rattle.inputs.proofs.TextLineLaws.{from_nothing, from-told}
use Rattle.inputs.proofs.ResponseFieldLaws.{target_unfound, moved-within, target-decodes, target_found}
use Rattle.inputs.proofs.response_header.target_from.Goals as goal

pub returns-in_err-line-clause-read : goal.returns-in_err-line-clause-read
returns-in_err-line-clause-read c = rw c.from_residual.ensures (sym (target_unfound _ _ (from_nothing (read_line target_form) _ _ c.in_err-line.ensures)))

pub returns-in_err-found-clause-read : goal.returns-in_err-found-clause-read
returns-in_err-found-clause-read c =
    let f = from-told (read_line target_form) _ _ _ _ c.in_ok-line.ensures _ c.in_err-found.ensures.read in
    rw c.from_residual-in_err-found.ensures (sym (target_unfound _ _ (sym f)))

pub shift-requires : goal.shift-requires
shift-requires c =
    let (a, b) = moved-within _ _ _ _ c.in_ok-line.ensures c.in_ok-found.found.opening c.in_ok-found.ensures.stands.0 in (omega arith, omega arith)

pub shift-requires-2 : goal.shift-requires-2
shift-requires-2 c =
    let (a, b) = moved-within _ _ _ _ c.in_ok-line.ensures c.in_ok-found.found.value c.in_ok-found.ensures.stands.1 in (omega arith, omega arith)

pub returns-clause-read : goal.returns-clause-read
returns-clause-read c =
    let r = c.in_ok-found.ensures in
    rw (c.shift.ensures, c.shift-2.ensures) (target_found _ _ _ _ c.in_ok-line.ensures c.in_ok-found.found r.stands r.read)

pub returns-clause-decodes : goal.returns-clause-decodes
returns-clause-decodes c =
    rw (c.shift.ensures, c.shift-2.ensures) (target-decodes _ _ _ _ c.in_ok-line.ensures c.in_ok-found.found c.in_ok-found.ensures.stands)
