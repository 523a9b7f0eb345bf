-- `inputs::state_reader::read_valid_state` meets its contract: the first line is the `size` line, and
-- the state is read of it and the text after it.
use mathlib.Core.Path.{sym, ◌∙◌, ap}
use mathlib.Core.Option.{none, some, map}
use native.Mathlib.Omega.{arith}
use Rattle.lists.proofs.ChoiceLaws.{map_some}
use Rattle.lines.specs.Line.{read_line}
use Rattle.rules.specs.StateText.{size_form}
use Rattle.inputs.specs.State.{block_of}
use Rattle.inputs.specs.StateReader.{size_read}
use Rattle.inputs.proofs.TextLineLaws.{from_nothing, from-told, from-was}
use Rattle.inputs.proofs.MatchLaws.{map_none}
use Rattle.inputs.proofs.StateReaderLaws.{text-none, text-some, after_open, after-all, after_read}
use Rattle.inputs.proofs.state_reader.read_valid_state.Goals as goal

pub returns-in_err-line : goal.returns-in_err-line
returns-in_err-line c = rw c.from_residual.ensures (sym (ap (map block_of) (text-none _ (from_nothing (read_line size_form) _ _ c.in_err-line.ensures))))

pub returns-in_err-first : goal.returns-in_err-first
returns-in_err-first c =
    let n = map_none size_read _ c.in_err-first.ensures in
    let e = from-told (read_line size_form) _ _ _ _ c.in_ok-line.ensures none (sym n) in
    rw c.from_residual-in_err-first.ensures (sym (ap (map block_of) (text-none _ (sym e))))

pub read_keeps-keeps-requires : goal.read_keeps-keeps-requires
read_keeps-keeps-requires c =
    let h = (from-was some _ _ _ _ c.in_ok-line.ensures).here in (omega arith, c.requires)

pub returns-then-pairs-text : goal.returns-then-pairs-text
returns-then-pairs-text c =
    let (x, r, q) = map_some size_read _ _ (sym c.in_ok-first.ensures) in
    let e = from-told (read_line size_form) _ _ _ _ c.in_ok-line.ensures (some x) (sym r) in
    let n = after_open _ _ _ _ c.read_keeps-keeps.ensures c.read_pairs-pairs.ensures x (omega arith) in
    sym (ap (map block_of) (text-some _ x _ (sym e) ∙ n))

pub returns : goal.returns
returns c =
    let (x, r, q) = map_some size_read _ _ (sym c.in_ok-first.ensures) in
    let k = c.read_keeps-keeps.ensures in
    let p = c.read_pairs-pairs.ensures in
    let e = from-told (read_line size_form) _ _ _ _ c.in_ok-line.ensures (some x) (sym r) in
    let w = after-all _ _ _ _ k p x (omega arith) in
    c.state_from_lines.ensures _ (after_read _ _ _ _ k p x _ q) ∙ sym (ap (map block_of) (text-some _ x _ (sym e) ∙ w))
