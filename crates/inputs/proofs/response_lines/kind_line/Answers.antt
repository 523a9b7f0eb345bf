-- `inputs::response_lines::kind_line` meets its contract: the two words are passed over, then the
-- two parts are read.
use mathlib.Core.Path.{refl, sym, ◌∙◌, ap}
use Rattle.lines.specs.Number.{ascii}
use Rattle.inputs.proofs.ResponseLineLaws.{with_kind, kind-on, kind-off, kind-other}
use Rattle.inputs.proofs.response_lines.kind_line.Goals as goal

pub returns-in_err-at_kind-clause-read : goal.returns-in_err-at_kind-clause-read
unfolding ascii
returns-in_err-at_kind-clause-read c = rw c.from_residual.ensures (sym (kind-off _ _ (sym c.in_err-at_kind.ensures)))

pub returns-in_err-next-clause-read : goal.returns-in_err-next-clause-read
unfolding ascii
returns-in_err-next-clause-read c =
    let e = rw c.second_word.ensures at (sym c.in_err-next.ensures) in
    rw c.from_residual-in_err-next.ensures (sym (kind-other _ _ _ (sym c.in_ok-at_kind.ensures) e))

pub returns-in_err-identifier-clause-read : goal.returns-in_err-identifier-clause-read
unfolding ascii
returns-in_err-identifier-clause-read c =
    let e = rw c.second_word.ensures at (sym c.in_ok-next.ensures) in
    let k = kind-on _ _ _ _ (sym c.in_ok-at_kind.ensures) e in
    rw c.from_residual-in_err-identifier.ensures (sym (k ∙ ap (with_kind _) (sym c.last_parts.ensures.read) ∙ rw c.in_err-identifier.was refl))

pub returns-clause-read : goal.returns-clause-read
unfolding ascii
returns-clause-read c =
    let e = rw c.second_word.ensures at (sym c.in_ok-next.ensures) in
    let k = kind-on _ _ _ _ (sym c.in_ok-at_kind.ensures) e in
    sym (k ∙ ap (with_kind _) (sym c.last_parts.ensures.read) ∙ rw c.in_ok-identifier.was refl)
