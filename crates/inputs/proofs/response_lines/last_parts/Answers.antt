-- `inputs::response_lines::last_parts` meets its contract: the first field has its length, and the
-- last is not too long.
use mathlib.Core.Path.{refl, sym, ◌∙◌}
use mathlib.Core.List.{[], ◌∷◌}
use mathlib.Core.Option.{bind}
use borrow.Author.Tests.{le-leb, lt-leb}
use Rattle.lists.specs.Choice.{provided}
use Rattle.lines.specs.Field.{exactly, up_to}
use Rattle.lines.proofs.FormLaws.{field_off}
use Rattle.inputs.proofs.ResponseLineLaws.{first-part}
use Rattle.inputs.proofs.response_lines.last_parts.Goals as goal

pub returns-in_err-first-clause-read : goal.returns-in_err-first-clause-read
returns-in_err-first-clause-read c =
    let a = c.args in
    let e = sym c.in_err-first.ensures.read in
    rw c.from_residual.ensures (sym (field_off _ (exactly a.wanted) (up_to a.longest ∷ []) _ e))

pub returns-in_err-length-clause-read : goal.returns-in_err-length-clause-read
unfolding bind
returns-in_err-length-clause-read c =
    let e = sym c.in_ok-first.ensures.read in
    rw c.from_residual-in_err-length.ensures (sym (first-part _ _ _ _ _ e _ _ c.last_bytes.ensures.read ∙ rw c.in_err-length.was refl))

pub returns-then-longest-length-clause-read : goal.returns-then-longest-length-clause-read
unfolding bind provided
returns-then-longest-length-clause-read c =
    let e = sym c.in_ok-first.ensures.read in
    sym (first-part _ _ _ _ _ e _ _ c.last_bytes.ensures.read ∙ rw (c.in_ok-length.was, lt-leb _ _ c.if-longest-length.true) refl)

pub returns-clause-read : goal.returns-clause-read
unfolding bind provided
returns-clause-read c =
    let e = sym c.in_ok-first.ensures.read in
    sym (first-part _ _ _ _ _ e _ _ c.last_bytes.ensures.read ∙ rw (c.in_ok-length.was, le-leb _ _ c.if-longest-length.false) refl)
