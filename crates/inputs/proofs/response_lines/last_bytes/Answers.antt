-- `inputs::response_lines::last_bytes` meets its contract: the field encodes a byte string, and no
-- other follows it.
use mathlib.Core.Path.{refl, sym, ◌∙◌}
use mathlib.Core.List.{[]}
use borrow.Author.Tests.{lt-ltb, le-ltb}
use Rattle.lists.specs.Choice.{provided}
use Rattle.lines.specs.Field.{bytes}
use Rattle.lines.proofs.FormLaws.{bytes-none, field_off}
use Rattle.inputs.proofs.ResponseLineLaws.{part-stands, part-length, last-field}
use Rattle.inputs.proofs.response_lines.last_bytes.Goals as goal

pub returns-in_err-length-clause-read : goal.returns-in_err-length-clause-read
returns-in_err-length-clause-read c fits =
    let e = sym c.in_err-length.ensures in
    rw c.from_residual.ensures (sym (field_off _ (bytes fits) [] _ (bytes-none _ fits _ e)))

pub returns-then-next-l-clause-read : goal.returns-then-next-l-clause-read
unfolding provided
returns-then-next-l-clause-read c fits =
    let e = sym c.in_ok-length.ensures in
    sym (last-field _ _ _ _ e fits ∙ rw (le-ltb _ _ c.if-next-l.true) refl)

pub returns-clause-read : goal.returns-clause-read
returns-clause-read c fits =
    let e = sym c.in_ok-length.ensures in
    sym (last-field _ _ _ _ e fits ∙ rw (lt-ltb _ _ c.if-next-l.false) refl)

pub returns-clause-stands : goal.returns-clause-stands
returns-clause-stands c =
    let e = sym c.in_ok-length.ensures in
    ((part-stands _ _ _ _ e).1, part-length _ _ _ _ e)
