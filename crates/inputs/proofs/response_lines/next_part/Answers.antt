-- `inputs::response_lines::next_part` meets its contract: the field encodes a byte string, and its
-- length is compared.
use mathlib.Core.Path.{sym}
use native.Mathlib.Omega.{arith}
use borrow.Author.Tests.{eq-eqb, ne_eqb}
use Rattle.lines.proofs.FormLaws.{bytes-unfit, bytes-none}
use Rattle.inputs.proofs.ResponseLineLaws.{part-stands, part-read}
use Rattle.inputs.proofs.response_lines.next_part.Goals as goal

pub returns-in_err-length-clause-read : goal.returns-in_err-length-clause-read
returns-in_err-length-clause-read c = rw c.from_residual.ensures (sym (bytes-none _ _ _ (sym c.in_err-length.ensures)))

pub returns-then-length-wanted-clause-read : goal.returns-then-length-wanted-clause-read
returns-then-length-wanted-clause-read c =
    sym (bytes-unfit _ _ _ _ _ (sym c.in_ok-length.ensures) (ne_eqb _ _ c.if-length-wanted.true))

pub overflow_sub-part : goal.overflow_sub-part
overflow_sub-part c = let p = (part-stands _ _ _ _ (sym c.in_ok-length.ensures)).0 in omega arith

pub returns-clause-read : goal.returns-clause-read
returns-clause-read c =
    sym (part-read _ _ _ _ (sym c.in_ok-length.ensures) _ (eq-eqb _ _ c.if-length-wanted.false))

pub returns-clause-stands : goal.returns-clause-stands
returns-clause-stands c = (part-stands _ _ _ _ (sym c.in_ok-length.ensures)).1
