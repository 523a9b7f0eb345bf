-- `lines::number::read_number` meets its contract: what is read so far and the digits that are left
-- stay the number.
use mathlib.Core.Path.{sym, ◌∙◌}
use native.Mathlib.Omega.{arith}
use Rattle.lines.specs.Number.{is_digit}
use Rattle.lines.proofs.ReadingLaws.{digits-other}
use Rattle.lines.proofs.number.read_number.Goals as goal
use Rattle.lines.proofs.number.read_number.Goals.{then-s-gt1+else-s-eq48, else-s-gt1}

pub returns-then-not-is_ascii_digit : goal.returns-then-not-is_ascii_digit
unfolding is_digit
returns-then-not-is_ascii_digit c =
    let a = c.args in
    let e = sym c.if-not-is_ascii_digit.ensures.value in
    sym (c.loop-b.invariant.1 ∙ digits-other a.bound a.s.now c.loop-b.b-index c.loop-b.value (omega arith) e)
