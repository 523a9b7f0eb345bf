-- `lines::writing::put_decimal` meets its contract: the digits of what is left of the number and
-- those stored after them stay its digits.
use mathlib.Core.Path.{◌≡◌}
use mathlib.Core.List.{◌++◌}
use Prim.Native.Nat.{◌+◌, ◌≤◌, ◌<◌}
use lib.ListN.{length, drop}
use Rattle.lines.specs.Number.{decimal}
use Rattle.lines.proofs.writing.put_decimal.Given as goal

abbrev pub invariant-loop-rest : goal.invariant-loop-rest
invariant-loop-rest l =
    (l.first < length l.digits) × (length l.digits ≡ 20) × (length (decimal l.n) ≤ 20)
    × (decimal l.n ≡ decimal l.rest ++ drop (l.first + 1) l.digits)

abbrev pub decreases-loop-rest : goal.decreases-loop-rest
decreases-loop-rest l = l.rest
