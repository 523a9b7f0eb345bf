-- `lines::number::read_number` meets its contract: what is read so far and the digits that are left
-- stay the number.
use mathlib.Core.Path.{◌≡◌}
use Prim.Native.Nat.{◌≤◌}
use lib.ListN.{drop}
use Rattle.lines.specs.Number.{read_number}
use Rattle.lines.proofs.ReadingLaws.{number_after}
use Rattle.lines.proofs.number.read_number.Given as goal

abbrev pub invariant-loop-b : goal.invariant-loop-b
invariant-loop-b l =
    (l.value ≤ l.bound) × (read_number l.bound l.s ≡ number_after l.bound l.value (drop l.b-index l.s))
