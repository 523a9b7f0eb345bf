-- `tree::ladder::climbed` meets its contract: the versions stored so far are those of the climb,
-- and what is left is the climb from `high` on.
use Prim.Native.Nat.{◌+◌, ◌-◌}
use Rattle.tree.proofs.LadderFillLaws.{Climbing}
use Rattle.tree.proofs.ladder.climbed.Given as goal

abbrev pub invariant-loop-high : goal.invariant-loop-high
invariant-loop-high l = Climbing l.version l.ladder.versions l.ladder.length l.low l.high

abbrev pub decreases-loop-high : goal.decreases-loop-high
decreases-loop-high l = l.version + 1 - l.high
