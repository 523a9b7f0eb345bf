-- `tree::ladder::halved` meets its contract: the versions stored so far are the first of the
-- ladder, and what is left is the halving between `low` and `high`.
use Prim.Native.Nat.{◌-◌}
use Rattle.tree.proofs.LadderFillLaws.{Halving}
use Rattle.tree.proofs.ladder.halved.Given as goal

abbrev pub invariant-loop-high : goal.invariant-loop-high
invariant-loop-high l = Halving l.version l.ladder.versions l.ladder.length l.low l.high

abbrev pub decreases-loop-high : goal.decreases-loop-high
decreases-loop-high l = l.high - l.low
