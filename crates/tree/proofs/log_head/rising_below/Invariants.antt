-- `tree::log_head::rising_below` meets its contract: what is left from the entry line at hand on
-- decides, from the position after the last on.
use Prim.Native.Nat.{◌-◌}
use lib.ListN.{length}
use Rattle.tree.proofs.RisingBelowLaws.{Decides}
use Rattle.tree.proofs.log_head.rising_below.Given as goal

abbrev pub invariant-loop-at : goal.invariant-loop-at
invariant-loop-at l = Decides l.text l.tree_size l.least l.at

abbrev pub decreases-loop-at : goal.decreases-loop-at
decreases-loop-at l = length l.text - l.at
