-- `checks::monitored_versions::largest_pair` meets its contract: of the pairs from i on the largest
-- version is that of the pair found.
use Prim.Native.Nat.{◌≤◌}
use lib.ListN.{length}
use Rattle.checks.proofs.MonitoredVersionLaws.{Found}
use Rattle.checks.proofs.monitored_versions.largest_pair.Given as goal

abbrev pub invariant-loop-i : goal.invariant-loop-i
invariant-loop-i l = (l.i ≤ length l.positions) × Found l.tree_size l.positions l.versions l.entry l.i l.largest
