-- `checks::monitoring::monitoring_steps` meets its contract: the steps read so far are the versions
-- looked up below one, and their commitments are placed.
use Prim.Native.Nat.{◌-◌, ◌≤◌}
use lib.ListN.{length}
use Rattle.checks.proofs.MonitoringStepLaws.{Stepping}
use Rattle.checks.proofs.monitoring.monitoring_steps.Given as goal

abbrev pub invariant-loop-at : goal.invariant-loop-at
invariant-loop-at l =
    (l.at ≤ length l.steps) × Stepping l.steps l.outputs l.initial.marks l.versions l.marks l.offsets l.at l.there

abbrev pub decreases-loop-at : goal.decreases-loop-at
decreases-loop-at l = length l.steps - l.at
