-- `inputs::vrf_outputs::find_output` meets its contract: where versions rise, a record of the
-- version stands between the two bounds.
use Prim.Native.Nat.{◌-◌, ◌/◌, ◌≤◌}
use lib.ListN.{length}
use Rattle.rules.specs.VrfOutputs.{record_length}
use Rattle.inputs.proofs.VrfOutputLaws.{Between}
use Rattle.inputs.proofs.vrf_outputs.find_output.Given as goal

abbrev pub invariant-loop-low : goal.invariant-loop-low
invariant-loop-low l =
    (l.low ≤ l.high) × (l.high ≤ length l.outputs / record_length) × Between l.outputs l.version l.low l.high

abbrev pub decreases-loop-low : goal.decreases-loop-low
decreases-loop-low l = l.high - l.low
