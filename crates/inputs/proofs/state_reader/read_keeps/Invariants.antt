-- `inputs::state_reader::read_keeps` meets its contract. The loop's invariant: the lines so far all
-- lead, and are counted; the first of their values stand in the block.
use Prim.Native.Nat.{◌-◌, ◌≤◌}
use lib.ListN.{length}
use Rattle.inputs.proofs.StateRunLaws.{KeepsTo}
use Rattle.inputs.proofs.state_reader.read_keeps.Given as goal

abbrev pub invariant-loop-keep : goal.invariant-loop-keep
invariant-loop-keep l = record { few : l.count ≤ l.at; within : l.at ≤ length l.text; keeps : KeepsTo l.text l.from l.at l.count l.values }

abbrev pub decreases-loop-keep : goal.decreases-loop-keep
decreases-loop-keep l = length l.text - l.at
