-- `inputs::state_reader::read_pairs` meets its contract. The loop's invariant: the lines so far all
-- lead, and are counted; the first of their positions and versions stand in the arrays.
use Prim.Native.Nat.{◌-◌, ◌≤◌}
use lib.ListN.{length}
use Rattle.inputs.proofs.StateRunLaws.{PairsTo}
use Rattle.inputs.proofs.state_reader.read_pairs.Given as goal

abbrev pub invariant-loop-position : goal.invariant-loop-position
invariant-loop-position l = record { few : l.map.count ≤ l.at; within : l.at ≤ length l.text; pairs : PairsTo l.text l.from l.at l.map }

abbrev pub decreases-loop-position : goal.decreases-loop-position
decreases-loop-position l = length l.text - l.at
