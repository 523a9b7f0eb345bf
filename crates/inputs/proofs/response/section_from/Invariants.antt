-- `inputs::response::section_from` meets its contract: the lines passed so far all belong to the
-- section, and are counted.
use Prim.Native.Nat.{◌-◌, ◌≤◌}
use lib.ListN.{length}
use Rattle.inputs.proofs.ResponseSectionLaws.{Running}
use Rattle.inputs.proofs.response.section_from.Given as goal

abbrev pub invariant-loop-role : goal.invariant-loop-role
invariant-loop-role l = record { within : l.at ≤ length l.text; few : l.count ≤ l.at; running : Running l.sort l.text l.from l.at l.count }

abbrev pub decreases-loop-role : goal.decreases-loop-role
decreases-loop-role l = length l.text - l.at
