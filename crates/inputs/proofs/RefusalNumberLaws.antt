-- The numbers of the refusals (specs/Refusal.antt).
use Prim.Native.Nat.{◌<◌}
use native.Mathlib.Omega.{arith}
use Rattle.inputs.specs.declared.refusal.Refusal.{Refusal}
use Rattle.inputs.specs.declared.refusal.Refusal.TheVariants.{Length, Configuration, State, VrfOutputs}
use Rattle.inputs.specs.declared.refusal.Refusal.TheVariants.{Lines, Request, TreeSize, Target, Shape}
use Rattle.inputs.specs.declared.refusal.Refusal.TheVariants.{MissingOutput, Time, Lookup, Ladder}
use Rattle.inputs.specs.declared.refusal.Refusal.TheVariants.{FullSubtree, SignedText, Room}
use Rattle.inputs.specs.Refusal.{refusal_number}

-- none is 0, the number of an answer that is no refusal
pub above_zero : (r : Refusal) → 0 < refusal_number r
above_zero Length = omega arith
above_zero Configuration = omega arith
above_zero State = omega arith
above_zero VrfOutputs = omega arith
above_zero Lines = omega arith
above_zero Request = omega arith
above_zero TreeSize = omega arith
above_zero Target = omega arith
above_zero Shape = omega arith
above_zero MissingOutput = omega arith
above_zero Time = omega arith
above_zero Lookup = omega arith
above_zero Ladder = omega arith
above_zero FullSubtree = omega arith
above_zero SignedText = omega arith
above_zero Room = omega arith
