-- The numbers of the refusals (paper 01, Sixteen numbers).
use Rattle.std.specs.Prelude.{ℕ, Result, Ok, Err}
use Rattle.inputs.specs.declared.refusal.Refusal.{Refusal}
use Rattle.inputs.specs.declared.refusal.Refusal.TheVariants.{Length, Configuration, State, VrfOutputs}
use Rattle.inputs.specs.declared.refusal.Refusal.TheVariants.{Lines, Request, TreeSize, Target, Shape}
use Rattle.inputs.specs.declared.refusal.Refusal.TheVariants.{MissingOutput, Time, Lookup, Ladder}
use Rattle.inputs.specs.declared.refusal.Refusal.TheVariants.{FullSubtree, SignedText, Room}

abbrev pub refusal_number : Refusal → ℕ
refusal_number Length = 1
refusal_number Configuration = 2
refusal_number State = 3
refusal_number VrfOutputs = 4
refusal_number Lines = 5
refusal_number Request = 6
refusal_number TreeSize = 7
refusal_number Target = 8
refusal_number Shape = 9
refusal_number MissingOutput = 10
refusal_number Time = 11
refusal_number Lookup = 12
refusal_number Ladder = 13
refusal_number FullSubtree = 14
refusal_number SignedText = 15
refusal_number Room = 16

-- 0 for an answer that is no refusal, else the refusal's number
abbrev pub number_in : {A : Type 0} → Result A Refusal → ℕ
number_in (Ok a) = 0
number_in (Err r) = refusal_number r
