-- `checks::steps::note_commitment` meets its contract: the number of a record that is found is
-- within the table.
use native.Mathlib.Omega.{arith}
use Rattle.inputs.proofs.VrfOutputLaws.{found_below}
use Rattle.checks.proofs.StepLaws.{noted_found, noted_missing}
use Rattle.checks.proofs.steps.note_commitment.Goals as goal

pub offset_bounds-offsets-found : goal.offset_bounds-offsets-found
offset_bounds-offsets-found c =
    omega (arith, found_below c.args.outputs.now c.args.version _ c.in-Some.ensures.any, c.requires.outputs)

pub bounds-offsets-found : goal.bounds-offsets-found
bounds-offsets-found c =
    omega (arith, found_below c.args.outputs.now c.args.version _ c.in-Some.ensures.any, c.requires.outputs)

pub returns-in-Some : goal.returns-in-Some
returns-in-Some c = noted_found _ _ _ _ _ c.in-Some.ensures.rising

pub returns-in-None : goal.returns-in-None
returns-in-None c = noted_missing _ _ _ _ c.in-None.ensures.rising
