-- `checks::steps::wanted_step` meets its contract: the step that passes both tests is the one wanted,
-- and the offset noted is that of its commitment.
use mathlib.Core.Path.{◌≡◌, refl}
use borrow.Author.Rules.{rules}
use Rattle.checks.specs.Sections.{has_commitment}
use Rattle.checks.proofs.steps.wanted_step.Goals as goal

pub returns : goal.returns
returns c =
    let v : c.in_ok-step.step.version ≡ c.args.version = search rules in
    let g : has_commitment c.in_ok-step.step ≡ c.args.committed = search rules in
    (c.in_ok-step.step, c.in_ok-step.ensures, v, g, refl, rw (← c.unwrap_or.ensures) c.note_commitment-there.ensures)
