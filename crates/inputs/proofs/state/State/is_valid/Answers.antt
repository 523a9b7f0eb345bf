-- `inputs::state::State::is_valid` meets its contract: the tests of the struct decide, one after
-- the other.
use mathlib.Core.Path.{◌≡◌, refl, ◌∙◌}
use mathlib.Core.Bool.{true, false, ◌&&◌}
use borrow.Author.Rules.{rules}
use Rattle.inputs.specs.State.{label_fits, log_fits}
use Rattle.inputs.proofs.StateBlockLaws.{block_valid}
use Rattle.inputs.proofs.state.State.is_valid.Goals.{then-fits, else-fits}
use Rattle.inputs.proofs.state.State.is_valid.Goals as goal

pub returns-then-fits-2 : goal.returns-then-fits-2
returns-then-fits-2 c =
    let b = c.args.self in
    let label : label_fits b.label ≡ true = elim c.if-fits.branch [ then-fits w ↦ cc | else-fits w ↦ cc ] in
    let log : log_fits b.log ≡ true = elim c.if-fits.branch [ then-fits w ↦ cc | else-fits w ↦ cc ] in
    c.fits-then-fits-2.ensures ∙ (rw (label, log) at (block_valid b (search rules) (search rules)))

pub returns-else-fits-2 : goal.returns-else-fits-2
returns-else-fits-2 c =
    let b = c.args.self in
    let both : (label_fits b.label && log_fits b.log) ≡ false =
    elim c.if-fits.branch [
      | then-fits w ↦ (let l : label_fits b.label ≡ true = cc in let g : log_fits b.log ≡ false = cc in rw (l, g) refl)
      | else-fits w ↦ (let l : label_fits b.label ≡ false = cc in rw l refl)
    ] in
    c.if-fits-2.false ∙ (rw both at (block_valid b (search rules) (search rules)))
