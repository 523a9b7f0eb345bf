-- `inputs::state_reader::state_in` meets its contract: the struct is that of the state, or one
-- whose label is too long.
use mathlib.Core.Path.{refl, sym, ◌∙◌, ap}
use native.Mathlib.Omega.{arith}
use Rattle.inputs.specs.State.{numbered_of}
use Rattle.inputs.proofs.RefusalNumberLaws.{above_zero}
use Rattle.inputs.proofs.StateInLaws.{label_over, text-broken, text-held}
use Rattle.inputs.proofs.state_reader.state_in.Goals as goal

pub returns-in-Ok : goal.returns-in-Ok
returns-in-Ok c = text-held _ _ (sym (ap numbered_of c.in-Ok.is) ∙ c.read_state.ensures) refl

pub returns-in-Err : goal.returns-in-Err
returns-in-Err c =
    label_over _ (omega arith)
    ∙ sym (text-broken _ _ (sym (ap numbered_of c.in-Err.is) ∙ c.read_state.ensures) (λ z. let n = above_zero c.in-Err.refused.refusal in omega arith))
