-- Laws of what a call leaves to be written (specs/Calls.antt): the text of the new state, where
-- there is room for it; and what each answer that accepts says.
use mathlib.Core.Path.{◌≡◌, refl, sym, ap, ◌∙◌}
use mathlib.Core.Bool.{true}
use mathlib.Core.Option.{some, map}
use Prim.Native.Nat.{◌≤◌}
use lib.Dec.{leb}
use lib.ListN.{length}
use borrow.Author.Tests.{le-leb}
use Rattle.lists.specs.Lists.{Bytes}
use Rattle.lists.proofs.ChoiceLaws.{choose_true}
use Rattle.rules.specs.Limits.{state_text_limit}
use Rattle.rules.specs.State.{State, is_valid}
use Rattle.rules.specs.StateText.{write_state}
use Rattle.rules.specs.Refusals.{Inputs, Call, passed, judge}
use Rattle.rules.specs.Calls.{next_state, text_of}
use Rattle.rules.proofs.NextStateLaws.{state_valid}
use Rattle.inputs.specs.declared.state.State.{State as StateBlock}
use Rattle.inputs.specs.State.{block_of, state_of}
use Rattle.inputs.specs.StateWriter.{text_for}
use Rattle.inputs.proofs.StateBlockLaws.{block_stands}
use Rattle.std.specs.Prelude.{Some, None, Option as CodeOption}
use Rattle.checks.specs.declared.call.Found.{Found}
use Rattle.checks.specs.Calls.{block_after, accepted_answer}

-- the text of a valid state is written where there is room
text_for_lem : (s : State) (lent : Bytes) → is_valid s ≡ true → state_text_limit ≤ length lent → text_for (block_of s) lent ≡ some (write_state s)
unfolding text_for
text_for_lem s lent v l =
    choose_true (leb state_text_limit (length lent)) _ _ (le-leb state_text_limit (length lent) l) ∙ ap (map write_state) (block_stands s v)

-- the text to write for the state after an accepted call, where there is room, is that of the
-- judgement
pub text_accepted : (b : StateBlock) (i : Inputs) (c : Call) → judge (state_of b) i ≡ passed c → (new : StateBlock) → new ≡ block_after b (judge (state_of b) i)
    → (lent : Bytes) → state_text_limit ≤ length lent → text_for new lent ≡ text_of (judge (state_of b) i)
unfolding text_of block_after
text_accepted b i c q new f lent m =
    ap (λ (x : StateBlock). text_for x lent) (f ∙ ap (block_after b) q) ∙ text_for_lem (next_state c) lent (state_valid (state_of b) i c q) m ∙ sym (ap text_of q)

-- ---- an answer that accepts, with a value or without

-- its number
pub accepted_number : (b : StateBlock) (f : CodeOption Found) → (accepted_answer b f).number ≡ 0
accepted_number b None = refl
accepted_number b (Some f) = refl

-- its state
pub accepted_state : (b : StateBlock) (f : CodeOption Found) → (accepted_answer b f).state ≡ b
accepted_state b None = refl
accepted_state b (Some f) = refl
