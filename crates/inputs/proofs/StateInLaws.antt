-- Laws of the state that a text says (rules/specs/StateText.antt, read_state), as `state_in` gives
-- it: what was read without a refusal stands for it, and a refusal says that there is none. A text
-- that says a state is never too long, so both hold of every text.
use mathlib.Core.Path.{◌≡◌, refl, sym, ap, ◌∙◌}
use mathlib.Core.Bool.{Bool, true, false}
use mathlib.Core.Option.{Option, none, some, Option-elim, none-ne-some}
use Prim.Native.Nat.{◌≤◌, ◌<◌}
use native.Mathlib.Omega.{arith}
use lib.Dec.{leb}
use lib.ListN.{length}
use borrow.Author.Tests.{lt-leb}
use Rattle.lists.specs.Choice.{provided, choose}
use Rattle.lists.specs.Lists.{Bytes, every}
use Rattle.rules.specs.Limits.{label_limit, state_text_limit}
use Rattle.rules.specs.State.{State, NumberedState}
use Rattle.rules.specs.StateText.{read_state, read_state_text}
use Rattle.rules.proofs.StateTextLaws.{state_read, state_short}
use Rattle.inputs.specs.declared.state.State.{State as StateBlock}
use Rattle.inputs.specs.State.{NumberedBlock, numbered_block, room_is_zero, state_of}
use Rattle.inputs.specs.StateReader.{refused_by, or_refused}
use Rattle.inputs.proofs.StateBlockLaws.{block_state}
use Rattle.inputs.proofs.StateReaderLaws.{text_read}

-- a struct whose label is too long stands for no state
pub label_over : (b : StateBlock) → label_limit < b.label.length → state_of b ≡ none
unfolding state_of room_is_zero every provided
label_over b h = rw (lt-leb b.label.length label_limit h) refl

-- a text that says a state is not too long
pub said_short : (text : Bytes) (s : State) → read_state text ≡ some s → length text ≤ state_text_limit
said_short text s q = let t = state_read text s q in rw t.written (state_short s t.valid)

-- what is read of one that says a state is that state, with the number 0
said_read : (text : Bytes) (s : State) → read_state text ≡ some s → read_state_text text
    ≡ record { number = 0; state = s }
unfolding or_refused Option-elim
said_read text s q = text_read text (said_short text s q) ∙ ap or_refused q

-- and of one that says none it is a refusal
unsaid_refused : (text : Bytes) → read_state text ≡ none → (read_state_text text).number ≡ 0 → ⊥
unfolding read_state_text choose Option-elim
unsaid_refused text q = go (leb (length text) state_text_limit) (read_state text) q
  where
    go : (t : Bool) (o : Option State) → o ≡ none
        → (choose t (λ _. Option-elim o (refused_by 3) (λ (s : State). record { number = 0; state = s }))
        (λ _. refused_by 1)).number ≡ 0 → ⊥
    go true none e z = omega (arith, z)
    go true (some s) e z = absurd (none-ne-some s (sym e))
    go false o e z = omega (arith, z)

module _ (text : Bytes) (r : NumberedBlock) (e : r ≡ numbered_block (read_state_text text)) where
  -- what was read has the number of the definition
  number_read : r.number ≡ (read_state_text text).number
  unfolding numbered_block
  number_read = ap (λ (x : NumberedBlock). x.number) e

  -- a number says that the text says no state
  pub text-broken : (r.number ≡ 0 → ⊥) → read_state text ≡ none
  text-broken z = go (read_state text) refl
    where
      go : (o : Option State) → read_state text ≡ o → o ≡ none
      go none q = refl
      go (some s) q = absurd (z (number_read ∙ ap (λ (n : NumberedState). n.number) (said_read text s q)))

  -- and else the struct stands for the one that it says
  pub text-held : r.number ≡ 0 → state_of r.state ≡ read_state text
  unfolding numbered_block
  text-held z = go (read_state text) refl
    where
      go : (o : Option State) → read_state text ≡ o → state_of r.state ≡ o
      go none q = absurd (unsaid_refused text q (sym number_read ∙ z))
      go (some s) q =
          ap (λ (x : NumberedBlock). state_of x.state) (e ∙ ap numbered_block (said_read text s q))
          ∙ block_state s (state_read text s q).valid
