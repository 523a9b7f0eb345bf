-- Reading and writing a state's text undo each other, as the two functions do it (specs/State.antt,
-- specs/StateWriter.antt).
use mathlib.Core.Path.{◌≡◌, refl, ◌∙◌}
use mathlib.Core.Option.{some, Option-elim}
use Prim.Native.Nat.{◌≤◌}
use lib.Dec.{leb}
use lib.ListN.{length}
use borrow.Author.Tests.{le-leb}
use Rattle.lists.specs.Choice.{choose}
use Rattle.lists.specs.Lists.{Bytes}
use Rattle.lists.proofs.ChoiceLaws.{choose_true}
use Rattle.rules.specs.Limits.{state_text_limit}
use Rattle.rules.specs.State.{State, HasBytes}
use Rattle.rules.specs.StateText.{read_state, read_state_text, write_state}
use Rattle.rules.specs.Refusals.{valid_state}
use Rattle.rules.proofs.StateTextLaws.{read_write, state_read, state_short}
use Rattle.rules.proofs.RefusalLaws.{valid_some}
use Rattle.inputs.specs.declared.state.State.{State as StateBlock}
use Rattle.inputs.specs.State.{block_of, numbered_block, state_of}
use Rattle.inputs.specs.StateWriter.{text_for}
use Rattle.inputs.proofs.StateBlockLaws.{Sized, state_block, block_stands}

-- a text that reads as a state gives it with the number 0
text_read : (t : Bytes) (s : State) → length t ≤ state_text_limit → read_state t ≡ some s → read_state_text t
    ≡ record { number = 0; state = s }
unfolding read_state_text choose Option-elim
text_read t s h e = rw (le-leb (length t) state_text_limit h, e) refl

-- the text that is written of a struct reads as that struct
pub written_reads : (b : StateBlock) (s : State) → Sized b → valid_state (state_of b) ≡ some s → HasBytes s
    → numbered_block (read_state_text (write_state s)) ≡ record { number = 0; state = b }
unfolding numbered_block
written_reads b s z e h =
    let v = (valid_some (state_of b) s e).1 in
    rw (text_read (write_state s) s (state_short s v) (read_write s v h), state_block b s z e) refl

-- of a text that reads, with room enough, the same text is written
pub read_writes : (t lent : Bytes) (s : State) → read_state t ≡ some s → state_text_limit ≤ length lent
    → text_for (block_of s) lent ≡ some t
unfolding text_for
read_writes t lent s e h =
    let r = state_read t s e in
    choose_true (leb state_text_limit (length lent)) _ _ (le-leb state_text_limit (length lent) h)
    ∙ rw (block_stands s r.valid, ← r.written) refl
