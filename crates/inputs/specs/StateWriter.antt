-- What the writer of a state's text leaves in the bytes lent to it (paper 01, What a call is
-- given).
use Rattle.std.specs.Prelude.{◌≡◌, ℕ, ◌+◌, ◌≤◌, leb, length}
use Rattle.std.proofs.Math.Option.{Option, none, map}
use Rattle.lists.specs.Choice.{choose}
use Rattle.lists.specs.Lists.{Bytes, written}
use Rattle.rules.specs.Limits.{state_text_limit}
use Rattle.rules.specs.StateText.{write_state}
use Rattle.rules.specs.Refusals.{valid_state}
use Rattle.inputs.specs.declared.state.State.{State as StateBlock}
use Rattle.inputs.specs.State.{state_of}

-- the text to write: that of a valid state, where there is room for the longest; nothing else is
-- written
unfoldable pub text_for : StateBlock → Bytes → Option Bytes
text_for b lent =
    choose (leb state_text_limit (length lent)) (λ _. map write_state (valid_state (state_of b)))
    (λ _. none)

-- ==== for contracts of private functions alone

-- a text was written into bytes from an offset on: it had room there; the offset after it; the
-- bytes, in which it stands in its place
pub record Wrote (old : Bytes) (at : ℕ) (text : Bytes) (next : ℕ) (new : Bytes) : Type 0 where
  pub room : at + length text ≤ length old
  pub offset : next ≡ at + length text
  pub bytes : new ≡ written old at text
