-- Laws of the signed text over state texts (rules/specs/Calls.antt, kt_signed_text): the answer, and
-- the lent bytes afterwards.
use mathlib.Core.Path.{◌≡◌, refl}
use mathlib.Core.Option.{Option}
use Prim.Native.Nat.{ℕ, ◌≤◌, ◌<◌}
use lib.ListN.{length}
use Rattle.lists.specs.Lists.{Bytes}
use Rattle.rules.specs.Limits.{state_text_limit}
use Rattle.rules.specs.StateText.{read_state}
use Rattle.rules.specs.Response.{Kind}
use Rattle.rules.specs.Refusals.{Judgement}
use Rattle.rules.specs.Calls.{Arguments, judge_unsigned, signed_text_after, kind_numbered, kt_signed_text}
use Rattle.inputs.specs.declared.state.State.{State as StateBlock}
use Rattle.inputs.specs.State.{state_of}
use Rattle.kt.proofs.CallExportLaws.{text-refused, text-fits}

module _ (kind : ℕ) (text : Bytes) (a : Arguments) (buffer : Bytes) (offset : ℕ) where
  -- what the rules say of the state that the text says
  abbrev unsigned : Judgement
  unsigned = judge_unsigned (read_state text) (kind_numbered kind) a

  -- the answer, and what stands in the lent bytes
  abbrev Answers : ℕ → Bytes → Type 0
  Answers n buffer' = (n ≡ (kt_signed_text kind text a buffer offset).0) × (buffer' ≡ (kt_signed_text kind text a buffer offset).1)

  -- the text of the state is too long
  pub signed-text-over : state_text_limit < length text → Answers 1 buffer
  unfolding kt_signed_text signed_text_after
  signed-text-over h = rw (text-refused text unsigned h) (refl, refl)

  -- else the answer is that for the state, and for the kind of the number
  pub signed-text-answered : length text ≤ state_text_limit → (b : StateBlock) → state_of b ≡ read_state text → (o : Option Kind) → o ≡ kind_numbered kind
      → (n : ℕ) (buffer' : Bytes)
      → let t = signed_text_after buffer offset (judge_unsigned (state_of b) o a) in
      (n ≡ t.0) × (buffer' ≡ t.1) → Answers n buffer'
  unfolding kt_signed_text
  signed-text-answered l b s o k n buffer' h = rw (text-fits text unsigned l, ← s, ← k) h
