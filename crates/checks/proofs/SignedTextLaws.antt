-- Laws of the signed text: what the call is given is read, then tried, and the text of a call that
-- passes is placed.
use mathlib.Core.Path.{◌≡◌, refl}
use mathlib.Core.List.{[]}
use mathlib.Core.Option.{none}
use Prim.Native.Nat.{ℕ, zero, suc, ◌+◌}
use lib.Dec.{leb}
use lib.ListN.{length}
use Rattle.std.specs.Prelude.{Option as CodeOption, Ok, Err, Result, is_ok}
use Rattle.lists.specs.Lists.{Bytes}
use Rattle.rules.specs.Configuration.{tree_head}
use Rattle.rules.specs.Refusals.{Judgement, tree_head_of}
use Rattle.rules.specs.Calls.{judge_unsigned, placed, signed_text_after, kind_numbered}
use Rattle.inputs.specs.declared.refusal.Refusal.{Refusal}
use Rattle.inputs.specs.declared.response_lines.Kind.{Kind as KindBlock}
use Rattle.inputs.specs.declared.state.State.{State as StateBlock}
use Rattle.inputs.specs.State.{state_of}
use Rattle.checks.specs.declared.trial.Passed.{Passed as PassedBlock}
use Rattle.checks.specs.Calls.{asked_kind, arguments_of, length_in, is_placed, Is1to14Tried}
use Rattle.checks.proofs.LastChecksLaws.{head-given}

-- a number from 2 on is no kind
pub no_kind : (kind : ℕ) → (kind ≡ 0 → ⊥) → (kind ≡ 1 → ⊥) → none ≡ kind_numbered kind
unfolding kind_numbered
no_kind zero y z = absurd (y refl)
no_kind (suc zero) y z = absurd (z refl)
no_kind (suc (suc k)) y z = refl

module _ (asked : CodeOption KindBlock) (response configuration : Bytes) (b : StateBlock) (identifier : Bytes)
    (clock : ℕ) (outputs buffer : Bytes) (offset : ℕ) (block : Bytes)
  where
    -- what the rules say of it
    abbrev unsigned : Judgement
    unsigned =
        judge_unsigned (state_of b) (asked_kind asked)
        (arguments_of response configuration identifier clock outputs)

    -- the answer, whether there is a text, and the lent bytes afterwards
    abbrev Answers : Result ℕ Refusal → Bytes → Type 0
    Answers a buffer' =
        (length_in a ≡ (signed_text_after buffer offset unsigned).0)
        × (is_ok a ≡ is_placed buffer offset unsigned)
        × (buffer' ≡ (signed_text_after buffer offset unsigned).1)

    -- what 1 to 14 say
    abbrev Told : Result PassedBlock Refusal → Type 0
    Told r = Is1to14Tried asked response configuration b identifier clock outputs [] r block

    -- one of them applies
    pub text-refused : (e : Refusal) → Told (Err e) → Answers (Err e) buffer
    unfolding judge_unsigned signed_text_after is_placed length_in
    text-refused e h = rw (h 0) (refl, refl, refl)

    -- none does: the text is placed
    pub text-placed : (p : PassedBlock) → Told (Ok p) → (a : Result ℕ Refusal) (buffer' : Bytes)
        → let text = tree_head configuration p.call.response.tree_size p.checked.root in
        (length_in a ≡ (placed buffer offset text).0) → (is_ok a ≡ leb (offset + length text) (length buffer))
        → (buffer' ≡ (placed buffer offset text).1) → Answers a buffer'
    unfolding judge_unsigned signed_text_after is_placed
    text-placed p h a buffer' n o w =
        let (c, e, i, l) = h.1 0 in
        let text : tree_head configuration p.call.response.tree_size p.checked.root ≡ tree_head_of c =
        head-given i p.checked.root l.root in
        rw (e, ← text) (n, o, w)
