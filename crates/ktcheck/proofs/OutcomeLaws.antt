-- The lengths that an outcome tells count bytes of those lent, since a text that is written from
-- byte 0 on is no longer than the bytes that are there then.
use mathlib.Core.Path.{◌≡◌, refl, sym, ap, ◌∙◌}
use mathlib.Core.List.{[], ◌++◌}
use mathlib.Core.Option.{Option, none, some, Option-elim, get_or}
use Prim.Native.Nat.{ℕ, ◌+◌, ◌≤◌}
use native.Mathlib.Omega.{arith}
use lib.ListN.{length, drop, length-append}
use lib.Seq.{length-take-le}
use Rattle.std.specs.Prelude.{Some, None, Ok, Err, Result, Option as CodeOption}
use Rattle.std.specs.Counts.{IsPrefixLen}
use Rattle.lists.specs.Lists.{Bytes, written}
use Rattle.rules.specs.Refusals.{Judgement}
use Rattle.rules.specs.Calls.{value_of, written_first, output_after, text_of, text_after}
use Rattle.rules.specs.Program.{printed}
use Rattle.inputs.specs.declared.refusal.Refusal.{Refusal}
use Rattle.verifier.specs.declared.files.Outcome.{Outcome}
use Rattle.verifier.specs.declared.files.Written.{Written}
use Rattle.verifier.specs.Files.{Outcome as Numbers, outcome_of, outcome_in, accepted_outcome, told}

-- as many bytes as there are at most
prefix_len_of_le : (n : ℕ) (s : Bytes) → n ≤ length s → IsPrefixLen n s
prefix_len_of_le n s h = (h, sym (length-take-le n s h))

-- a text that is written from byte 0 on
first_counted : (s t : Bytes) → IsPrefixLen (length t) (written s 0 t)
unfolding written
first_counted s t =
    let h : length t ≤ length (t ++ drop (0 + length t) s) = omega (arith, length-append t (drop (0 + length t) s)) in
    prefix_len_of_le _ _ h

-- the same where there may be none
any_counted : (s : Bytes) (t : Option Bytes) → IsPrefixLen (length (get_or t [])) (written_first s t)
unfolding written_first Option-elim
any_counted s none = prefix_len_of_le 0 s (omega arith)
any_counted s (some t) = first_counted s t

-- the line and the text that are told
accepted_line : (n : ℕ) (v : CodeOption ℕ) (t : ℕ) → (accepted_outcome n v t).line ≡ n
accepted_line n None t = refl
accepted_line n (Some k) t = refl

told_line : (n : ℕ) (r : Result Written Refusal) → (told n r).line ≡ n
told_line n (Ok w) = accepted_line n w.value w.text
told_line n (Err k) = refl

accepted_text : (n : ℕ) (v : CodeOption ℕ) (t : ℕ) → (accepted_outcome n v t).text ≡ t
accepted_text n None t = refl
accepted_text n (Some k) t = refl

module _ (j : Judgement) (r : Outcome) (e : outcome_in r ≡ outcome_of j) (s s' : Bytes) where
  -- the line
  pub line-counted : s' ≡ written s 0 (printed j) → IsPrefixLen r.line s'
  unfolding outcome_in outcome_of
  line-counted f =
      let l : r.line ≡ length (printed j) = sym (told_line r.line r.judged) ∙ ap (λ (x : Numbers). x.line) e in
      rw (l, f) (first_counted s (printed j))

  module _ (w : Written) (a : r.judged ≡ Ok w) where
    -- what is told of an acceptance
    as-told : accepted_outcome r.line w.value w.text ≡ outcome_of j
    unfolding outcome_in
    as-told = ap (told r.line) (sym a) ∙ e

    -- the value
    pub value-counted : (n : ℕ) → w.value ≡ Some n → s' ≡ output_after s j → IsPrefixLen n s'
    unfolding outcome_of output_after
    value-counted n v f =
        let l : n ≡ length (get_or (value_of j) []) =
        ap (λ (x : Numbers). x.value) (ap (λ (o : CodeOption ℕ). accepted_outcome r.line o w.text) (sym v) ∙ as-told) in
        rw (l, f) (any_counted s (value_of j))

    -- the new state's text
    pub text-counted : s' ≡ text_after s j → IsPrefixLen w.text s'
    unfolding outcome_of text_after
    text-counted f =
        let l : w.text ≡ length (get_or (text_of j) []) =
        sym (accepted_text r.line w.value w.text) ∙ ap (λ (x : Numbers). x.text) as-told in
        rw (l, f) (any_counted s (text_of j))
