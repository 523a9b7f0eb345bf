-- Laws of a call over state texts (rules/specs/Calls.antt, kt_call): which texts fit, the answer as
-- one number, and the lent bytes afterwards.
use mathlib.Core.Path.{◌≡◌, refl, sym, ap, ◌∙◌}
use mathlib.Core.Bool.{Bool, true, false}
use mathlib.Core.List.{[]}
use mathlib.Core.Option.{Option, none, some, get_or, map}
use Prim.Native.Nat.{ℕ, ◌+◌, ◌*◌, ◌^◌, ◌≤◌, ◌<◌}
use native.Mathlib.Omega.{arith}
use lib.Dec.{leb}
use lib.ListN.{length}
use borrow.Author.Tests.{le-leb, lt-leb}
use Rattle.lists.specs.Choice.{choose}
use Rattle.lists.specs.Lists.{Bytes}
use Rattle.lists.proofs.ChoiceLaws.{choose_true, choose_false}
use Rattle.rules.specs.Limits.{value_limit, state_text_limit}
use Rattle.rules.specs.State.{State}
use Rattle.rules.specs.StateText.{read_state, write_state}
use Rattle.rules.specs.Response.{Kind, Target, Finding, searched, monitored, target_of}
use Rattle.rules.specs.Refusals.{Inputs, Judgement, refused, passed, valid_state, judge, value_found}
use Rattle.rules.specs.Calls.{Arguments, library_inputs, judge_call, number_of, value_of, written_first}
use Rattle.rules.specs.Calls.{output_after}
use Rattle.rules.specs.Calls.{text_judged, room_judged, kt_call, text_of, text_after, answer_word}
use Rattle.rules.proofs.PartsLaws.{FindingFits, response_fits}
use Rattle.rules.proofs.StateTextLaws.{state_short}
use Rattle.rules.proofs.RefusalLaws.{refusal_leaves, zero_accepts, number_refused, valid_some}
use Rattle.rules.proofs.AcceptedLaws.{accepted_call}
use Rattle.inputs.specs.declared.state.State.{State as StateBlock}
use Rattle.inputs.specs.State.{state_of}
use Rattle.inputs.specs.StateWriter.{text_for}
use Rattle.std.specs.Prelude.{Some, None, Ok, Err, Result, Option as CodeOption}
use Rattle.inputs.specs.Refusal.{refusal_number}
use Rattle.inputs.specs.declared.state.Refused.{Refused}
use Rattle.inputs.proofs.RefusalNumberLaws.{above_zero}
use Rattle.checks.specs.declared.call.Accepted.{Accepted}
use Rattle.checks.specs.declared.call.Found.{Found}
use Rattle.checks.specs.Calls.{block_after, Answer, answer_of, accepted_answer, answer_in}
use Rattle.checks.proofs.AfterCallLaws.{text_accepted, accepted_number, accepted_state}
use Rattle.kt.specs.Exports.{length_found}

-- ---- the lengths in an answer

-- a text that is written is not too long
pub text_short : (b : StateBlock) (lent : Bytes) (n : ℕ) → n ≡ length (get_or (text_for b lent) []) → n ≤ state_text_limit
unfolding text_for choose
text_short b lent n e = rw e (go (leb state_text_limit (length lent)) (valid_state (state_of b)) refl)
  where
    go : (t : Bool) (o : Option State) → valid_state (state_of b) ≡ o
        → length (get_or (choose t (λ _. map write_state o) (λ _. none)) []) ≤ state_text_limit
    go true (some s) q = state_short s (valid_some (state_of b) s q).1
    go true none q = omega arith
    go false o q = omega arith

-- nor is a value that a response may have
found_short : (f : Finding) → FindingFits f → length (get_or (map (λ (t : Target). t.value) (target_of f)) []) ≤ value_limit
unfolding target_of
found_short (searched t) h = h.value
found_short monitored h = omega arith

-- or that a call found
value_short : (s : Option State) (i : Inputs) → length (get_or (value_of (judge s i)) []) ≤ value_limit
unfolding value_of value_found
value_short s i = go (judge s i) refl
  where
    go : (j : Judgement) → judge s i ≡ j → length (get_or (value_of j) []) ≤ value_limit
    go (refused k) q = omega arith
    go (passed c) q =
        let (_, h) = accepted_call s i c q in
        found_short c.parts.finding (response_fits c.inputs.response c.parts h.reads).finding

-- an answer that accepts tells how many bytes were found
length_told : (b : StateBlock) (f : CodeOption Found) → length_found f ≡ (accepted_answer b f).length
length_told b None = refl
length_told b (Some f) = refl

-- as its answer says
pub answer_short : (kind : Option Kind) (a : Arguments) (signed : Bytes) (room : ℕ) (b : StateBlock) (r : Result Accepted Refused)
    → answer_in r ≡ answer_of b (judge_call kind (state_of b) a signed room) → (x : Accepted) → r ≡ Ok x → length_found x.found ≤ value_limit
unfolding answer_in answer_of judge_call
answer_short kind a signed room b r e x q =
    let h : accepted_answer x.state x.found ≡ answer_of b (judge_call kind (state_of b) a signed room) = ap answer_in (sym q) ∙ e in
    rw (length_told x.state x.found ∙ ap (λ (y : Answer). y.length) h) (value_short (state_of b) (library_inputs kind a signed room))

-- ---- the state's text

module _ (text : Bytes) (j : Judgement) where
  -- the text of the state is too long
  pub text-refused : state_text_limit < length text → text_judged text j ≡ refused 1
  unfolding text_judged
  text-refused h = choose_false (leb (length text) state_text_limit) _ _ (lt-leb (length text) state_text_limit h)

  -- it is not
  pub text-fits : length text ≤ state_text_limit → text_judged text j ≡ j
  unfolding text_judged
  text-fits l = choose_true (leb (length text) state_text_limit) _ _ (le-leb (length text) state_text_limit l)

-- ---- a call

module _ (kind : Option Kind) (text : Bytes) (a : Arguments) (signed output new_text : Bytes) where
  -- what is judged
  abbrev judged : Judgement
  judged = kt_call kind text a signed (length output) new_text

  -- one number, and what stands in the lent bytes
  abbrev pub Answers : ℕ → Bytes → Bytes → Type 0
  Answers word output' new_text' = (word ≡ answer_word judged) × ((output' ≡ output_after output judged) × (new_text' ≡ text_after new_text judged))

  -- a refusal is its number, and nothing is written
  refusal : (k : ℕ) → judged ≡ refused k → Answers k output new_text
  unfolding answer_word number_of value_of text_of
  refusal k e =
      let (_, v, t) = refusal_leaves none output new_text k in
      (rw e (omega arith), (sym (ap (output_after output) e ∙ v), sym (ap (text_after new_text) e ∙ t)))

  -- the text of the state is too long
  pub call-over : state_text_limit < length text → Answers 1 output new_text
  unfolding kt_call
  call-over h = refusal 1 (text-refused text _ h)

  module _ (l : length text ≤ state_text_limit) where
    -- there is too little room for the new one
    pub call-unplaced : length new_text < state_text_limit → Answers 1 output new_text
    unfolding kt_call room_judged
    call-unplaced h =
        refusal 1 (text-fits text _ l ∙ choose_false (leb state_text_limit (length new_text)) _ _ (lt-leb state_text_limit (length new_text) h))

    module _ (m : state_text_limit ≤ length new_text) (b : StateBlock) (s : state_of b ≡ read_state text) where
      -- the call as it is made, for the state that the text says
      abbrev made : Judgement
      made = judge_call kind (state_of b) a signed (length output)

      -- it is what is judged, where the texts fit
      call-judged : judged ≡ made
      unfolding kt_call room_judged
      call-judged =
          text-fits text _ l ∙ choose_true (leb state_text_limit (length new_text)) _ _ (le-leb state_text_limit (length new_text) m)
          ∙ ap (λ (o : Option State). judge_call kind o a signed (length output)) (sym s)

      module _ (r : Result Accepted Refused) (output' : Bytes) (e : answer_in r ≡ answer_of b made) (f : output' ≡ output_after output made) where
        -- the output bytes are those that the rules say
        output-after : output' ≡ output_after output judged
        output-after = f ∙ ap (output_after output) (sym call-judged)

        -- a refusal is answered by its number
        pub call-refused : (d : Refused) → r ≡ Err d → Answers (refusal_number d.refusal) output' new_text
        unfolding answer_in answer_of
        call-refused d q =
            let k : refusal_number d.refusal ≡ number_of made = ap (λ (x : Answer). x.number) (ap answer_in (sym q) ∙ e) in
            let z = above_zero d.refusal in
            let j = call-judged ∙ number_refused made (refusal_number d.refusal) k (λ x. omega arith) in
            let (w, (_, t)) = refusal (refusal_number d.refusal) j in
            (w, (output-after, t))

        -- of an acceptance the lengths of the value and of the new text are told, and the text is
        -- written
        pub call-answered : (x : Accepted) → r ≡ Ok x → (n : ℕ) (new_text' : Bytes) → n ≡ length (get_or (text_for x.state new_text) [])
            → new_text' ≡ written_first new_text (text_for x.state new_text) → Answers (length_found x.found * 2 ^ 8 + n * 2 ^ 32) output' new_text'
        unfolding answer_word text_after answer_in answer_of judge_call
        call-answered x p n new_text' h k =
            let i : Inputs = library_inputs kind a signed (length output) in
            let j : Judgement = judge (state_of b) i in
            let y : Answer = accepted_answer x.state x.found in
            let g : y ≡ answer_of b j = ap answer_in (sym p) ∙ e in
            let z : number_of j ≡ 0 = sym (ap (λ (u : Answer). u.number) g) ∙ accepted_number x.state x.found in
            let ev : length_found x.found ≡ length (get_or (value_of j) []) = length_told x.state x.found ∙ ap (λ (u : Answer). u.length) g in
            let st : x.state ≡ block_after b j = sym (accepted_state x.state x.found) ∙ ap (λ (u : Answer). u.state) g in
            let (c, q) = zero_accepts (state_of b) i z in
            let t : text_for x.state new_text ≡ text_of j = text_accepted b i c q x.state st new_text m in
            let d : n ≡ length (get_or (text_of j) []) = h ∙ ap (λ (o : Option Bytes). length (get_or o [])) t in
            let w : length_found x.found * 2 ^ 8 + n * 2 ^ 32 ≡ answer_word j = omega (arith, z, ev, d) in
            (w ∙ ap answer_word (sym call-judged), (output-after, k ∙ ap (written_first new_text) t ∙ ap (text_after new_text) (sym call-judged)))
