-- Laws of what the program makes of its files (specs/Files.antt): what comes of a refusal and of an
-- acceptance, and how much of the files has to be read.
use mathlib.Core.Path.{◌≡◌, refl, sym, ap, ap₂, subst, ◌∙◌}
use mathlib.Core.Bool.{Bool, true, false, cond}
use mathlib.Core.List.{[], ◌∷◌}
use mathlib.Core.Option
use mathlib.Core.Option.{Option, none, some, Option-elim, get_or}
use Prim.Native.Nat.{ℕ, ◌+◌, ◌≤◌}
use native.Mathlib.Omega.{arith}
use lib.ListN.{length, take}
use borrow.Author.Tests.{leb-true}
use Rattle.lists.specs.Choice.{is_some}
use Rattle.lists.specs.Lists.{Bytes, every, written}
use Rattle.lists.proofs.ListLaws.{every_cons}
use Rattle.lines.specs.Number.{ascii, decimal}
use Rattle.lines.specs.Line.{line as line_of}
use Rattle.rules.specs.Limits.{program_response_limit, configuration_limit, signed_text_limit, vrf_outputs_limit}
use Rattle.rules.specs.Limits.{value_limit, state_text_limit, request_limit}
use Rattle.rules.specs.State.{State}
use Rattle.rules.specs.StateText.{read_state}
use Rattle.rules.specs.Response.{Kind, Target, target_of}
use Rattle.rules.specs.Refusals.{Inputs, Call, Judgement, refused, passed, judge, value_found, map_after}
use Rattle.rules.specs.Calls.{Arguments, library_inputs, judge_call, number_of, next_log, next_state, value_of}
use Rattle.rules.specs.Calls.{written_first, output_after, text_of, text_after}
use Rattle.rules.specs.Program.{Files, Request, read_request, requested, judge_files, printed_version, printed}
use Rattle.rules.proofs.RefusalLaws.{refusal_leaves, zero_accepts, number_refused}
use Rattle.rules.proofs.ProgramLaws.{tests, files_there, missing_refused, unfit_refused, fit_judged}
use Rattle.rules.proofs.ProgramLaws.{cut_judged}
use Rattle.inputs.specs.declared.state.State.{State as StateBlock}
use Rattle.inputs.specs.State.{log_block, map_block, block_of, state_of}
use Rattle.inputs.specs.StateWriter.{text_for, Wrote}
use Rattle.std.specs.Prelude.{Some, None, Ok, Err, Result, Option as CodeOption}
use Rattle.inputs.specs.declared.refusal.Refusal.{Refusal}
use Rattle.inputs.specs.Refusal.{refusal_number}
use Rattle.inputs.specs.declared.state.Refused.{Refused}
use Rattle.inputs.proofs.RefusalNumberLaws.{above_zero}
use Rattle.checks.specs.declared.call.Accepted.{Accepted}
use Rattle.checks.specs.declared.call.Found.{Found}
use Rattle.checks.specs.Calls.{asked_kind, block_after, version_of, Answer, answer_of, accepted_answer, answer_in}
use Rattle.checks.proofs.AfterCallLaws.{text_accepted, accepted_number, accepted_state}
use Rattle.verifier.specs.declared.request.Request.{Request as RequestBlock}
use Rattle.verifier.specs.Request.{request_in}
use Rattle.verifier.specs.declared.files.Outcome.{Outcome}
use Rattle.verifier.specs.Files.{file_read, files_read, Outcome as Numbers, outcome_of, accepted_outcome, outcome_in, are_within, length_found}
use Rattle.verifier.specs.Files.{Left, IsRefusal}
use Rattle.verifier.specs.Files.{accepted_line}

-- what is written from byte 0 on stops at its length
stop_at : (line text line' : Bytes) (stop : ℕ) → Wrote line 0 text stop line' → stop ≡ length text
stop_at line text line' stop w = omega arith

-- ---- a refusal

-- its line is written, and it has no value nor new text
pub refusal_written : (k : Refusal) (stop : ℕ) (line line' : Bytes) → Wrote line 0 (line_of (ascii "no" ∷ decimal (refusal_number k) ∷ [])) stop line'
    → IsRefusal (refusal_number k) (record { line = stop; judged = Err k }) line line'
unfolding outcome_in outcome_of number_of printed value_of text_of is_some
refusal_written k stop line line' w = (rw (stop_at line _ line' stop w) refl, w.bytes)

-- a refusal leaves the bytes lent for the value as they were
refusal_value : (j : Judgement) (k : ℕ) (value : Bytes) → j ≡ refused k → value ≡ output_after value j
refusal_value j k value e = sym (ap (output_after value) e ∙ (refusal_leaves none value value k).1)

-- and those for the new text
refusal_left : (j : Judgement) (k : ℕ) (r : Outcome) (line value text line' value' : Bytes) → j ≡ refused k → IsRefusal k r line line'
    → value' ≡ output_after value j → Left j r line value text line' value' text
refusal_left j k r line value text line' value' e (h, l) v =
    record {
      outcome = h ∙ ap outcome_of (sym e);
      is_line = l ∙ ap (λ (x : Judgement). written line 0 (printed x)) (sym e);
      is_value = v;
      is_text = sym (ap (text_after text) e ∙ (refusal_leaves none value text k).2);
    }

-- ---- acceptance

-- the version that is printed, if there is one, is the one found
version_printed : (o : Option Target)
    → cond (is_some (Option.map (λ (t : Target). t.value) o)) (decimal (Option-elim o 0 (λ t. t.version))) (ascii "-") ≡ printed_version o
unfolding printed_version is_some Option-elim
version_printed none = refl
version_printed (some t) = refl

-- the line of an answer
abbrev accepting : Answer → Bytes
accepting r =
    line_of (ascii "yes" ∷ cond r.found (decimal r.version) (ascii "-") ∷ decimal r.state.log.size ∷ decimal r.state.map.count ∷ [])

-- that of an accepted call is printed
accepting_printed : (b : StateBlock) (c : Call) → accepting (answer_of b (passed c)) ≡ printed (passed c)
unfolding printed answer_of value_of value_found version_of block_after block_of log_block map_block next_state next_log
accepting_printed b c =
    ap (λ (v : Bytes). line_of (ascii "yes" ∷ v ∷ decimal c.parts.tree_size ∷ decimal (length (map_after c)) ∷ []))
    (version_printed (target_of c.parts.finding))

-- the line of an answer that accepts
accepted_said : (b : StateBlock) (f : CodeOption Found) → accepted_line f b.log.size b.map.count ≡ accepting (accepted_answer b f)
accepted_said b None = refl
accepted_said b (Some f) = refl

-- and its lengths, with those of the line and of the new text
abbrev lengths : ℕ → Answer → ℕ → Numbers
lengths stop r n = record { number = 0; line = stop; found = r.found; value = r.length; text = n }

accepted_lengths : (b : StateBlock) (f : CodeOption Found) (stop n : ℕ)
    → accepted_outcome stop (length_found f) n ≡ lengths stop (accepted_answer b f) n
accepted_lengths b None stop n = refl
accepted_lengths b (Some f) stop n = refl

-- ---- a call

module _ (kind : Option Kind) (b : StateBlock) (a : Arguments) (signed value : Bytes) (l : length value ≡ value_limit)
    (r : Result Accepted Refused) (value' : Bytes) (er : answer_in r ≡ answer_of b (judge_call kind (state_of b) a signed (length value)))
    (ev : value' ≡ output_after value (judge_call kind (state_of b) a signed (length value))) where
  -- it is given room for every value
  abbrev made : Judgement
  made = judge_call kind (state_of b) a signed value_limit

  -- the answer
  answer-made : answer_in r ≡ answer_of b made
  answer-made = subst (λ (n : ℕ). answer_in r ≡ answer_of b (judge_call kind (state_of b) a signed n)) l er

  -- the bytes lent for the value
  value_made : value' ≡ output_after value made
  value_made = subst (λ (n : ℕ). value' ≡ output_after value (judge_call kind (state_of b) a signed n)) l ev

  -- it is refused
  pub call-refused : (d : Refused) → r ≡ Err d → (o : Outcome) (line text line' : Bytes) → IsRefusal (refusal_number d.refusal) o line line'
      → Left made o line value text line' value' text
  unfolding answer_in answer_of
  call-refused d q o line text line' h =
      let k : refusal_number d.refusal ≡ number_of made = ap (λ (x : Answer). x.number) (ap answer_in (sym q) ∙ answer-made) in
      let z = above_zero d.refusal in
      refusal_left made (refusal_number d.refusal) o line value text line' value'
      (number_refused made (refusal_number d.refusal) k (λ e. omega arith)) h value_made

  -- it is accepted: its line and the text of its new state are written
  pub call-accepted : (x : Accepted) → r ≡ Ok x → (stop n : ℕ) (line text line' text' : Bytes)
      → Wrote line 0 (accepted_line x.found x.state.log.size x.state.map.count) stop line'
      → state_text_limit ≤ length text → n ≡ length (get_or (text_for x.state text) [])
      → text' ≡ written_first text (text_for x.state text)
      → Left made (record { line = stop; judged = Ok (record { value = length_found x.found; text = n }) }) line value text line' value' text'
  unfolding outcome_in outcome_of answer_in answer_of text_after judge_call
  call-accepted x e stop n line text line' text' w m en et =
      let i : Inputs = library_inputs kind a signed value_limit in
      let j : Judgement = judge (state_of b) i in
      let y : Answer = accepted_answer x.state x.found in
      let h : y ≡ answer_of b j = ap answer_in (sym e) ∙ answer-made in
      let k : number_of j ≡ 0 = sym (ap (λ (z : Answer). z.number) h) ∙ accepted_number x.state x.found in
      let g : y.found ≡ is_some (value_of j) = ap (λ (z : Answer). z.found) h in
      let v : y.length ≡ length (get_or (value_of j) []) = ap (λ (z : Answer). z.length) h in
      let s' : x.state ≡ block_after b j = sym (accepted_state x.state x.found) ∙ ap (λ (z : Answer). z.state) h in
      let (c, q) = zero_accepts (state_of b) i k in
      let t : text_for x.state text ≡ text_of j = text_accepted b i c q x.state s' text m in
      let p : accepted_line x.found x.state.log.size x.state.map.count ≡ printed j =
      accepted_said x.state x.found ∙ ap accepting (h ∙ ap (answer_of b) q) ∙ accepting_printed b c ∙ sym (ap printed q) in
      let s : stop ≡ length (printed j) = stop_at line _ line' stop w ∙ ap length p in
      let d : n ≡ length (get_or (text_of j) []) = en ∙ ap (λ (o : Option Bytes). length (get_or o [])) t in
      record {
        outcome = accepted_lengths x.state x.found stop n ∙ rw (s, g, v, d, k) refl;
        is_line = w.bytes ∙ ap (written line 0) p;
        is_value = value_made;
        is_text = et ∙ ap (written_first text) t;
      }

-- ---- the files

-- where none is too long, the request is not
pub request_within : (request response settings state sheet signed : Bytes) → are_within request response settings state sheet signed ≡ true
    → length request ≤ request_limit
request_within request response settings state sheet signed h = leb-true (length request) request_limit (every_cons _ _ h).0

module _ (unread : Bool) (request response settings state sheet signed : Bytes) where
  -- what is judged
  abbrev judged : Judgement
  judged = judge_files (files_read unread request response settings state sheet signed)

  -- one could not be read
  pub unread-refused : unread ≡ true → judged ≡ refused 1
  unfolding files_read file_read every
  unread-refused e = rw e (unfit_refused (files_read true request response settings state sheet signed) refl)

  -- one is too long
  pub over-refused : unread ≡ false → are_within request response settings state sheet signed ≡ false → judged ≡ refused 1
  unfolding files_read file_read
  over-refused e h = rw e (unfit_refused (files_read false request response settings state sheet signed) h)

  -- what comes of the files, as it is told
  abbrev pub Told : Outcome → Bytes → Bytes → Bytes → Bytes → Bytes → Bytes → Type 0
  Told r line value text line' value' text' =
      (outcome_in r ≡ outcome_of judged) × ((line' ≡ written line 0 (printed judged)) × ((value' ≡ output_after value judged) × (text' ≡ text_after text judged)))

  -- all of it
  left-told : (r : Outcome) (line value text line' value' text' : Bytes) → Left judged r line value text line' value' text'
      → Told r line value text line' value' text'
  left-told r line value text line' value' text' l = (l.outcome, (l.is_line, (l.is_value, l.is_text)))

  -- a refusal with 1
  pub refusal-told : judged ≡ refused 1 → (r : Outcome) (line value text line' : Bytes) → IsRefusal 1 r line line' → Told r line value text line' value text
  refusal-told e r line value text line' h =
      left-told r line value text line' value text (refusal_left judged 1 r line value text line' value e h (refusal_value judged 1 value e))

  -- else what comes of the call asked for, as request and state were read, is told
  pub call-told : unread ≡ false → are_within request response settings state sheet signed ≡ true → (q : RequestBlock) → request_in q ≡ read_request request
      → (b : StateBlock) → state_of b ≡ read_state state → (r : Outcome) (line value text line' value' text' : Bytes)
      → Left (judge_call (asked_kind q.asked) (state_of b) (requested (request_in q) response settings sheet) signed value_limit)
      r line value text line' value' text'
      → Told r line value text line' value' text'
  unfolding files_read file_read request_in
  call-told e h q eq b eb r line value text line' value' text' l =
      let asked : Request → Option State → Judgement = λ x y. judge_call x.kind y (requested x response settings sheet) signed value_limit in
      let j : asked (request_in q) (state_of b) ≡ judged =
      ap₂ asked eq eb ∙ sym (fit_judged request response settings state sheet signed h)
      ∙ ap (λ (t : Bool). judge_files (files_read t request response settings state sheet signed)) (sym e) in
      left-told r line value text line' value' text' (subst (λ (x : Judgement). Left x r line value text line' value' text') j l)

-- ---- reading enough of the files

-- where a file is missing, it does not matter what was read of the others
pub missing_read : (f : Files) → every (tests (λ _ o. is_some o) f) ≡ false → (request response settings state sheet signed : Bytes)
    → judge_files (files_read true request response settings state sheet signed) ≡ judge_files f
missing_read f e request response settings state sheet signed =
    unread-refused true request response settings state sheet signed refl ∙ sym (missing_refused f e)

-- where all are there, one byte more of each than is allowed is enough
pub enough_read : (request response settings state sheet signed : Bytes)
    → judge_files
    (files_read
    false
    (take (request_limit + 1) request)
    (take (program_response_limit + 1) response)
    (take (configuration_limit + 1) settings)
    (take (state_text_limit + 1) state)
    (take (vrf_outputs_limit + 1) sheet)
    (take (signed_text_limit + 1) signed))
    ≡ judge_files (files_there request response settings state sheet signed)
unfolding files_read file_read
enough_read request response settings state sheet signed = cut_judged (files_there request response settings state sheet signed)
