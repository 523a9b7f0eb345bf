-- Laws of a call that is given a response (specs/Calls.antt): what 1 to 14 say of it, then 15, and 16
-- on what they let pass.
use mathlib.Core.Path.{◌≡◌, refl, sym, ap, ◌∙◌}
use mathlib.Core.Bool.{Bool, true, false}
use mathlib.Core.List.{◌++◌}
use Prim.Native.Nat.{ℕ}
use native.Mathlib.Omega.{arith}
use lib.Count.{ones}
use lib.ListN.{length}
use Rattle.std.specs.Prelude.{Option as CodeOption, Ok, Err, Result}
use Rattle.lists.specs.Lists.{Bytes, same, runs}
use Rattle.rules.specs.Limits.{response_limit, hash_length}
use Rattle.rules.specs.Configuration.{tree_head}
use Rattle.rules.specs.State.{State}
use Rattle.rules.specs.Refusals.{Inputs, Call, Judgement, refused, passed, tried, tried_after, read_call, checks}
use Rattle.rules.specs.Refusals.{last_checks, judge, judge_without_head}
use Rattle.rules.specs.Calls.{inputs_within, library_inputs, judge_call, output_after}
use Rattle.rules.proofs.RefusalLaws.{passes, number_refused, tried_append}
use Rattle.inputs.specs.declared.refusal.Refusal.{Refusal}
use Rattle.inputs.specs.declared.refusal.Refusal.TheVariants.{SignedText}
use Rattle.inputs.specs.declared.response_lines.Kind.{Kind as KindBlock}
use Rattle.inputs.specs.declared.state.State.{State as StateBlock}
use Rattle.inputs.specs.Refusal.{refusal_number}
use Rattle.inputs.specs.State.{state_of, contents, label_in, log_in, map_in}
use Rattle.checks.specs.declared.call.Accepted.{Accepted}
use Rattle.checks.specs.declared.readings.Call.{Call as CallBlock}
use Rattle.checks.specs.declared.trial.Tried.{Tried}
use Rattle.checks.specs.declared.trial.Checked.{Checked}
use Rattle.checks.specs.declared.trial.Passed.{Passed as PassedBlock}
use Rattle.checks.specs.Calls.{asked_kind, arguments_of, answer_of, answer_from, number_tried, rules16, IsGiven}
use Rattle.checks.specs.Calls.{IsReading, Tells, Checkable, Is6to13Tried, Is14Tried, Is1to14Tried, Leaves}
use Rattle.checks.specs.Calls.{Accepting, IsAcceptedAnswer, AreAcceptedBytes}
use Rattle.checks.proofs.TrialLaws.{Numbered, none_applies, refusal_numbered}
use Rattle.checks.proofs.Trial6to14Laws.{lines-refused, lines-passed}
use Rattle.checks.proofs.StateStructLaws.{stands_for}
use Rattle.checks.proofs.LastChecksLaws.{text-differs, text_same}
use Rattle.checks.proofs.AcceptLaws.{answer_refused, bytes_refused}

-- no rule of 6 to 14 has the number 0
numbered_checks : Numbered checks
unfolding checks
numbered_checks = omega arith

-- ---- 1 to 14

module _ (asked : CodeOption KindBlock) (text configuration : Bytes) (b : StateBlock) (identifier : Bytes)
    (clock : ℕ) (outputs signed block : Bytes)
  where
    -- what comes of them
    abbrev Told : Result PassedBlock Refusal → Type 0
    Told r = Is1to14Tried asked text configuration b identifier clock outputs signed r block

    -- what is read
    abbrev Read : Result CallBlock Refusal → Type 0
    Read r = IsReading response_limit (state_of b) text configuration identifier clock outputs signed r

    -- refused while it was read
    pub reading-refused : (e : Refusal) → Read (Err e) → Told (Err e)
    unfolding judge_without_head tried_after library_inputs
    reading-refused e h room = ap (tried_after checks) (h (asked_kind asked) room)

    module _ (k : CallBlock) (h : Read (Ok k))
        (x : Checkable text k identifier b outputs)
      where
        -- a call that was read, given some room
        abbrev IsRead : ℕ → Call → Type 0
        IsRead room c =
            IsGiven c response_limit (asked_kind asked) (state_of b) k text configuration identifier outputs signed room

        -- what 1 to 14 judge
        abbrev judged : ℕ → Judgement
        judged room =
            judge_without_head (state_of b) (library_inputs (asked_kind asked)
            (arguments_of text configuration identifier clock outputs) signed room)

        -- it is what 6 to 14 do of the one that was read
        rules-left : (room : ℕ) → (c : Call) × (judged room ≡ tried checks c) × IsRead room c
        unfolding judge_without_head tried_after library_inputs
        rules-left room =
            let (_, _, f) = h in
            let (c, e, i) = f (asked_kind asked) room in
            (c, ap (tried_after checks) e, i)

        module _ (room : ℕ) (c : Call) (i : IsRead room c) where
          -- its state is that of the struct
          state-is : c.state ≡ contents b
          state-is = stands_for b c.state i.state

          -- refused with 6 to 13
          six-refused : (e : Refusal) → Is6to13Tried asked text k identifier b outputs (Err e)
              → refusal_number e ≡ number_tried checks c
          unfolding contents label_in map_in inputs_within arguments_of
          six-refused e g =
              lines-refused x asked c i.call (ap (λ (y : Inputs). y.kind) i.inputs)
              (ap (λ (y : Inputs). y.identifier) i.inputs)
              (ap (λ (y : State). y.label) state-is) (ap (λ (y : State). y.monitoring_map) state-is) e g

          -- what is left of 6 to 14 is 14
          walk-told : (t : Tried) → Is6to13Tried asked text k identifier b outputs (Ok t)
              → (r : Result Checked Refusal) → Is14Tried text k t b.log.values r block
              → Tells r checks c (λ y. Leaves c k y block)
          unfolding contents label_in log_in map_in inputs_within arguments_of
          walk-told t g r w =
              let n : b.log.size ≡ k.kept_size = sym (ap (λ (y : State). y.log.size) state-is) ∙ i.call.size in
              lines-passed x asked c i.call (ap (λ (y : Inputs). y.kind) i.inputs)
              (ap (λ (y : Inputs). y.identifier) i.inputs)
              (ap (λ (y : State). y.label) state-is) (ap (λ (y : State). y.monitoring_map) state-is) t g
              b.log.values
              (ap (λ (y : State). y.log.values) state-is
              ∙ ap (λ (m : ℕ). runs (ones m) hash_length b.log.values) n)
              r block w

        -- refused with 6 to 14
        told-refused : (e : Refusal)
            → ((room : ℕ) (c : Call) → IsRead room c → refusal_number e ≡ number_tried checks c) → Told (Err e)
        told-refused e f room =
            let (c, q, i) = rules-left room in
            q ∙ number_refused (tried checks c) (refusal_number e) (f room c i) (refusal_numbered e)

        -- refused with 6 to 13
        pub state-refused : (e : Refusal) → Is6to13Tried asked text k identifier b outputs (Err e) → Told (Err e)
        state-refused e g = told-refused e (λ room c i. six-refused room c i e g)

        module _ (t : Tried) (g : Is6to13Tried asked text k identifier b outputs (Ok t)) where
          -- refused with 14
          pub walk-refused : (e : Refusal) → Is14Tried text k t b.log.values (Err e) block → Told (Err e)
          walk-refused e w = told-refused e (λ room c i. (walk-told room c i t g (Err e) w).0)

          -- all passed
          pub walk-passed : (r : Checked) → Is14Tried text k t b.log.values (Ok r) block
              → Told (Ok (record { call = k; checked = r }))
          walk-passed r w = (
            h.0,
            λ room.
                let (c, q, i) = rules-left room in
                let (n, l) = walk-told room c i t g (Ok r) w in
                (c, q ∙ passes checks c (none_applies checks c numbered_checks n), i, l),
          )

-- ---- 15 and 16

module _ (asked : CodeOption KindBlock) (text configuration : Bytes) (b : StateBlock) (identifier : Bytes)
    (clock : ℕ) (outputs signed block output : Bytes)
  where
    -- what the rules say of the call
    abbrev whole : Judgement
    whole =
        judge_call (asked_kind asked) (state_of b) (arguments_of text configuration identifier clock outputs) signed
        (length output)

    -- what is answered, and what stands in the output bytes
    abbrev Answers : Result Accepted Refusal → Bytes → Type 0
    Answers a output' = (answer_from b a ≡ answer_of b whole) × (output' ≡ output_after output whole)

    -- after 1 to 14 the others are tried
    last-left : whole
        ≡ tried_after last_checks (judge_without_head (state_of b) (library_inputs (asked_kind asked)
        (arguments_of text configuration identifier clock outputs) signed (length output)))
    unfolding judge_call judge judge_without_head tried_after
    last-left =
        go (read_call (state_of b) (library_inputs (asked_kind asked)
        (arguments_of text configuration identifier clock outputs) signed (length output)))
      where
        go : (j : Judgement) → tried_after (checks ++ last_checks) j ≡ tried_after last_checks (tried_after checks j)
        go (refused n) = refl
        go (passed c) = tried_append checks last_checks c

    -- a refusal
    refused-with : (e : Refusal) → whole ≡ refused (refusal_number e) → Answers (Err e) output
    unfolding answer_from
    refused-with e q = (answer_refused b whole (refusal_number e) q, bytes_refused output whole (refusal_number e) q)

    -- refused with 1 to 14
    pub checks-refused : (e : Refusal)
        → Is1to14Tried asked text configuration b identifier clock outputs signed (Err e) block
        → Answers (Err e) output
    unfolding tried_after
    checks-refused e h = refused-with e (last-left ∙ ap (tried_after last_checks) (h (length output)))

    module _ (p : PassedBlock)
        (h : Is1to14Tried asked text configuration b identifier clock outputs signed (Ok p) block)
        (is_head : Bool)
        (is_same : is_head ≡ same signed (tree_head configuration p.call.response.tree_size p.checked.root))
      where
        -- the call
        abbrev IsThis : Call → Type 0
        IsThis c =
            IsGiven c response_limit (asked_kind asked) (state_of b) p.call text configuration identifier outputs
            signed (length output)

        shown : (c : Call) × (whole ≡ tried last_checks c) × IsThis c × Leaves c p.call p.checked block
        unfolding tried_after
        shown =
            let (c, e, i, l) = h.1 (length output) in
            (c, last-left ∙ ap (tried_after last_checks) e, i, l)

        -- refused with 15
        pub head-refused : is_head ≡ false → Answers (Err SignedText) output
        head-refused f =
            let (c, e, i, l) = shown in
            refused-with SignedText (e ∙ text-differs i p.checked.root l.root is_head is_same f)

        -- 16 is left, or acceptance
        pub accept-told : (a : Result Accepted Refusal) (output' : Bytes) → is_head ≡ true
            → IsAcceptedAnswer text p.call b p.checked block (length output) a
            → AreAcceptedBytes text p.call b p.checked block output output' → Answers a output'
        unfolding inputs_within
        accept-told a output' f u v =
            let (c, e, i, l) = shown in
            let rest : whole ≡ tried rules16 c = e ∙ text_same i p.checked.root l.root is_head is_same f in
            let g : Accepting c text p.call b p.checked block (length output) =
            record {
              parts = i.call.parts;
              read = h.0.read;
              offsets = h.0.offsets;
              state = i.state;
              leaves = l;
              is_room = ap (λ (y : Inputs). y.room) i.inputs;
            } in
            (u c g ∙ ap (answer_of b) (sym rest), v c g ∙ ap (output_after output) (sym rest))
