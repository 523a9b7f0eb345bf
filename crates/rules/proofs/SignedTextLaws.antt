-- The signed text (specs/Calls.antt, judge_unsigned and tree_head_of): how long it is, and that the
-- search or monitoring that is given it goes through, but for 16 in a search.
use mathlib.Core.Path.{◌≡◌, refl, sym, ap, ◌∙◌}
use mathlib.Core.Logic.{◌⊎◌, inl, inr}
use mathlib.Core.Bool.{Bool, true, false, not}
use mathlib.Core.List.{[]}
use mathlib.Core.Option.{Option, some, Option-elim}
use Prim.Native.Nat.{ℕ, ◌+◌, ◌≤◌}
use native.Mathlib.Omega.{arith}
use lib.Dec.{leb, eqb}
use lib.ListN.{length}
use borrow.Author.Tests.{le-leb, leb-true, not-false}
use Rattle.lists.specs.Choice.{choose}
use Rattle.lists.specs.Lists.{Bytes, every, written}
use Rattle.lists.proofs.ChoiceLaws.{choose_true, choose_by}
use Rattle.lists.proofs.ListLaws.{all_implied, every_cons, equal_same}
use Rattle.hash.specs.Sha256.{digest_length}
use Rattle.tree.proofs.WalkValueLaws.{value_length_lem}
use Rattle.rules.specs.Limits.{response_limit, configuration_limit, signed_text_limit, vrf_outputs_limit}
use Rattle.rules.specs.Limits.{identifier_length, state_text_limit}
use Rattle.rules.specs.State.{State}
use Rattle.rules.specs.StateText.{read_state}
use Rattle.rules.specs.Response.{Kind, search as search_kind, monitor}
use Rattle.rules.specs.Response.{Result, included, absent, other_leaf, Lookup, Entry}
use Rattle.rules.specs.Refusals.{Inputs, Call, Judgement, refused, passed, lengths_fit, read_call}
use Rattle.rules.specs.Refusals.{kind_rules, kind_asked, foreign, size_wrong, target_wrong, asked, log_walk}
use Rattle.rules.specs.Refusals.{not_as_asked, output_missing, last_timestamp, timestamps_wrong}
use Rattle.rules.specs.Refusals.{commitment_of, terminal, lookup_holds, lookup_passes, lookups_hold}
use Rattle.rules.specs.Refusals.{lookup_fails, results_wrong, known, history_differs, log_root, tree_head_of}
use Rattle.rules.specs.Refusals.{head_differs, room_missing, checks, last_checks, tried, tried_after, judge}
use Rattle.rules.specs.Refusals.{judge_without_head}
use Rattle.rules.specs.Calls.{judge_call, Arguments, library_inputs, inputs_within, judge_search}
use Rattle.rules.specs.Calls.{judge_monitoring, number_of, judge_unsigned, placed, signed_text_after}
use Rattle.rules.specs.Calls.{text_judged, room_judged, kt_call, kt_search, kt_monitor, kind_numbered}
use Rattle.rules.specs.Calls.{kt_signed_text}
use Rattle.rules.proofs.ConfigurationLaws.{configuration_least, head_length}
use Rattle.rules.proofs.StateLaws.{valid_was}
use Rattle.rules.proofs.RefusalLaws.{valid_some, Readings, readings_were, readings_pass, NoneApplies}
use Rattle.rules.proofs.RefusalLaws.{IsNumber, refused_not_passed, after_passed, after_refused}
use Rattle.rules.proofs.RefusalLaws.{rest_tried, sixteen_numbers}
use Rattle.rules.proofs.PartsLaws.{response_fits}
use Rattle.rules.proofs.AcceptedLaws.{call_read, requested-was}
use Rattle.rules.proofs.NextStateLaws.{monitoring_room, found_by_monitoring}

-- bytes of the shortest signed text: more than any refusal's number
abbrev pub signed_text_least : ℕ
signed_text_least = 72

-- ---- the call without a signed text

-- a refusal without a signed text has one of the sixteen numbers
unsigned_number : (st : Option State) (kind : Option Kind) (a : Arguments) (k : ℕ) → judge_unsigned st kind a ≡ refused k → IsNumber k
unfolding judge_unsigned judge_without_head judge
unsigned_number st kind a k e =
    sixteen_numbers st (library_inputs kind a [] 0) k (after_refused checks last_checks (read_call st (library_inputs kind a [] 0)) k e)

module _ (st : Option State) (kind : Option Kind) (a : Arguments) (c : Call) (e : judge_unsigned st kind a ≡ passed c) where
  -- it was read, and none of 6 to 14 applies to it
  unsigned-meaning : (read_call st (library_inputs kind a [] 0) ≡ passed c) × NoneApplies checks c
  unfolding judge_unsigned judge_without_head
  unsigned-meaning = after_passed checks (read_call st (library_inputs kind a [] 0)) c e

  -- with these readings
  unsigned-readings : Readings st (library_inputs kind a [] 0) c
  unsigned-readings = readings_were st (library_inputs kind a [] 0) c unsigned-meaning.0

  -- the root is as long as a digest
  root-length : length (log_root c) ≡ digest_length
  unfolding log_root known
  root-length =
      let (_, v, r) = call_read st (library_inputs kind a [] 0) c unsigned-meaning.0 in
      value_length_lem (known c) (log_walk c) c.parts.nodes (valid_was c.state v).value_length (response_fits c.inputs.response c.parts r).nodes

  -- the configuration is as given
  given-configuration : c.inputs.configuration ≡ a.configuration
  unfolding library_inputs inputs_within
  given-configuration = ap (λ (i : Inputs). i.configuration) unsigned-readings.inputs

  -- the inputs are within their lengths
  lengths-were : (leb (length a.response) response_limit ≡ true)
      × (leb (length a.configuration) configuration_limit ≡ true)
      × (leb (length a.vrf_outputs) vrf_outputs_limit ≡ true)
      × (eqb (length a.identifier) identifier_length ≡ true)
  unfolding lengths_fit library_inputs inputs_within
  lengths-were =
      let (r, f1) = every_cons _ _ unsigned-readings.fits in
      let (g, f2) = every_cons _ _ f1 in
      let (_, f3) = every_cons _ _ f2 in
      let (o, f4) = every_cons _ _ f3 in
      let (i, _) = every_cons _ _ f4 in
      (r, g, o, i)

  -- The signed text is within its least and its greatest length: a configuration that reads has 32
  -- bytes to its limit, the size 8, the root 32.
  pub signed-length : (signed_text_least ≤ length (tree_head_of c)) × (length (tree_head_of c) ≤ signed_text_limit)
  unfolding tree_head_of library_inputs inputs_within
  signed-length =
      let s = c.inputs.configuration in
      let t : length (tree_head_of c) ≡ length s + 8 + length (log_root c) = head_length s c.parts.tree_size (log_root c) in
      let k = ap length given-configuration in
      let g = configuration_least a.configuration c.configuration unsigned-readings.configuration in
      let (_, w, _, _) = lengths-were in
      let f = leb-true (length a.configuration) configuration_limit w in
      (omega (arith, root-length), omega (arith, root-length))

  -- as many bytes as its limit, from the offset on, are always enough
  pub signed-placed : (buffer : Bytes) (offset : ℕ) → offset + signed_text_limit ≤ length buffer
      → signed_text_after buffer offset (passed c) ≡ (length (tree_head_of c), written buffer offset (tree_head_of c))
  unfolding signed_text_after placed
  signed-placed buffer offset h =
      let l = signed-length.1 in
      let n = offset + length (tree_head_of c) in
      choose_true (leb n (length buffer)) _ _ (le-leb n (length buffer) (omega arith))

  -- ---- the call with the signed text

  module _ (room : ℕ) where
    -- what it is given: the signed text, and so many output bytes
    abbrev signed_inputs : Inputs
    signed_inputs = library_inputs kind a (tree_head_of c) room

    -- the call as read of that: all else as without the signed text
    abbrev signed_call : Call
    signed_call = record { inputs = signed_inputs; configuration = c.configuration; state = c.state; outputs = c.outputs; parts = c.parts }

    -- its lengths fit
    signed-fits : lengths_fit signed_inputs ≡ true
    unfolding lengths_fit library_inputs inputs_within every
    signed-fits =
        let (r, g, o, i) = lengths-were in
        let t : leb (length (tree_head_of c)) signed_text_limit ≡ true = le-leb _ _ signed-length.1 in
        rw (r, g, t, o, i) refl

    -- it is read
    signed-read : read_call st signed_inputs ≡ passed signed_call
    unfolding library_inputs inputs_within
    signed-read =
        let h = unsigned-readings in
        readings_pass st signed_inputs signed_call (record {
          fits = signed-fits;
          configuration = h.configuration;
          state = h.state;
          outputs = h.outputs;
          parts = h.parts;
          inputs = refl;
        })

    -- what a lookup says stands at its place is the same
    signed-terminal : (v : ℕ) (r : Result) → terminal signed_call v r ≡ terminal c v r
    unfolding terminal commitment_of
    signed-terminal v included = refl
    signed-terminal v absent = refl
    signed-terminal v (other_leaf o k) = refl

    -- a lookup holds where it held
    signed-lookup : (root : Bytes) (l : Lookup) → lookup_holds signed_call root l ≡ lookup_holds c root l
    unfolding lookup_holds
    signed-lookup root l = rw (signed-terminal l.version l.result) refl

    -- so do those of an entry
    signed-lookups : (x : Entry) → lookups_hold c x ≡ true → lookups_hold signed_call x ≡ true
    unfolding lookups_hold lookup_passes kind_rules
    signed-lookups x = all_implied _ _ x.lookups (λ l h. rw (signed-lookup x.prefix_root l) h)

    -- and those of all entries
    signed-entries : lookup_fails c ≡ false → lookup_fails signed_call ≡ false
    unfolding lookup_fails
    signed-entries h = ap not (all_implied (lookups_hold c) (lookups_hold signed_call) c.parts.entries signed-lookups (not-false _ h))

    -- kind, identifier and label are compared as before
    signed-own : foreign signed_call ≡ foreign c
    unfolding foreign kind_asked library_inputs inputs_within
    signed-own = rw unsigned-readings.inputs refl

    -- so are the times
    signed-timestamps : timestamps_wrong signed_call ≡ timestamps_wrong c
    unfolding timestamps_wrong last_timestamp library_inputs inputs_within
    signed-timestamps = rw unsigned-readings.inputs refl

    -- none of 6 to 14 applies to it
    signed-checks : NoneApplies checks signed_call
    unfolding checks size_wrong kind_rules target_wrong not_as_asked asked log_walk output_missing results_wrong history_differs known
    signed-checks =
        let (h6, (h7, (h8, (h9, (h10, (h11, (h12, h))))))) = unsigned-meaning.1 in
        (signed-own ∙ h6, (h7, (h8, (h9, (h10, (signed-timestamps ∙ h11, (signed-entries h12, h)))))))

    -- the signed text that it must have is the one that it has
    signed-text : tree_head_of signed_call ≡ tree_head_of c
    unfolding tree_head_of log_root known log_walk library_inputs inputs_within
    signed-text = rw given-configuration refl

    -- so 15 does not apply either
    signed-head : head_differs signed_call ≡ false
    unfolding head_differs library_inputs inputs_within
    signed-head = ap not (equal_same (tree_head_of c) (tree_head_of signed_call) (sym signed-text))

    -- 16 alone is left
    signed-judged : judge st signed_inputs ≡ choose (room_missing signed_call) (λ _. refused 16) (λ _. passed signed_call)
    unfolding judge tried_after last_checks tried choose
    signed-judged = rw (signed-read, rest_tried checks last_checks signed_call signed-checks, signed-head) refl

-- ---- search and monitoring with the signed text

-- monitoring that yields a signed text is accepted with it
pub monitoring_accepted : (st : Option State) (a : Arguments) (c : Call) → judge_unsigned st (some monitor) a ≡ passed c
    → number_of (judge_monitoring st a (tree_head_of c)) ≡ 0
unfolding judge_monitoring judge_call number_of kind_asked checks library_inputs inputs_within choose Option-elim
monitoring_accepted st a c e =
    let d = signed_call st (some monitor) a c e 0 in
    let k : kind_asked d ≡ true = (requested-was d (signed-checks st (some monitor) a c e 0).0).0 in
    let r = monitoring_room d (valid_some st c.state (unsigned-readings st (some monitor) a c e).state).1 (found_by_monitoring c.parts.finding k) in
    rw (signed-judged st (some monitor) a c e 0, r) refl

-- a search that yields one is accepted with it, or refused with 16
pub search_accepted : (st : Option State) (a : Arguments) (c : Call) (output : Bytes) → judge_unsigned st (some search_kind) a ≡ passed c
    → (number_of (judge_search st a (tree_head_of c) output) ≡ 0) ⊎ (number_of (judge_search st a (tree_head_of c) output) ≡ 16)
unfolding judge_search judge_call number_of
search_accepted st a c output e =
    rw (signed-judged st (some search_kind) a c e (length output))
    (choose_by (λ (j : Judgement). (number_of j ≡ 0) ⊎ (number_of j ≡ 16)) (room_missing (signed_call st (some search_kind) a c e (length output))) _ _
    (λ _. inr refl) (λ _. inl refl))

-- ---- for C programs

-- what kt_signed_text may answer: the number of a refusal, or the length of a text, which is
-- greater
abbrev pub Answer : ℕ → Type 0
Answer r = IsNumber r ⊎ ((signed_text_least ≤ r) × (r ≤ signed_text_limit))

-- it answers no other number
pub signed_answer : (kind : ℕ) (text : Bytes) (a : Arguments) (buffer : Bytes) (offset : ℕ) → Answer (kt_signed_text kind text a buffer offset).0
unfolding kt_signed_text text_judged signed_text_after placed
signed_answer kind text a buffer offset =
    choose_by (λ (j : Judgement). Answer (signed_text_after buffer offset j).0) (leb (length text) state_text_limit) _ _
    (λ _. go (judge_unsigned (read_state text) (kind_numbered kind) a) refl) (λ _. inl (omega arith))
  where
    go : (j : Judgement) → judge_unsigned (read_state text) (kind_numbered kind) a ≡ j → Answer (signed_text_after buffer offset j).0
    go (refused k) q = inl (unsigned_number (read_state text) (kind_numbered kind) a k q)
    go (passed c) q =
        choose_by (λ (x : ℕ × Bytes). Answer x.0) (leb (offset + length (tree_head_of c)) (length buffer)) _ _
        (λ _. inr (signed-length (read_state text) (kind_numbered kind) a c q)) (λ _. inl (omega arith))

-- a judgement over a state's text that is passed was one with a text not too long
text_fitted : (text : Bytes) (j : Judgement) (c : Call) → text_judged text j ≡ passed c → (leb (length text) state_text_limit ≡ true) × (j ≡ passed c)
unfolding text_judged choose
text_fitted text j c e = go (leb (length text) state_text_limit) refl e
  where
    go : (b : Bool) → leb (length text) state_text_limit ≡ b → choose b (λ _. j) (λ _. refused 1) ≡ passed c
        → (leb (length text) state_text_limit ≡ true) × (j ≡ passed c)
    go true q h = (q, h)
    go false q h = absurd (refused_not_passed 1 c h)

-- with such a text, and room for the new one, a judgement stands
text_judged_lem : (text new_text : Bytes) (j : Judgement) → leb (length text) state_text_limit ≡ true → state_text_limit ≤ length new_text
    → text_judged text (room_judged new_text j) ≡ j
unfolding text_judged room_judged choose
text_judged_lem text new_text j t r = rw (t, le-leb state_text_limit (length new_text) r) refl

-- kt_monitor accepts, given the same, the text of kt_signed_text and room for the new state's text
pub kt_monitor_accepted : (text : Bytes) (a : Arguments) (new_text : Bytes) (c : Call)
    → text_judged text (judge_unsigned (read_state text) (some monitor) a) ≡ passed c → state_text_limit ≤ length new_text
    → number_of (kt_monitor text a (tree_head_of c) new_text) ≡ 0
unfolding kt_monitor kt_call judge_monitoring
kt_monitor_accepted text a new_text c e r =
    let (t, q) = text_fitted text (judge_unsigned (read_state text) (some monitor) a) c e in
    rw (text_judged_lem text new_text (judge_monitoring (read_state text) a (tree_head_of c)) t r) (monitoring_accepted (read_state text) a c q)

-- so does kt_search, or 16 applies
pub kt_search_accepted : (text : Bytes) (a : Arguments) (output new_text : Bytes) (c : Call)
    → text_judged text (judge_unsigned (read_state text) (some search_kind) a) ≡ passed c → state_text_limit ≤ length new_text
    → (number_of (kt_search text a (tree_head_of c) output new_text) ≡ 0) ⊎ (number_of (kt_search text a (tree_head_of c) output new_text) ≡ 16)
unfolding kt_search kt_call judge_search
kt_search_accepted text a output new_text c e r =
    let (t, q) = text_fitted text (judge_unsigned (read_state text) (some search_kind) a) c e in
    rw (text_judged_lem text new_text (judge_search (read_state text) a (tree_head_of c) output) t r) (search_accepted (read_state text) a c output q)
