-- Rules 12 and 13 of a call to which neither 9 nor 10 applies, from what is found of its lookups
-- (src/lookups.rt).
use mathlib.Core.Path.{◌≡◌, refl, sym, ◌∙◌, ap, subst}
use mathlib.Core.Logic.{◌⊎◌, inl, inr}
use mathlib.Core.Bool.{Bool, true, false, ◌&&◌, not, false≢true}
use mathlib.Core.List.{List, []}
use Prim.Native.Nat.{ℕ, ◌-◌, ◌≤◌}
use native.Mathlib.Omega.{arith}
use lib.ListN.{length, take, drop, length-take, length-drop}
use borrow.Author.Tests.{not-false}
use Rattle.std.specs.Prelude.{Some, None, Option as CodeOption, is_some as is_found, Result as CodeResult}
use Rattle.std.specs.Option.{ok_or}
use Rattle.std.specs.Bool.{then_some}
use Rattle.lists.specs.Lists.{Bytes, all}
use Rattle.hash.specs.Bytes.{padded}
use Rattle.hash.proofs.BytesLaws.{filled_front}
use Rattle.lines.specs.declared.part.Part.{Part}
use Rattle.lines.specs.Readings.{part_of}
use Rattle.tree.specs.Ladder.{ladder, ladder_within, ladder_capacity}
use Rattle.tree.proofs.LadderFillLaws.{within_some}
use Rattle.rules.specs.Limits.{greatest_version}
use Rattle.rules.specs.Response.{monitored, Parts}
use Rattle.rules.specs.Commitment.{commitment_to}
use Rattle.rules.specs.Kinds.{KindRules}
use Rattle.rules.specs.Search.{early_then_complete, search_rules}
use Rattle.rules.specs.Monitoring.{all_included, monitoring_rules}
use Rattle.rules.specs.Refusals.{Call, not_as_asked, output_missing, lookups_hold, lookup_fails, results_wrong}
use Rattle.rules.proofs.KindLaws.{search-rules, monitoring-rules}
use Rattle.inputs.specs.declared.response_lines.Kind.TheVariants.{Search, Monitor}
use Rattle.inputs.specs.declared.response_lines.Finding.TheVariants.{Search as Searched, Monitor as Monitored}
use Rattle.inputs.specs.declared.response_lines.Target.{Target as TargetBlock}
use Rattle.inputs.specs.declared.refusal.Refusal.{Refusal}
use Rattle.inputs.specs.declared.refusal.Refusal.TheVariants.{Ladder as LadderFails}
use Rattle.inputs.specs.ResponseLines.{decoded}
use Rattle.inputs.specs.Response.{entries_in, loose_in, parts_in}
use Rattle.checks.specs.declared.readings.Call.{Call as CallBlock}
use Rattle.checks.specs.declared.sought.Sought.{Sought}
use Rattle.checks.specs.declared.lookups.Results.{Results}
use Rattle.checks.specs.Calls.{offset_bound, IsCall, steps_text, entries_text, rules12and13}
use Rattle.checks.specs.Calls.{Tells, TargetFits, Triable, IsFirst, IsJudged}
use Rattle.checks.specs.Sections.{EntryLines}
use Rattle.checks.specs.Steps.{CommitmentsBy}
use Rattle.checks.specs.Lookups.{IsSoughtOf, TriedWith, AreResults, judged_by}
use Rattle.checks.proofs.TrialLaws.{number-first, number-next, number_none}
use Rattle.checks.proofs.TargetLaws.{target_in, call-found, nothing-found}
use Rattle.checks.proofs.LookedUpLaws.{commitments-were, looked-up-steps}
use Rattle.checks.proofs.ResultsLaws.{results_fit}

-- ---- the sections

-- a part of a text is no longer than the text
part_short : (s : Bytes) (p : Part) (k : ℕ) → length s ≤ k → length (part_of s p) ≤ k
unfolding part_of
part_short s p k h =
    omega (arith, h, length-take (p.stop - p.start) (drop p.start s), length-drop p.start s)

-- the entries of a response that was read can be judged
pub entries_ready : (text : Bytes) (k : CallBlock) (outputs : Bytes) → Triable text k outputs → (s : Bytes)
    → s ≡ entries_text text k → EntryLines s × (loose_in s ≡ []) × (length s ≤ offset_bound)
entries_ready text k outputs h s e =
    let f = h.offsets.3 in
    let l = part_short text k.response.entries.part offset_bound h.short in
    (rw e f.entries, rw e f.none_loose, rw e l)

-- the target of a search has a possible version, and fields of possible lengths
pub target_ready : (text : Bytes) (k : CallBlock) (outputs : Bytes) → Triable text k outputs
    → (t : TargetBlock) → k.response.finding ≡ Searched t
    → TargetFits text (Searched t)
target_ready text k outputs h t e = subst (TargetFits text) e h.target

-- so many first numbers of an array are the ladder of a version
abbrev pub HoldsLadder : ℕ → ℕ → List ℕ → Type 0
HoldsLadder t count vs = (take count vs ≡ ladder t) × (count ≤ length vs) × (count ≡ length (take count vs))

-- they are where the array was filled with it
pub ladder_held : (t count : ℕ) (vs : List ℕ)
    → (vs ≡ padded ladder_capacity (ladder_within t)) × (count ≡ length (ladder_within t)) → t ≤ greatest_version
    → HoldsLadder t count vs
ladder_held t count vs (e, f) h =
    let w = within_some t (omega arith) in
    filled_front ladder_capacity count vs (ladder t) (e ∙ ap (padded ladder_capacity) w, f ∙ ap length w)

-- ---- the two rules

-- lookups that reach their roots are judged by what they show
pub judged_shown : (reached : Bool) (shown : CodeOption ℕ) → reached ≡ true
    → ok_or shown LadderFails ≡ judged_by reached shown
unfolding judged_by
judged_shown reached None e = rw e refl
judged_shown reached (Some p) e = rw e refl

-- the answer, from whether the lookups reach their roots and the position that they show
module _ (c : Call) (P : ℕ → Type 0) where
  judged-tried : (reached : Bool) (shown : CodeOption ℕ) → lookup_fails c ≡ not reached
      → results_wrong c ≡ not (is_found shown) → ((p : ℕ) → shown ≡ Some p → P p)
      → Tells (judged_by reached shown) rules12and13 c P
  unfolding judged_by
  judged-tried false shown a b h = (number-first 12 lookup_fails _ c a, tt)
  judged-tried true None a b h =
      (number-first 13 results_wrong _ c b ∙ number-next 12 lookup_fails _ c a, tt)
  judged-tried true (Some p) a b h =
      (number_none c ∙ number-next 13 results_wrong _ c b ∙ number-next 12 lookup_fails _ c a, h p refl)

-- what lookups are tried for is what calls seek
abbrev IsSoughtBy : Bytes → CallBlock → Bytes → Bytes → Sought → Type 0
IsSoughtBy text k label outputs s =
    (c : Call) → IsCall c k text outputs → c.parts.label ≡ label
    → IsSoughtOf s.kind c s.version s.commitment

module _ (text : Bytes) (k : CallBlock) (label : Bytes) (s : Sought) (entries : Bytes)
    (is_entries : entries ≡ entries_text text k) (is_steps : s.steps.now ≡ steps_text text k)
    (r : Results) (h : AreResults s (entries_in entries) r) where
  -- the entries of a call are those of its section
  entries-given : (c : Call) → IsCall c k text s.outputs.now → c.parts.entries ≡ entries_in entries
  unfolding parts_in
  entries-given c g = ap (λ (p : Parts). p.entries) g.parts ∙ ap entries_in (sym is_entries)

  -- what is answered
  abbrev Judged : CodeResult ℕ Refusal → Type 0
  Judged j = IsJudged text k label s.outputs.now s.offsets.now j

  module _ (is_sought : IsSoughtBy text k label s.outputs.now s) where
    -- whether 12 applies
    twelve-known : (c : Call) → IsCall c k text s.outputs.now → c.parts.label ≡ label → not_as_asked c ≡ false
        → output_missing c ≡ false
        → CommitmentsBy (steps_text text k) c.outputs s.offsets.now c.parts.steps
        → lookup_fails c ≡ not r.reached
    unfolding lookup_fails output_missing
    twelve-known c g l n o stand =
        let shown = entries-given c g in
        let w : TriedWith c s =
        record {
          sought = is_sought c g l;
          outputs = g.outputs;
          asked = commitments-were c n;
          there = not-false _ o;
          stand = rw is_steps stand;
        } in
        ap not (ap (all (lookups_hold c)) shown ∙ sym (h.reached c w (rw (← shown) (looked-up-steps c n))))

    -- 12 and 13, where it is known whether 13 applies, and what is shown where it does not
    judged-call : (shown : CodeOption ℕ)
        → ((c : Call) → IsCall c k text s.outputs.now → results_wrong c ≡ not (is_found shown))
        → ((c : Call) → IsCall c k text s.outputs.now → (p : ℕ) → shown ≡ Some p
        → IsFirst k.response.finding c p)
        → (j : CodeResult ℕ Refusal) → j ≡ judged_by r.reached shown → Judged j
    judged-call shown thirteen is_first j told c g l n o stand =
        rw told
        (judged-tried c (IsFirst k.response.finding c) r.reached shown
        (twelve-known c g l n o stand) (thirteen c g) (is_first c g))

  -- in a search
  module _ (target : TargetBlock) (is_search : k.response.finding ≡ Searched target) (sought_search : s.kind ≡ Search)
      (sought_version : s.version ≡ target.version)
      (is_ladder : s.ladder.now ≡ ladder target.version) (o v : Bytes)
      (is_opening : o ≡ part_of text target.opening)
      (is_value : v ≡ part_of text target.value)
      (is_commitment : s.commitment ≡ commitment_to (decoded o) label (decoded v)) where
    abbrev t : ℕ
    t = target.version

    search_sought : IsSoughtBy text k label s.outputs.now s
    search_sought c g l =
        rw sought_search (
          target_in text target,
          call-found text k.response target is_search c g.parts,
          sym sought_version,
          is_commitment ∙ rw (is_opening, is_value, l) refl,
        )

    judged_is : (c : Call) → IsCall c k text s.outputs.now
        → early_then_complete (ladder t) t c.parts.entries ≡ (r.fits && is_found r.first)
    judged_is c g =
        rw (entries-given c g, ← is_ladder, ← sought_version) (sym (results_fit s (entries_in entries) r h))

    -- what is shown is the position of the first complete entry, where the results fit
    pub search-judged : (shown : CodeOption ℕ)
        → ((r.fits ≡ true) × (shown ≡ r.first)) ⊎ ((r.fits ≡ false) × (shown ≡ None))
        → (j : CodeResult ℕ Refusal) → j ≡ judged_by r.reached shown → Judged j
    unfolding results_wrong search_rules
    search-judged shown way = judged-call search_sought shown thirteen is_first
      where
        is_shown : ((r.fits ≡ true) × (shown ≡ r.first)) ⊎ ((r.fits ≡ false) × (shown ≡ None))
            → (r.fits && is_found r.first) ≡ is_found shown
        is_shown (inl (f, e)) = rw (f, e) refl
        is_shown (inr (f, e)) = rw (f, e) refl

        thirteen : (c : Call) → IsCall c k text s.outputs.now → results_wrong c ≡ not (is_found shown)
        thirteen c g =
            let found = call-found text k.response target is_search c g.parts in
            ap not
            (ap (λ (x : KindRules). x.results_fit) (search-rules c (target_in text target) found)
            ∙ judged_is c g ∙ is_shown way)

        from : ((r.fits ≡ true) × (shown ≡ r.first)) ⊎ ((r.fits ≡ false) × (shown ≡ None)) → (p : ℕ)
            → shown ≡ Some p → r.first ≡ Some p
        from (inl (f, e)) p q = sym e ∙ q
        from (inr (f, e)) p q = absurd (false≢true (ap is_found (sym e ∙ q)))

        is_first : (c : Call) → IsCall c k text s.outputs.now → (p : ℕ) → shown ≡ Some p
            → IsFirst k.response.finding c p
        is_first c g p q =
            let (e, i, n) = h.position p (from way p q) in
            rw is_search (e, rw (entries-given c g, ← is_ladder, ← sought_version) i, n)

  -- in monitoring, where no position is asked for
  abbrev no_position : CodeOption ℕ
  no_position = then_some r.included 0

  pub monitoring-judged : k.response.finding ≡ Monitored → s.kind ≡ Monitor
      → (j : CodeResult ℕ Refusal) → j ≡ judged_by r.reached no_position → Judged j
  unfolding results_wrong monitoring_rules
  monitoring-judged is_monitoring sought_monitoring =
      judged-call sought no_position thirteen (λ c g p q. rw is_monitoring tt)
    where
      found : (c : Call) → IsCall c k text s.outputs.now → c.parts.finding ≡ monitored
      found c g = nothing-found text k.response is_monitoring c g.parts

      sought : IsSoughtBy text k label s.outputs.now s
      sought c g l = rw sought_monitoring (found c g)

      is_shown : (b : Bool) → b ≡ is_found {T = ℕ} (then_some b 0)
      is_shown true = refl
      is_shown false = refl

      thirteen : (c : Call) → IsCall c k text s.outputs.now
          → results_wrong c ≡ not (is_found no_position)
      thirteen c g =
          ap not
          (ap (λ (x : KindRules). x.results_fit) (monitoring-rules c (found c g))
          ∙ ap all_included (entries-given c g) ∙ sym h.included ∙ is_shown r.included)
