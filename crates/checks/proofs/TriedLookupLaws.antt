-- One lookup, tried with what a call gives (specs/Lookups.antt).
use mathlib.Core.Path.{◌≡◌, refl, sym, ◌∙◌, ap, ap₂, subst}
use mathlib.Core.Logic.{⊎_elim}
use mathlib.Core.Bool.{Bool, true, false, ◌&&◌, not, false≢true, and-false}
use mathlib.Core.List.Memᴰ
use mathlib.Core.List.{List, [], ◌∷◌, Memᴰ}
use mathlib.Core.Option
use mathlib.Core.Option.{Option, none, some, bind, Option-elim}
use Prim.Native.Nat.{ℕ, ◌≤◌, ◌<◌}
use native.Mathlib.Omega.{arith}
use lib.Dec.{eqb, ltb}
use lib.ListN.{length, take, drop, get_or}
use borrow.Author.Tests.{eq-eqb, ne_eqb, eqb-true, lt-ltb, le-ltb}
use Rattle.lists.specs.Choice.{choose, is_some}
use Rattle.lists.specs.Lists.{Bytes, all, first, same}
use Rattle.lists.proofs.ChoiceLaws.{choose_true, choose_false, given_first}
use Rattle.lists.proofs.ListLaws.{all_cons, all_at, first_here, first_later}
use Rattle.lines.specs.Layout.{value_digits}
use Rattle.tree.specs.LogText.{value_in}
use Rattle.tree.specs.PrefixTree.{Terminal, searched_leaf, terminal_fits, lookup_root}
use Rattle.rules.specs.VrfOutputs.{VrfOutput, has_output, output_of}
use Rattle.rules.specs.Response.{Finding, target_of, Step, step_versions}
use Rattle.rules.specs.Response.{Result, included, absent, other_leaf, Lookup, is_included}
use Rattle.rules.specs.Kinds.{KindRules}
use Rattle.rules.specs.Search.{is_included_above, search_rules}
use Rattle.rules.specs.Monitoring.{monitoring_rules}
use Rattle.rules.specs.Refusals.{Call, kind_rules, commitment_asked, step_commitment, commitment_by, commitment_of}
use Rattle.rules.specs.Refusals.{terminal}
use Rattle.rules.specs.Refusals.{lookup_holds, lookup_passes}
use Rattle.rules.proofs.KindLaws.{search-rules, monitoring-rules}
use Rattle.inputs.specs.declared.response_lines.Kind.{Kind}
use Rattle.inputs.specs.declared.response_lines.Kind.TheVariants.{Search, Monitor}
use Rattle.inputs.specs.declared.vrf_outputs.FoundOutput.{FoundOutput}
use Rattle.std.specs.Prelude.{Some, None, Option as CodeOption, is_some as is_found, unwrap_or}
use Rattle.inputs.specs.VrfOutputs.{found_output, record_of, records_below, IsRecordOf}
use Rattle.checks.specs.declared.sought.Sought.{Sought}
use Rattle.checks.specs.Sections.{CommitmentAt, read_lookup, OfLookup}
use Rattle.checks.specs.Steps.{versions_of, CommitmentsBy}
use Rattle.checks.specs.Lookups.{terminal_with, reaches, IsSoughtOf, TriedWith, IsStep, Passes}

-- ---- a lookup that holds

-- what stands at an offset, with a commitment that is the version's, where one is needed
terminal_by : (c : Call) (v : ℕ) (commitment : Bytes) (r : Result)
    → (is_included r ≡ true → commitment ≡ commitment_of c v)
    → terminal_with commitment r ≡ terminal c v r
unfolding terminal_with terminal is_included
terminal_by c v commitment included h = ap searched_leaf (h refl)
terminal_by c v commitment absent h = refl
terminal_by c v commitment (other_leaf output other) h = refl

-- a lookup reaches its root where it holds
reaches_holds : (c : Call) (root output commitment : Bytes) (l : Lookup)
    → output ≡ output_of c.outputs l.version
    → (is_included l.result ≡ true → commitment ≡ commitment_of c l.version)
    → reaches output commitment root l ≡ lookup_holds c root l
unfolding reaches lookup_holds
reaches_holds c root output commitment l e h =
    ap₂
    (λ (o : Bytes) (t : Terminal).
    terminal_fits o t (length l.siblings) && same (lookup_root o t l.siblings) root)
    e
    (terminal_by c l.version commitment l.result h)

-- ---- the commitments of steps

-- the first step of a version
abbrev is_of : ℕ → Step → Bool
is_of v x = eqb x.version v

-- the commitment that there is, or none
abbrev commitment_in : Option Step → Bytes
commitment_in o = Option.get_or (bind o (λ x. x.commitment)) []

-- a commitment that is asked of a step and stands at an offset is the value there
value_there : (s : Bytes) (offset : ℕ) (committed : Bool) (o : Option Bytes) → committed ≡ true
    → Option-elim o (not committed) (λ _. committed) ≡ true → CommitmentAt s offset o
    → value_in (take value_digits (drop offset s)) ≡ Option.get_or o []
unfolding Option-elim
value_there s offset committed none t a h = absurd (false≢true (sym (ap not t) ∙ a))
value_there s offset committed (some c) t a h = h

-- the commitment of a step's version, where versions like it have one, stands at the offset with
-- the number of the version's record
commitment_stands : (s : Bytes) (outputs : List VrfOutput) (offsets : List ℕ) (is_committed : ℕ → Bool)
    (v : ℕ) (xs : List Step)
    → is_committed v ≡ true → all (commitment_asked is_committed) xs ≡ true → CommitmentsBy s outputs offsets xs
    → Memᴰ v (versions_of xs)
    → value_in (take value_digits (drop (get_or offsets (records_below outputs v) 0) s)) ≡ step_commitment xs v
unfolding step_commitment bind commitment_asked
commitment_stands s outputs offsets is_committed v [] t a h m = absurd (Memᴰ.not-nil m)
commitment_stands s outputs offsets is_committed v (x ∷ xs) t a h m =
    let (p, q) = all_cons (commitment_asked is_committed) x xs a in
    go (eqb x.version v) refl p
    (commitment_stands s outputs offsets is_committed v xs t q (λ y n. h y (Memᴰ.tail n)))
  where
    offset : ℕ → ℕ
    offset u = get_or offsets (records_below outputs u) 0

    go : (b : Bool) → eqb x.version v ≡ b → commitment_asked is_committed x ≡ true
        → (Memᴰ v (versions_of xs)
        → value_in (take value_digits (drop (offset v) s)) ≡ commitment_in (first (is_of v) xs))
        → value_in (take value_digits (drop (offset v) s)) ≡ commitment_in (first (is_of v) (x ∷ xs))
    go true e p f =
        let i = eqb-true x.version v e in
        let stands = subst (λ (u : ℕ). CommitmentAt s (offset u) x.commitment) i (h x (Memᴰ.head refl)) in
        value_there s (offset v) (is_committed x.version) x.commitment (ap is_committed i ∙ t) p stands
        ∙ ap commitment_in (sym (first_here (is_of v) x xs e))
    go false e p f =
        f
        (⊎_elim (λ i. absurd (false≢true (sym e ∙ eq-eqb x.version v (sym i)))) (λ k. k)
        (Memᴰ.cases_cons m))
        ∙ ap commitment_in (sym (first_later (is_of v) x xs e))

-- ---- what the kind of a call says of its lookups

-- the commitment of a version is in its step
abbrev InStep : Call → ℕ → Type 0
InStep c v = (commitment_of c v ≡ step_commitment c.parts.steps v) × ((kind_rules c).is_committed v ≡ true)

module _ (c : Call) (t : ℕ) (committed : Bytes) where
  -- in a search a lookup cannot be tried where it is included above the version sought
  untried-search : IsSoughtOf Search c t committed → (l : Lookup)
      → (kind_rules c).untried l ≡ (ltb t l.version && is_included l.result)
  unfolding search_rules is_included_above
  untried-search (target, found, version, _) l =
      ap (λ (k : KindRules). k.untried l) (search-rules c target found)
      ∙ ap (λ (v : ℕ). ltb v l.version && is_included l.result) version

  -- in monitoring every one can be tried
  untried-monitoring : IsSoughtOf Monitor c t committed → (l : Lookup) → (kind_rules c).untried l ≡ false
  unfolding monitoring_rules
  untried-monitoring found l = ap (λ (k : KindRules). k.untried l) (monitoring-rules c found)

  -- and in both one that is not included
  untried-absent : (k : Kind) → IsSoughtOf k c t committed → (l : Lookup) → is_included l.result ≡ false
      → (kind_rules c).untried l ≡ false
  untried-absent Search s l e = untried-search s l ∙ rw e (and-false (ltb t l.version))
  untried-absent Monitor s l e = untried-monitoring s l

  -- the commitment of a version, in a search
  commitment-search : IsSoughtOf Search c t committed → (v : ℕ)
      → commitment_of c v ≡ choose (eqb v t) (λ _. committed) (λ _. step_commitment c.parts.steps v)
  unfolding commitment_of commitment_by target_of
  commitment-search (target, found, version, is_commitment) v =
      ap (λ (f : Finding). commitment_by (target_of f) c.parts.label c.parts.steps v) found
      ∙ ap₂ (λ (u : ℕ) (k : Bytes). choose (eqb v u) (λ _. k) (λ _. step_commitment c.parts.steps v))
      version (sym is_commitment)

  -- of the version sought it is its own
  commitment-target : IsSoughtOf Search c t committed → (v : ℕ) → v ≡ t → committed ≡ commitment_of c v
  commitment-target s v e = sym (commitment-search s v ∙ choose_true (eqb v t) _ _ (eq-eqb v t e))

  -- of a version below it, it is in the step
  step-below : IsSoughtOf Search c t committed → (v : ℕ) → v < t → InStep c v
  unfolding search_rules
  step-below s v h = (
    commitment-search s v ∙ choose_false (eqb v t) _ _ (ne_eqb v t (λ e. omega arith)),
    ap (λ (k : KindRules). k.is_committed v) (search-rules c s.0 s.1) ∙ ap (ltb v) s.2 ∙ lt-ltb v t h,
  )

  -- in monitoring, of all
  step-monitored : IsSoughtOf Monitor c t committed → (v : ℕ) → InStep c v
  unfolding monitoring_rules commitment_of commitment_by target_of
  step-monitored found v = (
    ap (λ (f : Finding). commitment_by (target_of f) c.parts.label c.parts.steps v) found,
    ap (λ (k : KindRules). k.is_committed v) (monitoring-rules c found),
  )

-- ---- a lookup line

-- one that can be tried passes where it holds
tried_passes : (c : Call) (root : Bytes) (l : Lookup) → (kind_rules c).untried l ≡ false
    → lookup_holds c root l ≡ lookup_passes c root l
unfolding lookup_passes
tried_passes c root l e = sym (choose_false ((kind_rules c).untried l) (λ _. true) (λ _. lookup_holds c root l) e)

-- a version with an output has a record, and the record that is found holds the output
record_told : (xs : List VrfOutput) (v i : ℕ) → has_output xs v ≡ true → (r : CodeOption FoundOutput)
    → r ≡ found_output i (record_of xs v)
    → (f : FoundOutput) × (r ≡ Some f) × (f.output ≡ output_of xs v) × (f.index ≡ i)
unfolding output_of record_of has_output found_output Option-elim is_some
record_told xs v i h r e = go (record_of xs v) (given_first (λ (x : VrfOutput). eqb x.version v) xs ∙ h) e
  where
    go : (o : Option VrfOutput) → is_some o ≡ true → r ≡ found_output i o
        → (f : FoundOutput) × (r ≡ Some f) × (f.output ≡ Option-elim o [] (λ x. x.output)) × (f.index ≡ i)
    go none n e = absurd (false≢true n)
    go (some x) n e = (record { index = i; output = x.output }, e, refl, refl)

-- what is found of the version of a lookup line that is one of the steps
module _ (line root : Bytes) (s : Sought) (v : ℕ) (version_told : OfLookup line (λ (l : Lookup). l.version) v) where
  record-there : (r : CodeOption FoundOutput) → IsRecordOf s.outputs.now v r → (c : Call) (l : Lookup)
      → TriedWith c s → read_lookup line ≡ some l → IsStep c l
      → (f : FoundOutput) × (r ≡ Some f) × (f.output ≡ output_of c.outputs l.version)
      × (f.index ≡ records_below c.outputs l.version)
  record-there r told c l w q m =
      let u = l.version in
      let xs = c.outputs in
      record_told xs u (records_below xs u) (all_at (has_output xs) (step_versions c.parts) u w.there m) r
      (subst (λ (x : ℕ). IsRecordOf s.outputs.now x r) (version_told l q) told xs w.outputs)

  -- it cannot be missing
  pub passes-missing : IsRecordOf s.outputs.now v None → (r : Bool) → Passes s line root r
  passes-missing told r c l w q m =
      let (f, e, _, _) = record-there None told c l w q m in absurd (false≢true (ap is_found e))

-- one of which its version, the record found for it, and whether it is included are told
module _ (line root : Bytes) (s : Sought) (v : ℕ) (found : FoundOutput)
    (there : Bool)
    (version_told : OfLookup line (λ (l : Lookup). l.version) v) (output_told : IsRecordOf s.outputs.now v (Some found))
    (there_told : OfLookup line (λ (l : Lookup). is_included l.result) there) where
  -- the record is that of the version
  found-told : (c : Call) (l : Lookup) → TriedWith c s → read_lookup line ≡ some l → IsStep c l
      → (found.output ≡ output_of c.outputs l.version)
      × (found.index ≡ records_below c.outputs l.version)
  found-told c l w q m =
      let (f, e, o, i) = record-there line root s v version_told (Some found) output_told c l w q m in
      let is : found ≡ f = ap (λ (x : CodeOption FoundOutput). unwrap_or x f) e in
      (ap (λ (x : FoundOutput). x.output) is ∙ o, ap (λ (x : FoundOutput). x.index) is ∙ i)

  -- one that can be tried, with a commitment that is the version's where it is included, passes
  -- where it reaches the root
  passes-by : (commitment : Bytes) (r : Bool) → OfLookup line (reaches found.output commitment root) r
      → ((c : Call) (l : Lookup) → TriedWith c s → read_lookup line ≡ some l → IsStep c l
      → ((kind_rules c).untried l ≡ false)
      × (is_included l.result ≡ true → commitment ≡ commitment_of c l.version))
      → Passes s line root r
  passes-by commitment r f h c l w q m =
      let (u, k) = h c l w q m in
      f l q ∙ reaches_holds c root found.output commitment l (found-told c l w q m).0 k
      ∙ tried_passes c root l u

  -- one that is not included is tried without a commitment
  pub passes-absent : there ≡ false → (commitment : Bytes) (r : Bool)
      → OfLookup line (reaches found.output commitment root) r
      → Passes s line root r
  passes-absent n commitment r f =
      passes-by commitment r f
      (λ c l w q m.
      let e : is_included l.result ≡ false = sym (there_told l q) ∙ n in (
        untried-absent c s.version s.commitment s.kind w.sought l e,
        λ i. absurd (false≢true (sym e ∙ i)),
      ))

  module _ (is_search : s.kind ≡ Search) where
    -- what is sought in a search
    sought-search : (c : Call) → TriedWith c s
        → IsSoughtOf Search c s.version s.commitment
    sought-search c w = subst (λ (k : Kind). IsSoughtOf k c s.version s.commitment) is_search w.sought

    -- one that is included above the version sought passes untried
    pub passes-untried : there ≡ true → s.version < v → Passes s line root true
    unfolding lookup_passes
    passes-untried y h c l w q m =
        let e : (kind_rules c).untried l ≡ true =
        untried-search c s.version s.commitment (sought-search c w) l
        ∙ ap₂ ◌&&◌ (lt-ltb s.version l.version (omega (arith, version_told l q))) (sym (there_told l q) ∙ y) in
        sym (choose_true ((kind_rules c).untried l) (λ _. true) (λ _. lookup_holds c root l) e)

    -- one of a version not above it can be tried
    tried-below : v ≤ s.version → (c : Call) (l : Lookup) → TriedWith c s
        → read_lookup line ≡ some l
        → (kind_rules c).untried l ≡ false
    tried-below h c l w q =
        untried-search c s.version s.commitment (sought-search c w) l
        ∙ ap (λ (b : Bool). b && is_included l.result)
        (le-ltb s.version l.version (omega (arith, version_told l q)))

    -- the version sought is tried with its own commitment
    pub passes-target : v ≡ s.version → (r : Bool)
        → OfLookup line (reaches found.output s.commitment root) r
        → Passes s line root r
    passes-target e r f =
        passes-by s.commitment r f
        (λ c l w q m. (
          tried-below (omega arith) c l w q,
          λ _. commitment-target c s.version s.commitment (sought-search c w) l.version
              (sym (version_told l q) ∙ e),
        ))

  -- a version whose commitment is in its step is tried with the value at the offset of its record
  module _ (commitment : Bytes) (r : Bool)
      (stands : commitment ≡ value_in (take value_digits (drop (get_or s.offsets.now found.index 0) s.steps.now)))
      (told : OfLookup line (reaches found.output commitment root) r) where
    passes-step : ((c : Call) (l : Lookup) → TriedWith c s → read_lookup line ≡ some l
        → ((kind_rules c).untried l ≡ false) × InStep c l.version)
        → Passes s line root r
    passes-step h =
        passes-by commitment r told
        (λ c l w q m.
        let (u, (in_step, committed)) = h c l w q in (
          u,
          λ _. stands
              ∙ ap (λ (i : ℕ). value_in (take value_digits (drop (get_or s.offsets.now i 0) s.steps.now))) (found-told c l w q m).1
              ∙ commitment_stands s.steps.now c.outputs s.offsets.now (kind_rules c).is_committed l.version
              c.parts.steps committed w.asked w.stand m
              ∙ sym in_step,
        ))

    -- in a search those below the version sought
    pub passes-below : s.kind ≡ Search → v < s.version → Passes s line root r
    passes-below is_search h =
        passes-step
        (λ c l w q. (
          tried-below is_search (omega arith) c l w q,
          step-below c s.version s.commitment (sought-search is_search c w) l.version
              (omega (arith, version_told l q)),
        ))

    -- in monitoring all
    pub passes-monitored : s.kind ≡ Monitor → Passes s line root r
    passes-monitored is_monitoring =
        passes-step
        (λ c l w q.
        let k = subst (λ (k : Kind). IsSoughtOf k c s.version s.commitment) is_monitoring w.sought in (
          untried-monitoring c s.version s.commitment k l,
          step-monitored c s.version s.commitment k l.version,
        ))
