-- Laws of a response that shows what its kind asks, from what is found of its steps and its entries
-- (specs/Calls.antt, HasShape).
use mathlib.Core.Path.{◌≡◌, refl, sym, ap, ap₂, ◌∙◌, subst}
use mathlib.Core.Bool.{Bool, true, false, ◌&&◌, not-not, and-false}
use mathlib.Core.List.{List, [], ◌++◌}
use Prim.Native.Nat.{ℕ, ◌-◌, ◌≤◌}
use native.Mathlib.Omega.{arith}
use lib.Dec.{ltb}
use lib.ListN.{length, take, drop, length-append, length-take, length-drop}
use lib.Seq.{take-append_seam}
use Rattle.std.specs.Prelude.{Some, None, Option as CodeOption}
use Rattle.lists.specs.Lists.{Bytes, all, same, unfalling, last_or}
use Rattle.lines.specs.declared.part.Part.{Part}
use Rattle.lines.specs.Readings.{part_of}
use Rattle.tree.specs.Ladder.{ladder}
use Rattle.tree.specs.SearchTree.{frontier, frontier_and_paths}
use Rattle.rules.specs.Limits.{greatest_version}
use Rattle.rules.specs.VrfOutputs.{has_output}
use Rattle.rules.specs.Response.{Step, Entry, Parts, step_versions}
use Rattle.rules.specs.Kinds.{Asked, asked_at, KindRules}
use Rattle.rules.specs.Search.{is_beginning, asked_by_search, search_rules}
use Rattle.rules.specs.Monitoring.{versions_reaching, versions_shown, monitored_positions, asked_by_monitoring}
use Rattle.rules.specs.Monitoring.{monitoring_rules, versions_of as versions_asked}
use Rattle.rules.specs.Refusals.{Call, kind_rules, asked, commitment_asked, entries_asked, output_missing}
use Rattle.rules.specs.Refusals.{timestamp_fits}
use Rattle.rules.specs.Refusals.{last_timestamp}
use Rattle.rules.proofs.KindLaws.{search-rules, monitoring-rules}
use Rattle.inputs.specs.declared.response_lines.Finding.{Finding as FindingBlock}
use Rattle.inputs.specs.declared.response_lines.Kind.TheVariants.{Search, Monitor}
use Rattle.inputs.specs.declared.response_lines.Finding.TheVariants.{Search as Searched, Monitor as Monitored}
use Rattle.inputs.specs.declared.response_lines.Target.{Target as TargetBlock}
use Rattle.inputs.specs.Response.{steps_in, entries_in, parts_in}
use Rattle.inputs.specs.State.{map_of}
use Rattle.inputs.proofs.PairLaws.{map_positions}
use Rattle.checks.specs.declared.readings.Call.{Call as CallBlock}
use Rattle.checks.specs.declared.trial.Shape.{Shape}
use Rattle.checks.specs.Steps.{versions_of, CommitmentsBy}
use Rattle.checks.specs.Entries.{timestamps_of, are_asked, AreTimestamps}
use Rattle.checks.specs.MonitoredVersions.{counted, ArePairs, AreMarks, wanted_by, fit_by}
use Rattle.checks.specs.Calls.{TargetFits, IsCall, steps_text, entries_text, is_shaped, HasShape}
use Rattle.checks.proofs.TargetLaws.{target_in, call-found, nothing-found}
use Rattle.checks.proofs.StepLaws.{Answered}

-- ---- parts

-- a part of a text is no longer than the text
pub part_short : (s : Bytes) (p : Part) (k : ℕ) → length s ≤ k → length (part_of s p) ≤ k
unfolding part_of
part_short s p k h = omega (arith, h, length-take (p.stop - p.start) (drop p.start s), length-drop p.start s)

-- ---- what sections are tried with

-- the version of the target of a search
pub target_version : (finding : FindingBlock) (text : Bytes) (t : TargetBlock) → finding ≡ Searched t
    → TargetFits text finding → t.version ≤ greatest_version
target_version finding text t e h = (subst (TargetFits text) e h).0

-- a search has no pairs
pub no_pairs : ArePairs [] []
unfolding all
no_pairs = record { alike = refl; few = omega arith; versions = refl }

-- marks of pairs before other numbers are as many first ones
pub first_marks : (vs marks rest : List ℕ) → AreMarks marks vs → take (length vs) (marks ++ rest) ≡ marks
first_marks vs marks rest h = subst (λ (k : ℕ). take k (marks ++ rest) ≡ marks) h.alike (take-append_seam marks rest)

-- which there are
pub marks_within : (vs marks rest : List ℕ) → AreMarks marks vs → length vs ≤ length (marks ++ rest)
marks_within vs marks rest h = omega (arith, h.alike, length-append marks rest)

-- and which are marks of the pairs
pub marks_again : (vs marks rest : List ℕ) → AreMarks marks vs → AreMarks (take (length vs) (marks ++ rest)) vs
marks_again vs marks rest h = subst (λ (ms : List ℕ). AreMarks ms vs) (sym (first_marks vs marks rest h)) h

-- ---- what any kind asks

-- steps are as a kind asks
abbrev steps_fit : KindRules → List Step → Bool
steps_fit rules steps = same (versions_of steps) rules.steps && all (commitment_asked rules.is_committed) steps

-- and entries
abbrev entries_fit : KindRules → List Entry → Bool
entries_fit rules entries = entries_asked rules.versions_fit rules.entries entries

module _ {c : Call} {k : CallBlock} {text outputs : Bytes} (i : IsCall c k text outputs) {rules : KindRules}
    (known : kind_rules c ≡ rules) {st en : Bytes} (is_steps : st ≡ steps_text text k)
    (is_entries : en ≡ entries_text text k) where
  -- the shape is that of the steps and of the entries
  shaped-by : is_shaped c ≡ (steps_fit rules (steps_in st) && entries_fit rules (entries_in en))
  unfolding asked parts_in
  shaped-by =
      ap₂ (λ (r : KindRules) (p : Parts). steps_fit r p.steps && entries_fit r p.entries) known i.parts
      ∙ ap₂ (λ (a b : Bytes). steps_fit rules (steps_in a) && entries_fit rules (entries_in b)) (sym is_steps)
      (sym is_entries)

  -- the steps and the entries of the call
  steps-by : c.parts.steps ≡ steps_in st
  unfolding parts_in
  steps-by = ap (λ (p : Parts). p.steps) i.parts ∙ ap steps_in (sym is_steps)

  entries_by : c.parts.entries ≡ entries_in en
  unfolding parts_in
  entries_by = ap (λ (p : Parts). p.entries) i.parts ∙ ap entries_in (sym is_entries)

  module _ (offsets : List ℕ) {ea : Bool} (entries : ea ≡ entries_fit rules (entries_in en)) where
    -- where the entries are not as asked, there is nothing else to tell
    not-shaped : ea ≡ false → HasShape c (steps_text text k) None offsets
    not-shaped h =
        shaped-by ∙ ap (λ (b : Bool). steps_fit rules (steps_in st) && b) (sym entries ∙ h)
        ∙ and-false (steps_fit rules (steps_in st))

    module _ (h : ea ≡ true) where
      -- nor where the steps are not
      steps-unasked : Answered st outputs rules.steps rules.is_committed None offsets
          → HasShape c (steps_text text k) None offsets
      steps-unasked a = shaped-by ∙ ap (λ (b : Bool). b && entries_fit rules (entries_in en)) a

      -- else it is told of both
      has-shape : (s : Shape) → Answered st outputs rules.steps rules.is_committed (Some s.outputs) offsets
          → AreTimestamps k.kept_size k.kept_timestamp (entries_in en) s.timestamps
          → HasShape c (steps_text text k) (Some s) offsets
      unfolding output_missing last_timestamp
      has-shape s (a, p) t = record {
        shaped = shaped-by ∙ ap₂ (λ (x y : Bool). x && y) a (sym entries ∙ h);
        outputs =
            (p c.outputs i.outputs).0
            ∙ ap (λ (l : List Step). all (has_output c.outputs) (versions_of l)) (sym steps-by)
            ∙ sym (not-not (all (has_output c.outputs) (step_versions c.parts)));
        timestamps =
            t.0 c.state.log i.size i.timestamp
            ∙ ap (λ (l : List Entry). unfalling (timestamps_of l) && all (timestamp_fits c.state.log) l)
            (sym entries_by);
        timestamp = t.1 ∙ ap (λ (l : List Entry). last_or 0 (timestamps_of l)) (sym entries_by);
        stand = λ g.
            subst (CommitmentsBy (steps_text text k) c.outputs offsets) (sym steps-by)
            (subst (λ (y : Bytes). CommitmentsBy y c.outputs offsets (steps_in st)) is_steps
            ((p c.outputs i.outputs).1 g));
      }

-- ---- a search

module _ {c : Call} {k : CallBlock} {text outputs : Bytes} (i : IsCall c k text outputs)
    (t : TargetBlock) (is_search : k.response.finding ≡ Searched t) {st en : Bytes} (is_steps : st ≡ steps_text text k)
    (is_entries : en ≡ entries_text text k) (offsets : List ℕ)
    (wanted : List ℕ) (is_ladder : wanted ≡ ladder t.version) {ea : Bool}
    (entries : ea ≡ are_asked Search wanted k.response.tree_size [] [] (entries_in en)) where
  -- what its rules are
  search-known : kind_rules c ≡ search_rules (target_in text t) c.configuration c.state c.parts
  search-known = search-rules c (target_in text t) (call-found text k.response t is_search c i.parts)

  -- whether its entries, which are those of the frontier, are as asked
  search_entries : ea ≡ entries_asked is_beginning (asked_by_search c.parts.tree_size t.version)
      (entries_in en)
  unfolding asked_by_search fit_by wanted_by frontier_and_paths parts_in
  search_entries =
      entries
      ∙ ap₂ (λ (l : List ℕ) (n : ℕ). entries_asked is_beginning (asked_at (λ _. l) (frontier n))
      (entries_in en)) is_ladder
      (sym (ap (λ (p : Parts). p.tree_size) i.parts))

  -- its shape, where they are not
  pub search-not : ea ≡ false → HasShape c (steps_text text k) None offsets
  unfolding search_rules
  search-not = not-shaped i search-known is_steps is_entries offsets search_entries

  module _ (h : ea ≡ true) where
    -- or its steps are not
    pub search-unasked : Answered st outputs (ladder t.version)
        (λ (v : ℕ). ltb v t.version)
        None offsets → HasShape c (steps_text text k) None offsets
    unfolding search_rules
    search-unasked = steps-unasked i search-known is_steps is_entries offsets search_entries h

    -- and where both are
    pub search-shape : (s : Shape)
        → Answered st outputs (ladder t.version) (λ (v : ℕ). ltb v t.version)
        (Some s.outputs) offsets
        → AreTimestamps k.kept_size k.kept_timestamp (entries_in en) s.timestamps
        → HasShape c (steps_text text k) (Some s) offsets
    unfolding search_rules
    search-shape = has-shape i search-known is_steps is_entries offsets search_entries h

-- ---- monitoring

-- what is asked of the entries, from the positions and the versions of the pairs
monitoring_asks : (n : ℕ) (ps vs : List ℕ) → length ps ≡ length vs → (l : List ℕ)
    → asked_at (wanted_by Monitor l n ps vs) (frontier_and_paths n ps) ≡ asked_by_monitoring n (map_of ps vs)
unfolding asked_by_monitoring monitored_positions wanted_by
monitoring_asks n ps vs e l =
    ap (λ (qs : List ℕ). asked_at (λ (x : ℕ). versions_shown (versions_reaching n (map_of ps vs) x))
    (frontier_and_paths n qs))
    (sym (map_positions ps vs e))

module _ {c : Call} {k : CallBlock} {text outputs : Bytes} (i : IsCall c k text outputs)
    (is_monitoring : k.response.finding ≡ Monitored) (ps vs : List ℕ) (is_map : c.state.monitoring_map ≡ map_of ps vs)
    (alike : length ps ≡ length vs) where
  -- what it asks
  monitoring-known : kind_rules c ≡ monitoring_rules c.configuration c.state c.parts
  monitoring-known = monitoring-rules c (nothing-found text k.response is_monitoring c i.parts)

  -- of its entries
  entries-known : asked_by_monitoring c.parts.tree_size c.state.monitoring_map
      ≡ asked_by_monitoring k.response.tree_size (map_of ps vs)
  unfolding parts_in
  entries-known = ap₂ asked_by_monitoring (ap (λ (p : Parts). p.tree_size) i.parts) is_map

  module _ {st en : Bytes} (is_steps : st ≡ steps_text text k) (is_entries : en ≡ entries_text text k)
      (offsets : List ℕ) (l : List ℕ) {ea : Bool}
      (entries : ea ≡ are_asked Monitor l k.response.tree_size ps vs (entries_in en)) where
    -- whether its entries are as asked
    entries_as_asked : ea ≡ entries_asked (λ (wanted shown : List ℕ). same shown wanted)
        (asked_by_monitoring c.parts.tree_size c.state.monitoring_map) (entries_in en)
    unfolding fit_by
    entries_as_asked =
        entries
        ∙ ap (λ (w : List Asked). entries_asked (λ (wanted shown : List ℕ). same shown wanted) w (entries_in en))
        (monitoring_asks k.response.tree_size ps vs alike l ∙ sym entries-known)

    -- its shape, where they are not
    pub monitoring-not : ea ≡ false → HasShape c (steps_text text k) None offsets
    unfolding monitoring_rules
    monitoring-not = not-shaped i monitoring-known is_steps is_entries offsets entries_as_asked

    module _ (marks : List ℕ) (h : ea ≡ true)
        (m : counted marks vs ≡ versions_asked (asked_by_monitoring k.response.tree_size (map_of ps vs))) where
      -- what is answered of its steps, whose versions are those of the pairs that count
      steps-answered : (r : CodeOption Bool) → Answered st outputs (counted marks vs) (λ (v : ℕ). true) r offsets
          → Answered st outputs (versions_asked (asked_by_monitoring c.parts.tree_size c.state.monitoring_map))
          (λ (v : ℕ). true) r offsets
      steps-answered r a =
          subst (λ (w : List ℕ). Answered st outputs w (λ (v : ℕ). true) r offsets)
          (m ∙ ap versions_asked (sym entries-known)) a

      -- where the steps are not as asked
      pub monitoring-unasked : Answered st outputs (counted marks vs) (λ (v : ℕ). true) None offsets
          → HasShape c (steps_text text k) None offsets
      unfolding monitoring_rules
      monitoring-unasked a =
          steps-unasked i monitoring-known is_steps is_entries offsets entries_as_asked h (steps-answered None a)

      -- and where both are
      pub monitoring-shape : (s : Shape) → Answered st outputs (counted marks vs) (λ (v : ℕ). true)
          (Some s.outputs) offsets
          → AreTimestamps k.kept_size k.kept_timestamp (entries_in en) s.timestamps
          → HasShape c (steps_text text k) (Some s) offsets
      unfolding monitoring_rules
      monitoring-shape s a =
          has-shape i monitoring-known is_steps is_entries offsets entries_as_asked h s
          (steps-answered (Some s.outputs) a)
