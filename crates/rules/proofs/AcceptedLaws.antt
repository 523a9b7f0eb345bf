-- Accepted calls (specs/Refusals.antt): what none of the rules 6 to 16 applying says of them, and
-- what they show.
use mathlib.Core.Path.{◌≡◌, refl, ap, ap₂, ◌∙◌}
use mathlib.Core.Logic.{inl}
use mathlib.Core.Bool.{Bool, true, false, ◌||◌, false≢true}
use mathlib.Core.List.{List, [], ◌∷◌, ◌++◌, map, Memᴰ}
use mathlib.Core.Option.{Option, some}
use Prim.Native.Nat.{ℕ, ◌^◌, ◌≤◌, ◌<◌}
use native.Mathlib.Omega.{arith}
use lib.Dec.{eqb, ltb}
use borrow.Author.Tests.{ltb-false, eqb-true, eqb-false, not-false}
use Rattle.lists.proofs.ChoiceLaws.{and_holds, or_fails}
use Rattle.lists.proofs.ListLaws.{every_cons, same_true, mapped_at}
use Rattle.tree.specs.Ladder.{ladder}
use Rattle.tree.specs.SearchTree.{frontier, frontier_and_paths}
use Rattle.tree.specs.LogTree.{LogEntry, log_leaf_string, string_at}
use Rattle.tree.proofs.AskedLaws.{Entries, frontier_entries, paths_entries}
use Rattle.tree.proofs.HistoryLaws.{Follows, string_of_entry}
use Rattle.rules.specs.Limits.{tree_size_limit}
use Rattle.rules.specs.State.{MapEntry, State, positions, is_valid}
use Rattle.rules.specs.Response.{Target, Finding, searched, monitored, Entry, entry_positions}
use Rattle.rules.specs.Response.{step_versions, log_entry}
use Rattle.rules.specs.ResponseText.{read_response}
use Rattle.rules.specs.Kinds.{Asked, asked_at, KindRules}
use Rattle.rules.specs.Search.{asked_by_search, search_rules}
use Rattle.rules.specs.Monitoring.{versions_reaching, versions_shown, monitored_positions}
use Rattle.rules.specs.Monitoring.{asked_by_monitoring, monitoring_rules}
use Rattle.rules.specs.Refusals.{Inputs, Call, passed, read_call}
use Rattle.rules.specs.Refusals.{kind_asked, foreign, size_wrong, target_wrong, kind_rules, asked}
use Rattle.rules.specs.Refusals.{entries_asked, not_as_asked, output_missing, timestamps_wrong, lookup_fails}
use Rattle.rules.specs.Refusals.{results_wrong}
use Rattle.rules.specs.Refusals.{known, history_differs, head_differs, room_missing, checks, last_checks}
use Rattle.rules.specs.Refusals.{judge}
use Rattle.rules.proofs.KindLaws.{search-rules, monitoring-rules}
use Rattle.rules.proofs.StateLaws.{valid_was}
use Rattle.rules.proofs.RefusalLaws.{NoneApplies, valid_some, accepted_meaning, readings_were}
use Rattle.rules.proofs.PartsLaws.{response_fits}

-- ---- accepted calls

-- what acceptance says of a call as read
pub record Accepted (c : Call) : Type 0 where
  pub valid : is_valid c.state ≡ true
  pub reads : read_response c.inputs.response ≡ some c.parts
  pub unrefused : NoneApplies (checks ++ last_checks) c

-- a call as read has what it was given, a valid state, and the parts of its response
pub call_read : (s : Option State) (i : Inputs) (c : Call) → read_call s i ≡ passed c
    → (c.inputs ≡ i) × (is_valid c.state ≡ true) × (read_response c.inputs.response ≡ some c.parts)
call_read s i c e =
    let h = readings_were s i c e in
    (h.inputs, (valid_some s c.state h.state).1, rw h.inputs h.parts)

-- a call that passes is accepted
pub accepted_call : (s : Option State) (i : Inputs) (c : Call) → judge s i ≡ passed c → (c.inputs ≡ i) × Accepted c
accepted_call s i c e =
    let (r, h) = accepted_meaning s i c e in
    let (q, v, p) = call_read s i c r in
    (q, record { valid = v; reads = p; unrefused = h })

-- ---- the entries shown

-- entries of the log have the positions of the entry lines
pub logged_positions : (es : List Entry) → map (λ (x : LogEntry). x.position) (map log_entry es) ≡ map (λ (x : Entry). x.position) es
unfolding log_entry
logged_positions [] = refl
logged_positions (e ∷ es) = ap (λ (l : List ℕ). e.position ∷ l) (logged_positions es)

-- the positions of entries that are as asked are those asked for
pub positions_asked : (f : List ℕ → List ℕ → Bool) (wanted : List Asked) (es : List Entry) → entries_asked f wanted es ≡ true
    → map (λ (e : Entry). e.position) es ≡ map (λ (a : Asked). a.position) wanted
unfolding entries_asked
positions_asked f [] [] h = refl
positions_asked f [] (e ∷ es) h = absurd (false≢true h)
positions_asked f (a ∷ rest) [] h = absurd (false≢true h)
positions_asked f (a ∷ rest) (e ∷ es) h =
    let (i, r) = and_holds _ (entries_asked f rest es) h in
    let (p, _) = and_holds (eqb e.position a.position) _ i in
    ap₂ ◌∷◌ (eqb-true e.position a.position p) (positions_asked f rest es r)

-- the positions of entries asked for at some positions are these
pub marked_positions : (versions : ℕ → List ℕ) (ps : List ℕ)
    → map (λ (a : Asked). a.position) (asked_at versions ps) ≡ ps
unfolding asked_at
marked_positions versions [] = refl
marked_positions versions (p ∷ ps) = ap (λ (l : List ℕ). p ∷ l) (marked_positions versions ps)

-- a search asks for the frontier
search_asks : (n t : ℕ) → map (λ (a : Asked). a.position) (asked_by_search n t) ≡ frontier n
unfolding asked_by_search
search_asks n t = marked_positions (λ _. ladder t) (frontier n)

-- monitoring asks for the frontier and right paths
monitoring_asks : (n : ℕ) (es : List MapEntry) → map (λ (a : Asked). a.position) (asked_by_monitoring n es) ≡ frontier_and_paths n (positions es)
unfolding asked_by_monitoring monitored_positions
monitoring_asks n es = marked_positions (λ (x : ℕ). versions_shown (versions_reaching n es x)) (frontier_and_paths n (positions es))

-- what is asked for are rising entries of the log up to its last
pub asked_entries : (c : Call) → Entries c.parts.tree_size (map (λ (a : Asked). a.position) (asked c))
unfolding asked search_rules monitoring_rules
asked_entries c = go c.parts.finding refl
  where
    n : ℕ
    n = c.parts.tree_size

    entries : KindRules → List ℕ
    entries k = map (λ (a : Asked). a.position) k.entries

    go : (f : Finding) → c.parts.finding ≡ f → Entries n (entries (kind_rules c))
    go (searched t) q = rw (ap entries (search-rules c t q) ∙ search_asks n t.version) (frontier_entries n)
    go monitored q =
        let es = c.state.monitoring_map in
        rw (ap entries (monitoring-rules c q) ∙ monitoring_asks n es) (paths_entries n (positions es))

-- ---- rules that do not apply

module _ (c : Call) where
  -- where 6 does not, the response is of the kind asked for, and has the label of the state
  pub requested-was : foreign c ≡ false → (kind_asked c ≡ true) × (c.parts.label ≡ c.state.label)
  unfolding foreign
  requested-was e = let (a, l) = and_holds _ _ (not-false _ e) in ((and_holds _ _ a).0, same_true _ _ l)

  -- where 7 does not, the log has entries, not too many, and no fewer than before
  pub size-was : size_wrong c ≡ false → (0 < c.parts.tree_size) × (c.parts.tree_size ≤ tree_size_limit) × (c.state.log.size ≤ c.parts.tree_size)
  unfolding size_wrong
  size-was e =
      let (a, d) = or_fails (eqb c.parts.tree_size 0 || ltb tree_size_limit c.parts.tree_size) (ltb c.parts.tree_size c.state.log.size) e in
      let (z, l) = or_fails (eqb c.parts.tree_size 0) (ltb tree_size_limit c.parts.tree_size) a in
      (omega (arith, eqb-false c.parts.tree_size 0 z), ltb-false tree_size_limit c.parts.tree_size l, ltb-false c.parts.tree_size c.state.log.size d)

  module _ (e : not_as_asked c ≡ false) where
    -- where 9 does not, the entries are at the positions asked for
    pub shown-asked : entry_positions c.parts ≡ map (λ (a : Asked). a.position) (asked c)
    unfolding not_as_asked
    shown-asked =
        let (_, a) = every_cons _ _ (not-false _ e) in
        let (_, b) = every_cons _ _ a in
        positions_asked (kind_rules c).versions_fit (asked c) c.parts.entries (every_cons _ _ b).0

    -- in a search at those of the frontier
    pub frontier-shown : (t : Target) → c.parts.finding ≡ searched t → entry_positions c.parts ≡ frontier c.parts.tree_size
    unfolding asked search_rules
    frontier-shown t f =
        shown-asked ∙ ap (λ (k : KindRules). map (λ (a : Asked). a.position) k.entries) (search-rules c t f)
        ∙ search_asks c.parts.tree_size t.version

    -- and its steps are those of the ladder
    pub ladder-steps : (t : Target) → c.parts.finding ≡ searched t → step_versions c.parts ≡ ladder t.version
    unfolding not_as_asked search_rules
    ladder-steps t f =
        same_true _ _ (every_cons _ _ (not-false _ e)).0 ∙ ap (λ (k : KindRules). k.steps) (search-rules c t f)

-- ---- all of them

-- none of 6 to 16 applies
pub record Unrefused (c : Call) : Type 0 where
  pub own : foreign c ≡ false
  pub size : size_wrong c ≡ false
  pub target : target_wrong c ≡ false
  pub as_asked : not_as_asked c ≡ false
  pub outputs : output_missing c ≡ false
  pub timestamps : timestamps_wrong c ≡ false
  pub lookups : lookup_fails c ≡ false
  pub results : results_wrong c ≡ false
  pub history : history_differs c ≡ false
  pub head : head_differs c ≡ false
  pub room : room_missing c ≡ false

module _ (c : Call) (h : Accepted c) where
  -- none of them applies to an accepted call
  pub rules-passed : Unrefused c
  unfolding checks last_checks
  rules-passed =
      let r6 = h.unrefused in
      let r9 = r6.1.1.1 in
      let r12 = r9.1.1.1 in
      let r15 = r12.1.1.1 in
      record {
        own = r6.0;
        size = r6.1.0;
        target = r6.1.1.0;
        as_asked = r9.0;
        outputs = r9.1.0;
        timestamps = r9.1.1.0;
        lookups = r12.0;
        results = r12.1.0;
        history = r12.1.1.0;
        head = r15.0;
        room = r15.1.0;
      }

  -- the log has entries, not too many, and no fewer than before
  pub size_fits : (0 < c.parts.tree_size) × (c.parts.tree_size ≤ tree_size_limit) × (c.state.log.size ≤ c.parts.tree_size)
  size_fits = size-was c rules-passed.size

  -- the entries shown are rising entries of the log up to its last
  pub shown-entries : Entries c.parts.tree_size (entry_positions c.parts)
  shown-entries = rw (shown-asked c rules-passed.as_asked) (asked_entries c)

  -- the walk shows the last entry, and kept values and nodes are as long as digests
  pub call-follows : Follows c.parts.tree_size (known c) (entry_positions c.parts) c.parts.nodes
  unfolding known
  call-follows =
      let (p, _, g) = size_fits in
      record {
        grown = g;
        last = inl (shown-entries.last p);
        values-sized = (valid_was c.state h.valid).value_length;
        nodes-sized = (response_fits c.inputs.response c.parts h.reads).nodes;
      }

  -- where the walk shows an entry, it hashes the entry's leaf string
  pub shown-string : (e : Entry) → Memᴰ e c.parts.entries → string_at (known c).entries e.position ≡ log_leaf_string (log_entry e)
  unfolding known log_entry
  shown-string e m =
      string_of_entry (map log_entry c.parts.entries) (log_entry e) (rw (logged_positions c.parts.entries) shown-entries.rises)
      (mapped_at log_entry c.parts.entries e m)

  -- its time has 8 bytes
  pub shown-timestamp : (e : Entry) → Memᴰ e c.parts.entries → e.timestamp < 2 ^ 64
  shown-timestamp e m = let t = ((response_fits c.inputs.response c.parts h.reads).entries e m).timestamp in omega arith
