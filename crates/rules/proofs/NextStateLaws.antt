-- The state after an accepted call is valid; the map after a search has at most one pair more than
-- before, after monitoring no more, all on the frontier (specs/Calls.antt).
use mathlib.Core.Path.{◌≡◌, refl, sym, ap, ◌∙◌}
use mathlib.Core.Bool.{Bool, true, false, false≢true}
use mathlib.Core.List.{List, [], ◌∷◌, map, Memᴰ}
use mathlib.Core.Option
use mathlib.Core.Option.{Option, none, some, Option-elim, get_or}
use Prim.Native.Nat.{ℕ, ◌+◌, ◌≤◌, ◌<◌, max}
use native.Mathlib.Omega.{arith}
use lib.Dec.{eqb, ltb}
use lib.ListN.{length}
use borrow.Author.Tests.{lt-ltb, le-ltb, ltb-false, eqb-true}
use Rattle.lists.specs.Choice.{choose}
use Rattle.lists.specs.Lists.{Bytes, first, last_or, rising, insert}
use Rattle.lists.proofs.ChoiceLaws.{or_fails, choose_by}
use Rattle.lists.proofs.ListLaws.{first_listed, mapped_at}
use Rattle.lists.proofs.MemberLaws.{each-cons}
use Rattle.lists.proofs.RisingLaws.{insert_rising}
use Rattle.tree.specs.Ladder.{ladder}
use Rattle.tree.specs.SearchTree.{frontier, right_ancestors}
use Rattle.tree.specs.LogTree.{full_subtrees}
use Rattle.tree.proofs.CollisionLaws.{Sized}
use Rattle.tree.proofs.FullLaws.{full_length}
use Rattle.tree.proofs.AncestorLaws.{right_ancestors_end}
use Rattle.tree.proofs.FrontierLaws.{frontier_below}
use Rattle.tree.proofs.WalkValueLaws.{full_values_length}
use Rattle.tree.proofs.HistoryLaws.{full_values_count}
use Rattle.rules.specs.Limits.{greatest_version, map_limit, number_bound}
use Rattle.rules.specs.State.{MapEntry, State, positions, is_valid}
use Rattle.rules.specs.Response.{Kind, search as search_kind, monitor, Target, Finding, searched}
use Rattle.rules.specs.Response.{monitored, Entry, kind_of, target_of, entry_positions}
use Rattle.rules.specs.Kinds.{KindRules, put_entry}
use Rattle.rules.specs.Search.{search_target_wrong, is_complete, map_after_search, search_rules}
use Rattle.rules.specs.Monitoring.{map_after_monitoring, monitoring_rules}
use Rattle.rules.specs.Refusals.{Inputs, Call, passed, same_kind, kind_asked, target_wrong, log_walk}
use Rattle.rules.specs.Refusals.{last_timestamp, known, value_found, map_after, room_missing, judge}
use Rattle.rules.specs.Calls.{judge_call, Arguments, library_inputs, inputs_within, judge_search}
use Rattle.rules.specs.Calls.{judge_monitoring, next_log, next_state}
use Rattle.rules.proofs.MapLaws.{Stand, monitored_on_frontier}
use Rattle.rules.proofs.StateLaws.{valid_was, valid_is}
use Rattle.rules.proofs.PartsLaws.{response_fits}
use Rattle.rules.proofs.KindLaws.{search-rules, monitoring-rules}
use Rattle.rules.proofs.AcceptedLaws.{Accepted, accepted_call, requested-was, rules-passed, size_fits}
use Rattle.rules.proofs.AcceptedLaws.{shown-entries, call-follows}

-- ---- the map

-- a pair that a valid state of n entries may keep
abbrev pub PairFits : ℕ → MapEntry → Type 0
PairFits n e = (e.position < n) × (e.version ≤ greatest_version)

-- a map that a valid state of n entries may keep, if it is not too long
pub record Keepable (n : ℕ) (es : List MapEntry) : Type 0 where
  pub rises : rising (positions es) ≡ true
  pub pairs : (e : MapEntry) → Memᴰ e es → PairFits n e

module _ (pick : ℕ → ℕ → ℕ) (e : MapEntry) where
  -- a pair put into a map that has a first one: before it, over it, or after it
  put-by : (P : List MapEntry → Type 0) (x : MapEntry) (xs : List MapEntry) → P (e ∷ x ∷ xs)
      → P (record { position = e.position; version = pick e.version x.version } ∷ xs) → P (x ∷ put_entry pick e xs) → P (put_entry pick e (x ∷ xs))
  unfolding put_entry
  put-by P x xs before over behind =
      choose_by P (ltb e.position x.position) _ _ (λ _. before) (λ _. choose_by P (eqb e.position x.position) _ _ (λ _. over) (λ _. behind))

  -- the map has at most one pair more
  pub put-length : (es : List MapEntry) → length (put_entry pick e es) ≤ length es + 1
  unfolding put_entry
  put-length [] = omega arith
  put-length (x ∷ xs) = let h = put-length xs in put-by (λ (l : List MapEntry). length l ≤ length (x ∷ xs) + 1) x xs (omega arith) (omega arith) (omega arith)

  -- its positions are the old ones and the pair's
  pub put-positions : (es : List MapEntry) → positions (put_entry pick e es) ≡ insert e.position (positions es)
  unfolding put_entry insert choose
  put-positions [] = refl
  put-positions (x ∷ xs) = go (ltb e.position x.position) (eqb e.position x.position) refl (put-positions xs)
    where
      go : (a b : Bool) → eqb e.position x.position ≡ b → positions (put_entry pick e xs) ≡ insert e.position (positions xs)
          → positions (choose a (λ _. e ∷ x ∷ xs)
          (λ _. choose b (λ _. record { position = e.position; version = pick e.version x.version } ∷ xs) (λ _. x ∷ put_entry pick e xs)))
          ≡ choose a (λ _. e.position ∷ x.position ∷ positions xs)
          (λ _. choose b (λ _. x.position ∷ positions xs) (λ _. x.position ∷ insert e.position (positions xs)))
      go true b q ih = refl
      go false true q ih = ap (λ (p : ℕ). p ∷ positions xs) (eqb-true e.position x.position q)
      go false false q ih = ap (λ (l : List ℕ). x.position ∷ l) ih

  -- a pair put among pairs that fit: all of them fit
  put_fits : (n : ℕ) → ((v : ℕ) → v ≤ greatest_version → pick e.version v ≤ greatest_version) → PairFits n e → (es : List MapEntry)
      → ((x : MapEntry) → Memᴰ x es → PairFits n x) → (x : MapEntry) → Memᴰ x (put_entry pick e es) → PairFits n x
  unfolding put_entry
  put_fits n k f [] h = each-cons (PairFits n) e [] f h
  put_fits n k f (y ∷ ys) h =
      let (_, v) = h y (Memᴰ.head refl) in
      let rest : (x : MapEntry) → Memᴰ x ys → PairFits n x = λ x m. h x (Memᴰ.tail m) in
      put-by (λ (l : List MapEntry). (x : MapEntry) → Memᴰ x l → PairFits n x) y ys
      (each-cons (PairFits n) e (y ∷ ys) f h)
      (each-cons (PairFits n) (record { position = e.position; version = pick e.version y.version }) ys (f.0, k y.version v) rest)
      (each-cons (PairFits n) y (put_entry pick e ys) (h y (Memᴰ.head refl)) (put_fits n k f ys rest))

  -- and the map may be kept
  pub put-keepable : (n : ℕ) → ((v : ℕ) → v ≤ greatest_version → pick e.version v ≤ greatest_version) → PairFits n e → (es : List MapEntry)
      → Keepable n es → Keepable n (put_entry pick e es)
  put-keepable n k f es h =
      record { rises = rw (put-positions es) (insert_rising e.position (positions es) h.rises); pairs = put_fits n k f es h.pairs }

-- the map after monitoring may be kept
pub monitored_keepable : (n : ℕ) (es : List MapEntry) → ((e : MapEntry) → Memᴰ e es → PairFits n e) → Keepable n (map_after_monitoring n es)
unfolding map_after_monitoring rising
monitored_keepable n [] h = record { rises = refl; pairs = h }
monitored_keepable n (e ∷ es) h =
    let (p, v) = h e (Memᴰ.head refl) in
    let q = frontier_below n _ (right_ancestors_end n e.position p) in
    put-keepable max (record { position = last_or e.position (right_ancestors n e.position); version = e.version }) n (λ w l. omega arith) (q, v)
    (map_after_monitoring n es) (monitored_keepable n es (λ x m. h x (Memᴰ.tail m)))

-- its positions rise
pub monitored_rises : (n : ℕ) (es : List MapEntry) → rising (positions (map_after_monitoring n es)) ≡ true
unfolding map_after_monitoring rising
monitored_rises n [] = refl
monitored_rises n (e ∷ es) =
    let end = last_or e.position (right_ancestors n e.position) in
    ap rising (put-positions max (record { position = end; version = e.version }) (map_after_monitoring n es))
    ∙ insert_rising end (positions (map_after_monitoring n es)) (monitored_rises n es)

-- it is not longer than the old one
pub monitored_length : (n : ℕ) (es : List MapEntry) → length (map_after_monitoring n es) ≤ length es
unfolding map_after_monitoring
monitored_length n [] = omega arith
monitored_length n (e ∷ es) =
    let h = monitored_length n es in
    let k = put-length max (record { position = last_or e.position (right_ancestors n e.position); version = e.version }) (map_after_monitoring n es) in
    omega arith

-- ---- 16

-- the new map of monitoring
pub monitoring_map_lem : (c : Call) → c.parts.finding ≡ monitored
    → map_after c ≡ map_after_monitoring c.parts.tree_size c.state.monitoring_map
unfolding map_after monitoring_rules
monitoring_map_lem c f = ap (λ (k : KindRules). k.map_after) (monitoring-rules c f)

-- monitoring finds no value
pub monitoring_value : (c : Call) → c.parts.finding ≡ monitored → value_found c ≡ none
unfolding value_found target_of
monitoring_value c f = ap (λ (g : Finding). Option.map (λ (t : Target). t.value) (target_of g)) f

-- and its map has no more pairs than before: 16 does not apply
pub monitoring_room : (c : Call) → is_valid c.state ≡ true → c.parts.finding ≡ monitored → room_missing c ≡ false
unfolding room_missing
monitoring_room c v f =
    let few = (valid_was c.state v).map_fits in
    let l = monitored_length c.parts.tree_size c.state.monitoring_map in
    let m = map_after_monitoring c.parts.tree_size c.state.monitoring_map in
    let n = le-ltb map_limit (length m) (omega arith) in
    rw (monitoring_value c f, monitoring_map_lem c f, n, le-ltb c.inputs.room 0 (omega arith)) refl

-- ---- the new state

-- where the times of all entries are in their bound, the last one is
last_in_bound : (d : ℕ) (es : List Entry) → d ≤ number_bound → ((e : Entry) → Memᴰ e es → e.timestamp ≤ number_bound)
    → last_or d (map (λ (e : Entry). e.timestamp) es) ≤ number_bound
unfolding last_or
last_in_bound d [] b h = b
last_in_bound d (e ∷ es) b h = last_in_bound e.timestamp es (h e (Memᴰ.head refl)) (λ x m. h x (Memᴰ.tail m))

module _ (c : Call) (h : Accepted c) where
  -- there is a value for each full subtree
  values-count : length (next_state c).log.values ≡ length (full_subtrees c.parts.tree_size)
  unfolding next_state next_log log_walk known
  values-count =
      full_values_count c.parts.tree_size (known c) (entry_positions c.parts) c.parts.nodes (call-follows c h) (size_fits c h).0 ∙ sym (full_length c.parts.tree_size)

  -- each as long as a hash
  value_length_lem : Sized (next_state c).log.values
  unfolding next_state next_log
  value_length_lem = full_values_length c.parts.tree_size (known c) (log_walk c) c.parts.nodes (call-follows c h).values-sized (call-follows c h).nodes-sized

  -- the time of the last entry is in its bound
  last-timestamp : last_timestamp c ≤ number_bound
  unfolding last_timestamp
  last-timestamp = last_in_bound 0 c.parts.entries (omega arith) (λ e m. ((response_fits c.inputs.response c.parts h.reads).entries e m).timestamp)

  -- the state after the call is valid, if its map is one that may be kept
  pub next-valid : length (map_after c) ≤ map_limit → Keepable c.parts.tree_size (map_after c) → is_valid (next_state c) ≡ true
  unfolding next_state next_log
  next-valid l k =
      let (p, n, _) = size_fits c h in
      valid_is (next_state c) (record {
        label_fits = (valid_was c.state h.valid).label_fits;
        size_fits = n;
        time_bound = last-timestamp;
        timestamp_fits = rw (lt-ltb 0 c.parts.tree_size p) refl;
        values_count = values-count;
        value_length = value_length_lem;
        map_fits = l;
        map_rises = k.rises;
        position_fits = λ e m. (k.pairs e m).0;
        version_fits = λ e m. (k.pairs e m).1;
      })

  -- the new map has not too many pairs
  pub map-few : length (map_after c) ≤ map_limit
  unfolding room_missing
  map-few =
      let v = ltb c.inputs.room (length (get_or (value_found c) [])) in
      ltb-false map_limit (length (map_after c)) (or_fails v (ltb map_limit (length (map_after c))) (rules-passed c h).room).1

  -- the old map may be kept
  old-keepable : Keepable c.parts.tree_size c.state.monitoring_map
  old-keepable =
      let v = valid_was c.state h.valid in
      let (_, _, g) = size_fits c h in
      record { rises = v.map_rises; pairs = λ e m. let p = v.position_fits e m in (omega arith, v.version_fits e m) }

  module _ (t : Target) (f : c.parts.finding ≡ searched t) where
    -- the new map of a search
    search-map : map_after c ≡ map_after_search (ladder t.version) t.version c.parts.entries c.state.monitoring_map
    unfolding map_after search_rules
    search-map = ap (λ (k : KindRules). k.map_after) (search-rules c t f)

    -- its target is a version
    version-fits : t.version ≤ greatest_version
    unfolding target_wrong search_rules search_target_wrong
    version-fits =
        let w = sym (ap (λ (k : KindRules). k.target_wrong) (search-rules c t f)) ∙ (rules-passed c h).target in
        ltb-false greatest_version t.version (or_fails _ _ w).0

    -- the old map with the target's version put to a position
    abbrev old_with : ℕ → List MapEntry
    old_with p = put_entry (λ (new before : ℕ). new) (record { position = p; version = t.version }) c.state.monitoring_map

    -- what holds of the old map, and with the version at any entry, holds of the new one
    search-map-by : (P : List MapEntry → Type 0) → P c.state.monitoring_map → ((p : ℕ) → p < c.parts.tree_size → P (old_with p)) → P (map_after c)
    unfolding map_after_search Option-elim
    search-map-by P old new = rw search-map (go (first (is_complete (ladder t.version) t.version) c.parts.entries) refl)
      where
        go : (o : Option Entry) → first (is_complete (ladder t.version) t.version) c.parts.entries ≡ o
            → P (Option-elim o c.state.monitoring_map (λ e. old_with e.position))
        go none q = old
        go (some e) q =
            let m = mapped_at (λ (x : Entry). x.position) c.parts.entries e (first_listed _ c.parts.entries e q) in
            new e.position ((shown-entries c h).within e.position m)

    -- the new map may be kept
    pub search-keepable : Keepable c.parts.tree_size (map_after c)
    search-keepable = search-map-by (Keepable c.parts.tree_size) old-keepable (λ p l.
        put-keepable (λ (new before : ℕ). new) (record { position = p; version = t.version }) c.parts.tree_size (λ _ _. version-fits) (l, version-fits)
        c.state.monitoring_map old-keepable)

    -- it has at most one pair more than the old one
    pub search-one-more : length (map_after c) ≤ length c.state.monitoring_map + 1
    search-one-more = search-map-by (λ (l : List MapEntry). length l ≤ length c.state.monitoring_map + 1) (omega arith)
        (λ p _. put-length (λ (new before : ℕ). new) (record { position = p; version = t.version }) c.state.monitoring_map)

  module _ (f : c.parts.finding ≡ monitored) where
    -- the new map of monitoring has no more pairs than the old one
    pub monitoring-no-more : length (map_after c) ≤ length c.state.monitoring_map
    monitoring-no-more = rw (monitoring_map_lem c f) (monitored_length c.parts.tree_size c.state.monitoring_map)

    -- they stand on the frontier
    pub monitoring-stands : Stand (λ (p : ℕ). Memᴰ p (frontier c.parts.tree_size)) (map_after c)
    monitoring-stands = rw (monitoring_map_lem c f) (monitored_on_frontier c.parts.tree_size c.state.monitoring_map (λ e m. (old-keepable.pairs e m).0))

    -- and may be kept
    monitoring-keepable : Keepable c.parts.tree_size (map_after c)
    monitoring-keepable = rw (monitoring_map_lem c f) (monitored_keepable c.parts.tree_size c.state.monitoring_map old-keepable.pairs)

  -- the state after an accepted call is valid
  pub accepted-valid : is_valid (next_state c) ≡ true
  accepted-valid = go c.parts.finding refl
    where
      go : (f : Finding) → c.parts.finding ≡ f → is_valid (next_state c) ≡ true
      go (searched t) f = next-valid map-few (search-keepable t f)
      go monitored f = next-valid map-few (monitoring-keepable f)

-- ---- the calls

-- the state after an accepted call of either kind is valid
pub state_valid : (s : Option State) (i : Inputs) (c : Call) → judge s i ≡ passed c → is_valid (next_state c) ≡ true
state_valid s i c e = let (_, h) = accepted_call s i c e in accepted-valid c h

-- after a search
pub search_state_valid : (s : Option State) (a : Arguments) (signed output : Bytes) (c : Call) → judge_search s a signed output ≡ passed c
    → is_valid (next_state c) ≡ true
unfolding judge_search judge_call
search_state_valid s a signed output c e = state_valid s (library_inputs (some search_kind) a signed (length output)) c e

-- after monitoring
pub monitoring_state_valid : (s : Option State) (a : Arguments) (signed : Bytes) (c : Call) → judge_monitoring s a signed ≡ passed c → is_valid (next_state c) ≡ true
unfolding judge_monitoring judge_call
monitoring_state_valid s a signed c e = state_valid s (library_inputs (some monitor) a signed 0) c e

-- what an accepted call found is of the kind asked for
kind_was : (s : Option State) (k : Kind) (a : Arguments) (signed : Bytes) (room : ℕ) (c : Call) → judge s (library_inputs (some k) a signed room) ≡ passed c
    → same_kind (kind_of c.parts.finding) k ≡ true
unfolding kind_asked library_inputs inputs_within Option-elim
kind_was s k a signed room c e =
    let (q, h) = accepted_call s (library_inputs (some k) a signed room) c e in
    let w : Option-elim c.inputs.kind false (same_kind (kind_of c.parts.finding)) ≡ true = (requested-was c (rules-passed c h).own).0 in
    let j : c.inputs.kind ≡ some k = ap (λ (i : Inputs). i.kind) q in
    sym (ap (λ (o : Option Kind). Option-elim o false (same_kind (kind_of c.parts.finding))) j) ∙ w

-- what is of the kind of a search has a target
found_by_search : (f : Finding) → same_kind (kind_of f) search_kind ≡ true → (t : Target) × (f ≡ searched t)
unfolding same_kind kind_of
found_by_search (searched t) h = (t, refl)
found_by_search monitored h = absurd (false≢true h)

-- so has an accepted search
pub search_target : (s : Option State) (a : Arguments) (signed output : Bytes) (c : Call) → judge_search s a signed output ≡ passed c
    → (t : Target) × (c.parts.finding ≡ searched t)
unfolding judge_search judge_call
search_target s a signed output c e = found_by_search c.parts.finding (kind_was s search_kind a signed (length output) c e)

-- what is of the kind of monitoring has none
pub found_by_monitoring : (f : Finding) → same_kind (kind_of f) monitor ≡ true → f ≡ monitored
unfolding same_kind kind_of
found_by_monitoring (searched t) h = absurd (false≢true h)
found_by_monitoring monitored h = refl

-- nor has accepted monitoring
pub monitoring_finding : (s : Option State) (a : Arguments) (signed : Bytes) (c : Call) → judge_monitoring s a signed ≡ passed c → c.parts.finding ≡ monitored
unfolding judge_monitoring judge_call
monitoring_finding s a signed c e = found_by_monitoring c.parts.finding (kind_was s monitor a signed 0 c e)

-- the map after a search has at most one pair more than the old one, and not too many
pub search_map_length : (s : Option State) (a : Arguments) (signed output : Bytes) (c : Call) → judge_search s a signed output ≡ passed c
    → (length (map_after c) ≤ length c.state.monitoring_map + 1) × (length (map_after c) ≤ map_limit)
unfolding judge_search judge_call
search_map_length s a signed output c e =
    let (_, h) = accepted_call s (library_inputs (some search_kind) a signed (length output)) c e in
    let (t, f) = search_target s a signed output c e in
    (search-one-more c h t f, map-few c h)

-- after monitoring every pair stands on the frontier, and there are no more than before
pub monitoring_map_stands : (s : Option State) (a : Arguments) (signed : Bytes) (c : Call) → judge_monitoring s a signed ≡ passed c
    → Stand (λ (p : ℕ). Memᴰ p (frontier c.parts.tree_size)) (map_after c) × (length (map_after c) ≤ length c.state.monitoring_map)
unfolding judge_monitoring judge_call
monitoring_map_stands s a signed c e =
    let (_, h) = accepted_call s (library_inputs (some monitor) a signed 0) c e in
    let f = monitoring_finding s a signed c e in
    (monitoring-stands c h f, monitoring-no-more c h f)
