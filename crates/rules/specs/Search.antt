-- A greatest-version search (paper 01, Ladder, search, monitoring): what is asked, what the lookups
-- must show, the new map.
use Rattle.std.specs.Prelude.{Bool, false, ◌&&◌, ◌||◌, not, cond, List, [], ◌∷◌, ℕ, leb, ltb, length}
use Rattle.std.proofs.Math.Option.{Option-elim}
use Rattle.lists.specs.Choice.{choose}
use Rattle.lists.specs.Lists.{all, any, begins, first, same}
use Rattle.tree.specs.Ladder.{ladder}
use Rattle.tree.specs.SearchTree.{frontier}
use Rattle.rules.specs.Limits.{greatest_version}
use Rattle.rules.specs.Configuration.{Configuration}
use Rattle.rules.specs.State.{MapEntry, State, versions}
use Rattle.rules.specs.Response.{Target, Lookup, Entry, Parts, is_included, lookup_versions}
use Rattle.rules.specs.Kinds.{Asked, asked_at, KindRules, put_entry}

-- t is the one number that is no version, or is below a version in the map
unfoldable pub search_target_wrong : ℕ → List MapEntry → Bool
search_target_wrong t entries = ltb greatest_version t || any (λ (v : ℕ). ltb t v) (versions entries)

-- ---- what is asked

-- the frontier, and the ladder of t in each entry
unfoldable pub asked_by_search : ℕ → ℕ → List Asked
asked_by_search n t = asked_at (λ _. ladder t) (frontier n)

-- one version or more, from the front of the ladder
unfoldable pub is_beginning : List ℕ → List ℕ → Bool
is_beginning wanted shown = ltb 0 (length shown) && begins shown wanted

-- an `in` above t: there is no commitment of its version
unfoldable pub is_included_above : ℕ → Lookup → Bool
is_included_above t l = ltb t l.version && is_included l.result

-- ---- whole and short entries

-- a lookup as in a whole entry: `in` exactly where its version is not above t
unfoldable pub result_fits : ℕ → Lookup → Bool
result_fits t l = cond (leb l.version t) (is_included l.result) (not (is_included l.result))

-- the ladder of an entry is complete, of the versions asked: paper 01 calls the entry whole
unfoldable pub is_complete : List ℕ → ℕ → Entry → Bool
is_complete vs t e = same (lookup_versions e) vs && all (result_fits t) e.lookups

-- the ladder ends early, where a version not above t is missing, the earlier lookups as in a whole
-- entry: paper 01 calls the entry short
unfoldable pub ends_early : ℕ → List Lookup → Bool
ends_early t [] = false
ends_early t (l ∷ []) = leb l.version t && not (is_included l.result)
ends_early t (l ∷ k ∷ ls) = result_fits t l && ends_early t (k ∷ ls)

-- short entries, then whole ones, the last one whole
unfoldable pub early_then_complete : List ℕ → ℕ → List Entry → Bool
early_then_complete vs t [] = false
early_then_complete vs t (e ∷ es) =
    choose (is_complete vs t e) (λ _. all (is_complete vs t) es)
    (λ _. ends_early t e.lookups && early_then_complete vs t es)

-- ---- the new map

-- version t goes to the position of the first whole entry, over a pair that stands there
unfoldable pub map_after_search : List ℕ → ℕ → List Entry → List MapEntry → List MapEntry
map_after_search vs t es old =
    Option-elim (first (is_complete vs t) es) old
    (λ e. put_entry (λ (new before : ℕ). new) (record { position = e.position; version = t }) old)

-- ---- all of it

-- the steps are the ladder of t, with commitments of the versions below t
unfoldable pub search_rules : Target → Configuration → State → Parts → KindRules
search_rules target configuration state parts =
    let t = target.version in
    record {
      target_wrong = search_target_wrong t state.monitoring_map;
      entries = asked_by_search parts.tree_size t;
      versions_fit = is_beginning;
      steps = ladder t;
      is_committed = λ (v : ℕ). ltb v t;
      untried = is_included_above t;
      results_fit = early_then_complete (ladder t) t parts.entries;
      map_after = map_after_search (ladder t) t parts.entries state.monitoring_map;
    }
