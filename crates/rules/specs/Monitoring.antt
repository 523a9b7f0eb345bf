-- Monitoring (paper 01, Ladder, search, monitoring; 000, 4.4): what is asked, what the lookups must
-- show, the new map.
use Rattle.std.specs.Prelude.{Bool, true, false, List, [], ◌∷◌, ℕ, max, eqb, leb}
use Rattle.lists.specs.Lists.{all, any, select, insert_all, largest, last_or, same}
use Rattle.tree.specs.Ladder.{ladder}
use Rattle.tree.specs.SearchTree.{right_ancestors, frontier_and_paths}
use Rattle.rules.specs.Configuration.{Configuration}
use Rattle.rules.specs.State.{MapEntry, State, positions, versions}
use Rattle.rules.specs.Response.{Lookup, Entry, Parts, is_included}
use Rattle.rules.specs.Kinds.{Asked, asked_at, KindRules, put_entry}

-- ---- what is asked

-- the right path of the pair's position holds the entry x
unfoldable pub reaches : ℕ → ℕ → MapEntry → Bool
reaches n x e = any (eqb x) (right_ancestors n e.position)

-- the versions of the pairs whose right path holds x; they stand below x
unfoldable pub versions_reaching : ℕ → List MapEntry → ℕ → List ℕ
versions_reaching n entries x = versions (select (reaches n x) entries)

-- the versions looked up in an entry, from those of the pairs whose right path holds it, v being
-- the largest: as much of v's ladder as is not above v, its order kept; none where no right path
-- holds it
unfoldable pub versions_shown : List ℕ → List ℕ
versions_shown [] = []
versions_shown (w ∷ ws) = select (λ (u : ℕ). leb u (largest (w ∷ ws))) (ladder (largest (w ∷ ws)))

-- the frontier and all right paths, rising, each once
unfoldable pub monitored_positions : ℕ → List MapEntry → List ℕ
monitored_positions n entries = frontier_and_paths n (positions entries)

unfoldable pub asked_by_monitoring : ℕ → List MapEntry → List Asked
asked_by_monitoring n entries =
    asked_at (λ (x : ℕ). versions_shown (versions_reaching n entries x)) (monitored_positions n entries)

-- the versions looked up at any of these entries, rising, each once
unfoldable pub versions_of : List Asked → List ℕ
versions_of [] = []
versions_of (a ∷ rest) = insert_all a.versions (versions_of rest)

-- ---- what the lookups must show

-- every lookup is `in`
unfoldable pub all_included : List Entry → Bool
all_included es = all (λ (e : Entry). all (λ (l : Lookup). is_included l.result) e.lookups) es

-- ---- the new map

-- a pair goes to the last entry of its right path, and stays where it has none; of pairs that meet
-- the larger version is kept
unfoldable pub map_after_monitoring : ℕ → List MapEntry → List MapEntry
map_after_monitoring n [] = []
map_after_monitoring n (e ∷ es) =
    put_entry max (record {
      position = last_or e.position (right_ancestors n e.position);
      version = e.version;
    })
    (map_after_monitoring n es)

-- ---- all of it

-- there is no target; all versions asked are looked up; the steps are these versions, with
-- commitments, so that every lookup can be tried
unfoldable pub monitoring_rules : Configuration → State → Parts → KindRules
monitoring_rules configuration state parts =
    record {
      target_wrong = false;
      entries = asked_by_monitoring parts.tree_size state.monitoring_map;
      versions_fit = λ (wanted shown : List ℕ). same shown wanted;
      steps = versions_of (asked_by_monitoring parts.tree_size state.monitoring_map);
      is_committed = λ (v : ℕ). true;
      untried = λ (l : Lookup). false;
      results_fit = all_included parts.entries;
      map_after = map_after_monitoring parts.tree_size state.monitoring_map;
    }
