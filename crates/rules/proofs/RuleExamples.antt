-- Small examples of single rules, without hashing: antt computes each one.
use mathlib.Core.Path.{◌≡◌, refl}
use mathlib.Core.Bool.{Bool, true, false, cond}
use mathlib.Core.List.{List, [], ◌∷◌}
use Prim.Native.Nat.{ℕ}
use Rattle.tree.specs.Ladder.{ladder}
use Rattle.rules.specs.Response.{Lookup, Entry, included, absent}
use Rattle.rules.specs.Kinds.{Asked}
use Rattle.rules.specs.Search.{asked_by_search, early_then_complete, map_after_search}
use Rattle.rules.specs.Monitoring.{asked_by_monitoring, versions_of, map_after_monitoring}
use Rattle.rules.proofs.Running.{opened, pair}

abbrev ask : ℕ → List ℕ → Asked
ask p vs = record { position = p; versions = vs }

-- ---- monitoring

pub record MonitoringExamples : Type 0 where
  -- no pairs: the frontier without lookups
  pub none-watched : asked_by_monitoring 13 [] ≡ ask 7 [] ∷ ask 11 [] ∷ ask 12 [] ∷ []
  -- a right path within the frontier and beside it
  pub two-watched : asked_by_monitoring 14 (pair 4 1 ∷ pair 8 0 ∷ [])
      ≡ ask 5 (0 ∷ 1 ∷ []) ∷ ask 7 (0 ∷ 1 ∷ []) ∷ ask 9 (0 ∷ []) ∷ ask 11 (0 ∷ []) ∷ ask 13 [] ∷ []
  -- the largest version below the entry counts, and the other adds no step
  pub dominated : asked_by_monitoring 4 (pair 1 5 ∷ pair 2 2 ∷ []) ≡ ask 3 (0 ∷ 1 ∷ 3 ∷ 5 ∷ []) ∷ []
  pub dominated-steps : versions_of (asked_by_monitoring 4 (pair 1 5 ∷ pair 2 2 ∷ [])) ≡ 0 ∷ 1 ∷ 3 ∷ 5 ∷ []
  -- steps of several entries, rising, each once
  pub steps-merged : versions_of (asked_by_monitoring 14 (pair 4 2 ∷ pair 8 5 ∷ [])) ≡ 0 ∷ 1 ∷ 2 ∷ 3 ∷ 5 ∷ []
  -- where a pair stands, its own version is not asked for
  pub on-the-entry : asked_by_monitoring 4 (pair 1 0 ∷ pair 3 9 ∷ []) ≡ ask 3 (0 ∷ []) ∷ []
  -- pairs move to the ends of their right paths; where they meet the larger version is kept, from
  -- whichever it comes
  pub moved : map_after_monitoring 14 (pair 4 1 ∷ pair 8 0 ∷ pair 13 3 ∷ []) ≡ pair 7 1 ∷ pair 11 0 ∷ pair 13 3 ∷ []
  pub met : map_after_monitoring 4 (pair 1 5 ∷ pair 2 2 ∷ []) ≡ pair 3 5 ∷ []
  pub met-standing : map_after_monitoring 4 (pair 1 0 ∷ pair 3 9 ∷ []) ≡ pair 3 9 ∷ []

pub monitoring_examples : MonitoringExamples
unfolding opened
monitoring_examples =
    record {
      none-watched = refl;
      two-watched = refl;
      dominated = refl;
      dominated-steps = refl;
      steps-merged = refl;
      on-the-entry = refl;
      moved = refl;
      met = refl;
      met-standing = refl;
    }

-- ---- search: an entry at a position, with a lookup of each version, `in` or not

abbrev shows : ℕ → Bool → Lookup
shows v b = record { version = v; result = cond b included absent; siblings = [] }

abbrev entry : ℕ → List Lookup → Entry
entry p ls = record { position = p; timestamp = 0; prefix_root = []; lookups = ls }

-- of the ladder 0 1 3 2 of version 1
abbrev whole : ℕ → Entry
whole p = entry p (shows 0 true ∷ shows 1 true ∷ shows 3 false ∷ shows 2 false ∷ [])

pub record SearchExamples : Type 0 where
  pub asked : asked_by_search 3 1 ≡ ask 1 (0 ∷ 1 ∷ 3 ∷ 2 ∷ []) ∷ ask 2 (0 ∷ 1 ∷ 3 ∷ 2 ∷ []) ∷ []
  pub all_whole : early_then_complete (ladder 1) 1 (whole 3 ∷ whole 5 ∷ []) ≡ true
  pub short-first : early_then_complete (ladder 1) 1 (entry 3 (shows 0 false ∷ []) ∷ entry 5 (shows 0 true ∷ shows 1 false ∷ []) ∷ whole 6 ∷ []) ≡ true
  -- the whole ladder, whose last version is up to t and missing, is short
  pub last-missing : early_then_complete (ladder 2) 2 (entry 3 (shows 0 true ∷ shows 1 true ∷ shows 3 false ∷ shows 2 false ∷ [])
      ∷ entry 4 (shows 0 true ∷ shows 1 true ∷ shows 3 false ∷ shows 2 true ∷ []) ∷ []) ≡ true
  pub no-entry : early_then_complete (ladder 1) 1 [] ≡ false
  pub last-short : early_then_complete (ladder 1) 1 (whole 3 ∷ entry 5 (shows 0 false ∷ []) ∷ []) ≡ false
  pub short-between : early_then_complete (ladder 1) 1 (whole 3 ∷ entry 5 (shows 0 false ∷ []) ∷ whole 6 ∷ []) ≡ false
  -- `in` above t at an early entry, however right the last one is
  pub above-early : early_then_complete (ladder 1) 1 (entry 3 (shows 0 true ∷ shows 1 true ∷ shows 3 true ∷ shows 2 false ∷ []) ∷ whole 5 ∷ []) ≡ false
  pub above-in-short : early_then_complete (ladder 2) 2 (entry 3 (shows 0 true ∷ shows 1 true ∷ shows 3 true ∷ shows 2 false ∷ [])
      ∷ entry 4 (shows 0 true ∷ shows 1 true ∷ shows 3 false ∷ shows 2 true ∷ []) ∷ []) ≡ false
  -- a ladder that stops too soon, and one that goes on after a missing version
  pub stops-too-soon : early_then_complete (ladder 1) 1 (entry 3 (shows 0 true ∷ shows 1 true ∷ []) ∷ whole 5 ∷ []) ≡ false
  pub goes_on : early_then_complete (ladder 1) 1 (entry 3 (shows 0 false ∷ shows 1 false ∷ []) ∷ whole 5 ∷ []) ≡ false
  -- the first whole entry gets the version, in place of one that stands there
  pub put : map_after_search (ladder 1) 1 (entry 3 (shows 0 false ∷ []) ∷ whole 5 ∷ whole 6 ∷ []) (pair 2 0 ∷ pair 6 1 ∷ []) ≡ pair 2 0 ∷ pair 5 1 ∷ pair 6 1 ∷ []
  pub put_over : map_after_search (ladder 1) 1 (whole 5 ∷ whole 6 ∷ []) (pair 2 0 ∷ pair 5 0 ∷ []) ≡ pair 2 0 ∷ pair 5 1 ∷ []

pub search_examples : SearchExamples
unfolding opened
search_examples =
    record {
      asked = refl;
      all_whole = refl;
      short-first = refl;
      last-missing = refl;
      no-entry = refl;
      last-short = refl;
      short-between = refl;
      above-early = refl;
      above-in-short = refl;
      stops-too-soon = refl;
      goes_on = refl;
      put = refl;
      put_over = refl;
    }
