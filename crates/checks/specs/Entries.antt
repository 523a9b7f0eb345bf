-- What is known of the entries of a response: for contracts of private functions alone.
use Rattle.std.specs.Prelude.{◌≡◌, Bool, true, ◌&&◌, cond, List, map, ℕ, ◌+◌, leb, ltb}
use Rattle.lists.specs.Lists.{all, unfalling, last_or}
use Rattle.tree.specs.SearchTree.{frontier_and_paths}
use Rattle.rules.specs.State.{KeptLog}
use Rattle.rules.specs.Response.{Lookup, Entry}
use Rattle.rules.specs.Kinds.{asked_at}
use Rattle.rules.specs.Refusals.{entries_asked, timestamp_fits}
use Rattle.inputs.specs.declared.response_lines.Kind.{Kind}
use Rattle.checks.specs.declared.timestamps.Timestamps.{Timestamps}
use Rattle.checks.specs.MonitoredVersions.{wanted_by, fit_by}

abbrev pub versions_of : List Lookup → List ℕ
versions_of ls = map (λ (l : Lookup). l.version) ls

-- the entries are as asked: the frontier and the right paths of the positions, the lookups of each
-- as its kind wants
abbrev pub are_asked : Kind → List ℕ → ℕ → List ℕ → List ℕ → List Entry → Bool
are_asked kind ladder n ps vs es =
    entries_asked (fit_by kind) (asked_at (wanted_by kind ladder n ps vs) (frontier_and_paths n ps)) es

-- ---- times

abbrev pub timestamps_of : List Entry → List ℕ
timestamps_of es = map (λ (e : Entry). e.timestamp) es

-- whether the times of entries do not fall, and fit the kept size and time; the time of the last
abbrev pub AreTimestamps : ℕ → ℕ → List Entry → Timestamps → Type 0
AreTimestamps size timestamp es t =
    ((log : KeptLog) → log.size ≡ size → log.timestamp ≡ timestamp
    → t.fit ≡ (unfalling (timestamps_of es) && all (timestamp_fits log) es))
    × (t.latest ≡ last_or 0 (timestamps_of es))

-- the time of an entry fits the kept size and time, by its position
abbrev pub fits_kept : ℕ → ℕ → ℕ → ℕ → Bool
fits_kept position there size timestamp = cond (ltb position size) (leb there timestamp) (leb timestamp there)

-- no entry so far
unfoldable pub no_timestamps : Timestamps
no_timestamps = record { latest = 0; fit = true }

-- an entry more
unfoldable pub timestamps_after : ℕ → ℕ → Timestamps → ℕ → ℕ → Timestamps
timestamps_after size timestamp t position there =
    record { latest = there; fit = t.fit && leb t.latest there && fits_kept position there size timestamp }

-- a time is not too far ahead of the clock, nor too far behind it
abbrev pub near_clock : ℕ → ℕ → ℕ → ℕ → Bool
near_clock timestamp clock ahead behind = leb timestamp (clock + ahead) && leb clock (timestamp + behind)
