-- The new monitoring map, in the room of a state's struct: for contracts of private functions
-- alone.
use Rattle.std.specs.Prelude.{◌≡◌, true, List, ℕ, ◌≤◌, ◌<◌, eqb, length, take, Some, None, Option as CodeOption}
use Rattle.std.proofs.Math.Option.{Option-elim}
use Rattle.lists.specs.Lists.{first, rising}
use Rattle.hash.specs.Bytes.{padded}
use Rattle.rules.specs.Limits.{map_limit}
use Rattle.rules.specs.State.{MapEntry, positions as positions_of, versions as versions_of}
use Rattle.rules.specs.Kinds.{put_entry}
use Rattle.rules.specs.Monitoring.{map_after_monitoring}
use Rattle.inputs.specs.declared.response_lines.Finding.{Finding}
use Rattle.inputs.specs.declared.response_lines.Finding.TheVariants.{Search, Monitor}
use Rattle.inputs.specs.declared.state.MonitoringMap.{MonitoringMap}
use Rattle.inputs.specs.State.{map_of}

-- a struct that holds so many pairs with rising positions, and zeros after them
pub record IsMap (m : MonitoringMap) : Type 0 where
  pub few : m.count ≤ map_limit
  pub positions : m.positions ≡ padded map_limit (take m.count m.positions)
  pub versions : m.versions ≡ padded map_limit (take m.count m.versions)
  pub rise : rising (take m.count m.positions) ≡ true

-- its pairs
abbrev pub pairs_in : MonitoringMap → List MapEntry
pairs_in m = map_of (take m.count m.positions) (take m.count m.versions)

-- a version put to a position, over one that stands there
abbrev pub put_version : ℕ → ℕ → List MapEntry → List MapEntry
put_version p v es = put_entry (λ (new before : ℕ). new) (record { position = p; version = v }) es

-- a struct stands for pairs
pub record Holds (es : List MapEntry) (m : MonitoringMap) : Type 0 where
  pub positions : m.positions ≡ padded map_limit (positions_of es)
  pub versions : m.versions ≡ padded map_limit (versions_of es)
  pub count : m.count ≡ length es

-- the pairs that there is room for, or there is none for all
abbrev pub HoldsIfRoom : List MapEntry → CodeOption MonitoringMap → Type 0
HoldsIfRoom es None = map_limit < length es
HoldsIfRoom es (Some m) = (length es ≤ map_limit) × Holds es m

-- the new map by what was found
abbrev pub IsNewMap : Finding → ℕ → MonitoringMap → ℕ → CodeOption MonitoringMap → Type 0
IsNewMap (Search t) n m p r = HoldsIfRoom (put_version p t.version (pairs_in m)) r
IsNewMap Monitor n m p r = HoldsIfRoom (map_after_monitoring n (pairs_in m)) r

-- the version at a position, 0 where no pair stands there
unfoldable pub version_at : ℕ → List MapEntry → ℕ
version_at p es = Option-elim (first (λ (e : MapEntry). eqb e.position p) es) 0 (λ e. e.version)
