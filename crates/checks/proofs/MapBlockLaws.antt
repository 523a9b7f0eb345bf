-- Laws of the struct of a monitoring map (specs/Map.antt): what it holds, and the pairs that it
-- stands for.
use mathlib.Core.Path.{◌≡◌, refl, sym, ◌∙◌, ap, ap₂}
use mathlib.Core.Bool.{true}
use mathlib.Core.List.{List}
use Prim.Native.Nat.{ℕ, ◌≤◌}
use native.Mathlib.Omega.{arith}
use lib.ListN.{length, take, length-map, length-take}
use lib.Seq.{length-take-le}
use Rattle.lists.specs.Lists.{rising}
use Rattle.hash.specs.Bytes.{padded}
use Rattle.hash.proofs.BytesLaws.{length_padded, take_padded}
use Rattle.rules.specs.Limits.{map_limit}
use Rattle.rules.specs.State.{MapEntry, positions, versions}
use Rattle.inputs.specs.declared.state.MonitoringMap.{MonitoringMap}
use Rattle.inputs.specs.State.{map_block, map_of}
use Rattle.inputs.proofs.PairLaws.{map_made}
use Rattle.checks.specs.Map.{IsMap, pairs_in, Holds}

-- so many elements stand before the zeros
pub filled : (count : ℕ) (s : List ℕ) → count ≤ map_limit → s ≡ padded map_limit (take count s)
    → length (take count s) ≡ count
filled count s h e =
    let l : length s ≡ map_limit =
    ap length e ∙ length_padded map_limit (take count s) (omega (arith, length-take count s)) in
    length-take-le count s (omega arith)

-- the struct of pairs holds them
pub block_holds : (es : List MapEntry) (m : MonitoringMap) → m ≡ map_block es → Holds es m
unfolding map_block
block_holds es m e =
    record {
      positions = ap (λ (x : MonitoringMap). x.positions) e;
      versions = ap (λ (x : MonitoringMap). x.versions) e;
      count = ap (λ (x : MonitoringMap). x.count) e;
    }

module _ (es : List MapEntry) (m : MonitoringMap) (h : Holds es m) where
  -- what holds pairs is their struct
  pub held-block : m ≡ map_block es
  unfolding map_block
  held-block =
      let e : m ≡ record { positions = m.positions; versions = m.versions; count = m.count } = refl in
      e ∙ rw (h.positions, h.versions, h.count) refl

  -- the positions that fill it are theirs
  pub held-positions : take m.count m.positions ≡ positions es
  held-positions =
      ap₂ take h.count h.positions
      ∙ take_padded map_limit (length es) (positions es) (length-map es (λ (x : MapEntry). x.position))

  -- and so are the versions
  pub held-versions : take m.count m.versions ≡ versions es
  held-versions =
      ap₂ take h.count h.versions
      ∙ take_padded map_limit (length es) (versions es) (length-map es (λ (x : MapEntry). x.version))

  -- so it stands for them
  pub held-pairs : pairs_in m ≡ es
  held-pairs = ap₂ map_of held-positions held-versions ∙ map_made es

  -- pairs that rise, and that there is room for, are a map
  pub held-map : rising (positions es) ≡ true → length es ≤ map_limit → IsMap m
  held-map rise few =
      record {
        few = omega (arith, h.count);
        positions = h.positions ∙ ap (padded map_limit) (sym held-positions);
        versions = h.versions ∙ ap (padded map_limit) (sym held-versions);
        rise = ap rising held-positions ∙ rise;
      }
