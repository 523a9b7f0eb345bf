-- `checks::map::moved_pairs` meets its contract: the pairs from an index on are moved, and there is
-- always room for the one before them.
use mathlib.Core.List.{List}
use Prim.Native.Nat.{ℕ, ◌≤◌}
use Rattle.rules.specs.Limits.{map_limit}
use Rattle.inputs.specs.declared.state.MonitoringMap.{MonitoringMap}
use Rattle.checks.specs.Map.{Holds}
use Rattle.checks.proofs.MovedPairLaws.{moved_from}
use Rattle.checks.proofs.map.moved_pairs.Given as goal

-- the map that is moved
abbrev old : List ℕ → List ℕ → ℕ → MonitoringMap
old positions versions count = record { positions = positions; versions = versions; count = count }

abbrev pub invariant-loop-i : goal.invariant-loop-i
invariant-loop-i l =
    (l.i ≤ l.initial.i) × (l.initial.i ≤ map_limit) × Holds
    (moved_from l.tree_size (old l.positions l.versions l.initial.i) l.i) l.moved
