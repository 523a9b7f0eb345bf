-- `checks::map::version_there` meets its contract: the pairs passed so far stand elsewhere.
use mathlib.Core.Path.{◌≡◌}
use Prim.Native.Nat.{◌≤◌}
use Rattle.rules.specs.Limits.{map_limit}
use Rattle.checks.specs.Map.{pairs_in, version_at}
use Rattle.checks.proofs.MovedPairLaws.{pairs_from}
use Rattle.checks.proofs.map.version_there.Given as goal

abbrev pub invariant-loop-i : goal.invariant-loop-i
invariant-loop-i l =
    (l.i ≤ l.fn.map.count) × (l.fn.map.count ≤ map_limit) ×
    (version_at l.position (pairs_from l.fn.map l.i) ≡ version_at l.position (pairs_in l.fn.map))
