-- `checks::map::with_pair` meets its contract: the pair is carried from index to index, and where
-- it is stored, the one that stood there is carried on.
use Prim.Native.Nat.{◌≤◌}
use Rattle.rules.specs.Limits.{map_limit}
use Rattle.checks.specs.Map.{pairs_in, put_version}
use Rattle.checks.proofs.PairPutLaws.{Carrying}
use Rattle.checks.proofs.map.with_pair.Given as goal

abbrev pub invariant-loop-i : goal.invariant-loop-i
invariant-loop-i l =
    (l.i ≤ l.count) × (l.count ≤ map_limit)
    × Carrying (put_version l.position l.version (pairs_in l.fn.map)) l.count l.positions l.versions l.carried
    l.carried_version l.i
