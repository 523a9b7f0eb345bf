-- `checks::map::moved_pairs` meets its contract: the pairs from an index on are moved, and there is
-- always room for the one before them.
use native.Mathlib.Omega.{arith}
use Rattle.checks.proofs.MovedPairLaws.{moved_none, moved-map, moved-next}
use Rattle.checks.proofs.map.moved_pairs.Goals as goal

pub loop-i-init : goal.loop-i-init
loop-i-init c = (omega arith, c.requires.few, moved_none _ _ c.requires)

pub version_there-there-requires : goal.version_there-there-requires
version_there-there-requires c = moved-map _ _ c.requires c.loop-i.i c.loop-i.moved c.loop-i.invariant.2

pub with_pair-next-requires : goal.with_pair-next-requires
with_pair-next-requires c = moved-map _ _ c.requires c.loop-i.i c.loop-i.moved c.loop-i.invariant.2

pub unwrap-moved-requires : goal.unwrap-moved-requires
unwrap-moved-requires c =
    (moved-next _ _ c.requires c.loop-i.i c.loop-i.moved c.loop-i.invariant.2 _ _ _ _ (omega arith) c.loop-i.invariant.0
    c.last_right_ancestor-end.ensures c.version_there-there.ensures c.max.ensures c.with_pair-next.ensures).0

pub loop-i-preserved : goal.loop-i-preserved
loop-i-preserved c = (
  omega arith,
  c.loop-i.invariant.1,
  (moved-next _ _ c.requires c.loop-i.i c.loop-i.moved c.loop-i.invariant.2 _ _ _ _ (omega arith) c.loop-i.invariant.0
      c.last_right_ancestor-end.ensures c.version_there-there.ensures c.max.ensures c.with_pair-next.ensures).1
      _ c.unwrap-moved.ensures,
)
