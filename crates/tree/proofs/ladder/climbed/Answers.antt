-- `tree::ladder::climbed` meets its contract: the versions stored so far are those of the climb,
-- and what is left is the climb from `high` on.
use native.Mathlib.Omega.{arith}
use Rattle.tree.proofs.LadderFillLaws.{climbing_start, climbing_room, climbing_next_fits}
use Rattle.tree.proofs.LadderFillLaws.{climbing_next, climbing_end}
use Rattle.tree.proofs.ladder.climbed.Goals as goal

pub loop-high-init : goal.loop-high-init
loop-high-init c = climbing_start c.args.version

pub push-requires : goal.push-requires
push-requires c = climbing_room c.requires c.loop-high.invariant

pub overflow_mul-high : goal.overflow_mul-high
overflow_mul-high c = omega (arith, climbing_next_fits c.requires c.loop-high.invariant c.loop-high-test.true)

pub overflow_add-high : goal.overflow_add-high
overflow_add-high c = omega (arith, climbing_next_fits c.requires c.loop-high.invariant c.loop-high-test.true)

pub loop-high-preserved : goal.loop-high-preserved
loop-high-preserved c = let (v, l) = c.push.ensures in rw (v, l) (climbing_next c.requires c.loop-high.invariant c.loop-high-test.true)

pub push-requires-2 : goal.push-requires-2
push-requires-2 c = climbing_room c.requires c.loop-high.invariant

pub returns : goal.returns
returns c =
    let (f, o) = climbing_end c.requires c.loop-high.invariant c.loop-high-test.false in
    let (v, l) = c.push-2.ensures in
    record { stored = rw (v, l) f.stored; left = rw l f.left; bounds = (rw l f.within, o) }
