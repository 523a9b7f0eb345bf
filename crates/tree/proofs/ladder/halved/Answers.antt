-- `tree::ladder::halved` meets its contract: the versions stored so far are the first of the
-- ladder, and what is left is the halving between `low` and `high`.
use mathlib.Core.Path.{refl}
use native.Mathlib.Omega.{arith}
use Rattle.tree.proofs.LadderFillLaws.{halving_room, halving_low, halving_high, halving_end}
use Rattle.tree.proofs.ladder.halved.Goals as goal

pub push-requires : goal.push-requires
push-requires c = halving_room c.requires.version_bound c.loop-high.invariant c.loop-high-test.true

pub loop-high-preserved-then-middle-version : goal.loop-high-preserved-then-middle-version
loop-high-preserved-then-middle-version c =
    let (v, l) = c.push.ensures in
    rw (v, l) (halving_low c.requires.version_bound c.loop-high.invariant _ refl c.loop-high-test.true c.if-middle-version.true)

pub loop-high-preserved : goal.loop-high-preserved
loop-high-preserved c =
    let (v, l) = c.push.ensures in
    rw (v, l) (halving_high c.requires.version_bound c.loop-high.invariant _ refl c.loop-high-test.true c.if-middle-version.false)

pub returns : goal.returns
returns c = halving_end c.loop-high.invariant (omega arith)
