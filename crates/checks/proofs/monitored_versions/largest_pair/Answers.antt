-- `checks::monitored_versions::largest_pair` meets its contract: of the pairs from i on the largest
-- version is that of the pair found.
use mathlib.Core.Path.{◌≡◌, subst}
use Prim.Native.Nat.{◌-◌}
use native.Mathlib.Omega.{arith}
use Rattle.checks.proofs.MonitoredVersionLaws.{Found, found-start, found-past, found_below, found-above, found-first}
use Rattle.checks.proofs.MonitoredVersionLaws.{found_all}
use Rattle.checks.proofs.monitored_versions.largest_pair.Goals as goal

pub loop-i-init : goal.loop-i-init
loop-i-init c = (omega arith, found-start _ _ _ _ c.requires)

pub loop-i-preserved-then-not-is_right_ancestor : goal.loop-i-preserved-then-not-is_right_ancestor
loop-i-preserved-then-not-is_right_ancestor c = (
  omega arith,
  found-past _ _ _ _ c.requires (c.loop-i.i - 1) c.loop-i.i (omega arith) c.loop-i.invariant.0 _
      c.is_right_ancestor.ensures
      c.if-not-is_right_ancestor.true c.loop-i.largest c.loop-i.invariant.1,
)

pub loop-i-preserved-then-versions-i : goal.loop-i-preserved-then-versions-i
loop-i-preserved-then-versions-i c = (
  omega arith,
  found_below _ _ _ _ c.requires (c.loop-i.i - 1) c.loop-i.i (omega arith) c.loop-i.invariant.0 _
      c.is_right_ancestor.ensures
      c.if-not-is_right_ancestor.false _
      (subst (Found c.args.tree_size c.args.positions.now c.args.versions.now c.args.entry c.loop-i.i) c.in-Some.is
      c.loop-i.invariant.1) c.if-versions-i.true,
)

pub loop-i-preserved-else-versions-i : goal.loop-i-preserved-else-versions-i
loop-i-preserved-else-versions-i c = (
  omega arith,
  found-above _ _ _ _ c.requires (c.loop-i.i - 1) c.loop-i.i (omega arith) c.loop-i.invariant.0 _
      c.is_right_ancestor.ensures
      c.if-not-is_right_ancestor.false _
      (subst (Found c.args.tree_size c.args.positions.now c.args.versions.now c.args.entry c.loop-i.i) c.in-Some.is
      c.loop-i.invariant.1) c.if-versions-i.false,
)

pub loop-i-preserved : goal.loop-i-preserved
loop-i-preserved c = (
  omega arith,
  found-first _ _ _ _ c.requires (c.loop-i.i - 1) c.loop-i.i (omega arith) c.loop-i.invariant.0 _
      c.is_right_ancestor.ensures
      c.if-not-is_right_ancestor.false
      (subst (Found c.args.tree_size c.args.positions.now c.args.versions.now c.args.entry c.loop-i.i) c.in_default.is
      c.loop-i.invariant.1),
)

pub returns : goal.returns
returns c =
    let z : c.loop-i.i ≡ 0 = omega arith in
    found_all _ _ _ _ c.requires c.loop-i.largest (rw z at c.loop-i.invariant.1)
