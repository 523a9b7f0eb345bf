-- `checks::monitored_versions::versions_not_above` meets its contract: of the ladder's first versions
-- those not above the version are stored.
use Prim.Native.Nat.{◌+◌}
use native.Mathlib.Omega.{arith}
use Rattle.hash.proofs.BytesLaws.{filled_front}
use Rattle.checks.proofs.MonitoredVersionLaws.{Storing, storing_start, storing-past, storing-room}
use Rattle.checks.proofs.MonitoredVersionLaws.{storing-next, storing-end, within_fits}
use Rattle.checks.proofs.monitored_versions.versions_not_above.Goals as goal
use Rattle.checks.proofs.monitored_versions.versions_not_above.Goals.{then-shown-version, else-shown-version}

pub shared_ref_as_front-all : goal.shared_ref_as_front-all
shared_ref_as_front-all c = omega (arith, c.of-whole.ensures.1, within_fits c.args.version c.requires)

pub loop-shown-init : goal.loop-shown-init
loop-shown-init c = storing_start c.args.version

pub bounds-versions-length : goal.bounds-versions-length
bounds-versions-length c =
    let l = c.loop-shown in
    omega (
      arith,
      storing-room _ c.requires _ (filled_front _ _ _ _ c.of-whole.ensures).0 _ _ _ l.invariant (omega arith)
          c.if-shown-version.true,
    )

pub offset_bounds-versions-length : goal.offset_bounds-versions-length
offset_bounds-versions-length c =
    let l = c.loop-shown in
    omega (
      arith,
      storing-room _ c.requires _ (filled_front _ _ _ _ c.of-whole.ensures).0 _ _ _ l.invariant (omega arith)
          c.if-shown-version.true,
    )

pub overflow_add-length : goal.overflow_add-length
overflow_add-length c =
    let l = c.loop-shown in
    omega (
      arith,
      storing-room _ c.requires _ (filled_front _ _ _ _ c.of-whole.ensures).0 _ _ _ l.invariant (omega arith)
          c.if-shown-version.true,
    )

pub loop-shown-preserved : goal.loop-shown-preserved
loop-shown-preserved c =
    let l = c.loop-shown in
    let v = c.args.version in
    let all = (filled_front _ _ _ _ c.of-whole.ensures).0 in
    let on : Storing v c.if-shown-version.versions c.if-shown-version.length (l.shown-index + 1) =
    elim c.if-shown-version.branch [
      | then-shown-version w ↦ rw (w.versions-is, w.length-is)
          (storing-next _ c.requires _ all _ _ _ l.invariant (omega arith) w.if-shown-version.true)
      | else-shown-version w ↦ rw (w.versions-is, w.length-is)
          (storing-past _ c.requires _ all _ _ _ l.invariant (omega arith) w.if-shown-version.false)
    ] in
    on

pub returns : goal.returns
returns c =
    storing-end _ c.requires _ (filled_front _ _ _ _ c.of-whole.ensures).0 _ _ _ c.loop-shown.invariant (omega arith)
