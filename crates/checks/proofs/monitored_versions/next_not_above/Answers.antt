-- `checks::monitored_versions::next_not_above` meets its contract: the versions passed so far are
-- below `from`.
use native.Mathlib.Omega.{arith}
use Rattle.hash.proofs.BytesLaws.{filled_front}
use Rattle.tree.proofs.NextLaws.{next-at, next_past, next-end}
use Rattle.rules.specs.Limits.{version_bound}
use Rattle.checks.proofs.MonitoredVersionLaws.{not_above_fits}
use Rattle.checks.proofs.monitored_versions.next_not_above.Goals as goal

pub shared_ref_as_front-versions : goal.shared_ref_as_front-versions
shared_ref_as_front-versions c =
    omega (arith, c.versions_not_above-shown.ensures.1, not_above_fits c.args.version c.requires)

pub returns-then-from-next : goal.returns-then-from-next
returns-then-from-next c =
    let l = c.loop-next in
    rw (← (filled_front _ _ _ _ c.versions_not_above-shown.ensures).0)
    (next-at version_bound c.args.from _ l.next-index l.invariant (omega arith) (omega arith))

pub loop-next-preserved : goal.loop-next-preserved
loop-next-preserved c =
    let l = c.loop-next in
    next_past version_bound c.args.from _ l.next-index l.invariant (omega arith) (omega arith)

pub returns : goal.returns
returns c =
    let l = c.loop-next in
    rw (← (filled_front _ _ _ _ c.versions_not_above-shown.ensures).0)
    (next-end version_bound c.args.from _ l.next-index l.invariant (omega arith))
