-- `checks::monitored_versions::versions_not_above` meets its contract: of the ladder's first versions
-- those not above the version are stored.
use Rattle.checks.proofs.MonitoredVersionLaws.{Storing}
use Rattle.checks.proofs.monitored_versions.versions_not_above.Given as goal

abbrev pub invariant-loop-shown : goal.invariant-loop-shown
invariant-loop-shown l = Storing l.version l.versions l.length l.shown-index
