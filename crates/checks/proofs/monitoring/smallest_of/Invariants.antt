-- `checks::monitoring::smallest_of` meets its contract: the smallest is the smaller of `least` and of
-- the smallest of those left.
use mathlib.Core.Path.{◌≡◌}
use Prim.Native.Nat.{◌≤◌, min}
use lib.ListN.{drop}
use Rattle.rules.specs.Limits.{version_bound}
use Rattle.checks.specs.MonitoredVersions.{smallest}
use Rattle.checks.proofs.monitoring.smallest_of.Given as goal

abbrev pub invariant-loop-version : goal.invariant-loop-version
invariant-loop-version l =
    (l.least ≤ version_bound) × (min l.least (smallest (drop l.version-index l.versions)) ≡ smallest l.versions)
