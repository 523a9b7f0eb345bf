-- `checks::monitored_versions::next_not_above` meets its contract: the versions passed so far are
-- below `from`.
use mathlib.Core.Path.{◌≡◌}
use lib.ListN.{drop}
use Rattle.tree.specs.SearchTree.{next_from}
use Rattle.rules.specs.Limits.{version_bound}
use Rattle.checks.proofs.monitored_versions.next_not_above.Given as goal

abbrev pub invariant-loop-next : goal.invariant-loop-next
invariant-loop-next l =
    next_from version_bound l.versions l.from ≡ next_from version_bound (drop l.next-index l.versions) l.from
