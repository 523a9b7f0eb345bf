-- `checks::entries::entries_asked` meets its contract: the entries passed so far are as asked,
-- their times were told, and the versions of monitoring are those of the pairs marked.
use mathlib.Core.Path.{◌≡◌}
use Prim.Native.Nat.{◌-◌}
use lib.ListN.{length}
use Rattle.checks.proofs.EntriesAskedLaws.{Followed}
use Rattle.checks.proofs.entries.entries_asked.Given as goal

abbrev pub invariant-loop-kind : goal.invariant-loop-kind
invariant-loop-kind l =
    (length l.marks ≡ length l.initial.marks)
    × Followed l.kind l.entries l.tree_size l.kept_size l.kept_timestamp l.ladder l.positions l.versions l.marks l.at
    l.from l.timestamps

abbrev pub decreases-loop-kind : goal.decreases-loop-kind
decreases-loop-kind l =
    l.tree_size - l.from
