-- `checks::lookups::lookups_judged` meets its contract: the lookups before the offset are summed
-- up.
use Prim.Native.Nat.{◌-◌}
use lib.ListN.{length}
use Rattle.checks.proofs.SummaryLaws.{LookupsSummed}
use Rattle.checks.proofs.lookups.lookups_judged.Given as goal

abbrev pub invariant-loop-stop : goal.invariant-loop-stop
invariant-loop-stop l = LookupsSummed l.entries l.from l.sought l.initial.summary.root l.at l.summary

abbrev pub decreases-loop-stop : goal.decreases-loop-stop
decreases-loop-stop l = length l.entries - l.at
