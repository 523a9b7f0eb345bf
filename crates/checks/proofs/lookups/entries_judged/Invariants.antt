-- `checks::lookups::entries_judged` meets its contract: the entries before the offset are judged.
use Prim.Native.Nat.{◌-◌}
use lib.ListN.{length}
use Rattle.checks.proofs.ResultsLaws.{EntriesJudged}
use Rattle.checks.proofs.lookups.entries_judged.Given as goal

abbrev pub invariant-loop-first : goal.invariant-loop-first
invariant-loop-first l = EntriesJudged l.entries l.sought l.at l.results

abbrev pub decreases-loop-first : goal.decreases-loop-first
decreases-loop-first l = length l.entries - l.at
