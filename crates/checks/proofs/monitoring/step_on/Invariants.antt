-- `checks::monitoring::step_on` meets its contract: the next versions of the pairs before i have
-- been moved, those from i on are as before.
use Rattle.checks.proofs.NextVersionLaws.{Moved}
use Rattle.checks.proofs.monitoring.step_on.Given as goal

abbrev pub invariant-loop-i : goal.invariant-loop-i
invariant-loop-i l = Moved l.versions l.initial.next l.from l.next l.i
