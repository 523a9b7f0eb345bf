-- `checks::entries::lookups_shown` meets its contract: the lookups passed so far were compared with
-- the versions wanted, and counted.
use Prim.Native.Nat.{◌-◌}
use lib.ListN.{length}
use Rattle.checks.proofs.EntryLaws.{Compared}
use Rattle.checks.proofs.entries.lookups_shown.Given as goal

abbrev pub invariant-loop-stop : goal.invariant-loop-stop
invariant-loop-stop l = Compared l.entries l.from l.wanted l.at l.count l.begin

abbrev pub decreases-loop-stop : goal.decreases-loop-stop
decreases-loop-stop l = length l.entries - l.at
