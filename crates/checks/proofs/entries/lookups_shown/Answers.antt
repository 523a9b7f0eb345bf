-- `checks::entries::lookups_shown` meets its contract: the lookups passed so far were compared with
-- the versions wanted, and counted.
use Rattle.checks.proofs.EntryLaws.{compared-next, compared-all}
use Rattle.checks.proofs.entries.lookups_shown.Goals as goal

pub loop-stop-preserved : goal.loop-stop-preserved
loop-stop-preserved c =
    let i = c.loop-stop.invariant in
    compared-next _ _ _ _ _ _ i _ _ c.in-Some.ensures _ c.lookup_version.ensures _ c.is_at-begin.ensures

pub returns-clause-begin : goal.returns-clause-begin
returns-clause-begin c = (compared-all _ _ _ _ _ _ c.loop-stop.invariant c.in_default.ensures).0
