-- `checks::acceptance::put_found` meets its contract: the value of a search is put, of monitoring
-- nothing.
use mathlib.Core.Path.{refl}
use mathlib.Core.Option.{some, none}
use Rattle.checks.specs.Calls.{found_by}
use Rattle.checks.proofs.AcceptLaws.{search-put, nothing_put}
use Rattle.checks.proofs.acceptance.put_found.Goals as goal

pub returns-in-Some : goal.returns-in-Some
unfolding found_by
returns-in-Some c =
    let p = c.in-Some.ensures in
    let it = search-put _ _ _ _ c.in-Search.is _ c.of.ensures (some c.in-Some.length) _ p.offset p.bytes _ refl in
    record { found = it.0; bytes = it.1 }

pub returns-in-None : goal.returns-in-None
unfolding found_by
returns-in-None c =
    let p = c.in-None.ensures in
    let it = search-put _ _ _ _ c.in-Search.is _ c.of.ensures none _ p.offset p.bytes _ refl in
    record { found = it.0; bytes = it.1 }

pub returns-in-Monitor : goal.returns-in-Monitor
returns-in-Monitor c =
    let it = nothing_put _ _ _ c.in-Monitor.is in
    record { found = it.0; bytes = it.1 }
