-- `checks::lookups::Results::next` meets its contract: what is expected of the entry depends on
-- whether a complete one was found.
use Rattle.checks.proofs.ResultsLaws.{next-results}
use Rattle.checks.proofs.lookups.Results.next.Goals as goal

pub returns : goal.returns
returns c s es e h l p k =
    let a = c.args in
    rw (c.or.ensures, c.then_some.ensures)
    (next-results a.position a.entry a.wanted a.self c.is_none-before.result c.is_none-before.ensures s es e h l p k)
