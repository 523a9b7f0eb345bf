-- `checks::lookups::Summary::next` meets its contract: what the line tells is added to what is
-- known.
use Rattle.checks.proofs.SummaryLaws.{summary-next}
use Rattle.checks.proofs.lookups.Summary.next.Goals as goal

pub returns : goal.returns
returns c =
    let a = c.args in
    summary-next a.sought
    a.line.now a.self _ _ _ _
    c.lookup_version-version.ensures c.is_included-included.ensures c.lookup_passes-reached.ensures c.is_at.ensures
