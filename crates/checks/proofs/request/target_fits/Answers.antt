-- `checks::request::target_fits` meets its contract: in a search the version decides, and monitoring
-- has none.
use Rattle.checks.proofs.RequestLaws.{search-fits, monitor-fits}
use Rattle.checks.proofs.request.target_fits.Goals as goal

pub returns-in-Search : goal.returns-in-Search
returns-in-Search c = search-fits _ _ _ c.in-Search.is _ c.version_fits.ensures

pub returns-in-Monitor : goal.returns-in-Monitor
returns-in-Monitor c = monitor-fits _ _ c.in-Monitor.is
