-- `checks::acceptance::new_map` meets its contract: a search puts its pair, monitoring moves all.
use Rattle.checks.proofs.AcceptLaws.{monitoring-new}
use Rattle.checks.proofs.acceptance.new_map.Goals as goal

pub returns-in-Monitor : goal.returns-in-Monitor
returns-in-Monitor c = monitoring-new _ _ _ _ _ c.requires c.in-Monitor.is c.moved_pairs.ensures
