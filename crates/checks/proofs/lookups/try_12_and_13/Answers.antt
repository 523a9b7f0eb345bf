-- `checks::lookups::try_12_and_13` meets its contract: each kind has a judgement of its own.
use Rattle.checks.proofs.lookups.try_12_and_13.Goals as goal

pub returns-in-Search : goal.returns-in-Search
returns-in-Search c = c.search_judged.ensures

pub returns-in-Monitor : goal.returns-in-Monitor
returns-in-Monitor c = c.monitoring_judged.ensures _
