-- `checks::times::Times::next` meets its contract: the test of the kept size and time is that of
-- the entry.
use Rattle.checks.specs.Entries.{timestamps_after}
use Rattle.checks.proofs.timestamps.Timestamps.next.Goals as goal

pub returns : goal.returns
unfolding timestamps_after
returns c = cc
