-- `checks::times::Times::start` meets its contract: no entry so far.
use mathlib.Core.Path.{refl}
use Rattle.checks.specs.Entries.{no_timestamps}
use Rattle.checks.proofs.timestamps.Timestamps.start.Goals as goal

pub returns : goal.returns
unfolding no_timestamps
returns c = refl
