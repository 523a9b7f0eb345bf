-- the entries that are left
use Rattle.std.proofs.Common.{◌-◌}
use Rattle.tree.proofs.log_spine.+spine.Given as goal

abbrev pub decreases-spine : goal.decreases-spine
decreases-spine l = l.tree_size - l.start
