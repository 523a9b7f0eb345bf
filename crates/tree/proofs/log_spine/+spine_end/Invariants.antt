-- the entries that are left
use Rattle.std.proofs.Common.{◌-◌}
use Rattle.tree.proofs.log_spine.+spine_end.Given as goal

abbrev pub decreases-spine_end : goal.decreases-spine_end
decreases-spine_end l = l.tree_size - l.start
