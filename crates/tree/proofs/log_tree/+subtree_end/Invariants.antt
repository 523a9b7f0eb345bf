-- the entries that are left
use Rattle.tree.proofs.log_tree.+subtree_end.Given as goal

abbrev pub decreases-subtree_end : goal.decreases-subtree_end
decreases-subtree_end l = l.width
