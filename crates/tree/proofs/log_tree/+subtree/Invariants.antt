-- the entries that are left
use Rattle.tree.proofs.log_tree.+subtree.Given as goal

abbrev pub decreases-subtree : goal.decreases-subtree
decreases-subtree l = l.width
