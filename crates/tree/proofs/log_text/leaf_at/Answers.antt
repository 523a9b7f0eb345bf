-- `tree::log_text::leaf_at` meets its contract: it hashes the time and the prefix root.
use Rattle.tree.specs.LogTree.{log_leaf_string}
use Rattle.tree.proofs.log_text.leaf_at.Goals as goal

pub returns : goal.returns
unfolding log_leaf_string
returns c = cc
