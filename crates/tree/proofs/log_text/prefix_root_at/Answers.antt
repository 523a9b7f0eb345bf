-- `tree::log_text::prefix_root_at` meets its contract: the digits after the second tab.
use Rattle.tree.specs.LogText.{entry_in}
use Rattle.tree.proofs.log_text.prefix_root_at.Goals as goal

pub returns : goal.returns
unfolding entry_in
returns c = cc
