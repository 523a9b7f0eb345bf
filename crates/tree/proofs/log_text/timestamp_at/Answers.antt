-- `tree::log_text::time_at` meets its contract: the number after the first tab.
use Rattle.tree.specs.LogText.{entry_in}
use Rattle.tree.proofs.log_text.timestamp_at.Goals as goal

pub returns : goal.returns
unfolding entry_in
returns c = cc
