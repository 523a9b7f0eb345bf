-- `tree::log_text::position_at` meets its contract: the number before the first tab.
use Rattle.tree.specs.LogText.{entry_in}
use Rattle.tree.proofs.log_text.position_at.Goals as goal

pub returns : goal.returns
unfolding entry_in
returns c = c.number_at.ensures
