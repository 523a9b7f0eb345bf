-- `tree::log_text::value_in_line` meets its contract: a line that is there is within the text.
use mathlib.Core.Path.{refl}
use Rattle.tree.specs.LogTree.{zeros}
use Rattle.tree.proofs.log_text.value_in_line.Goals as goal

pub returns-else-i-text-clause-none : goal.returns-else-i-text-clause-none
unfolding zeros
returns-else-i-text-clause-none c = λ h. refl
