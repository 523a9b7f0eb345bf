-- `tree::log_tree::is_full` meets its contract: the number of a block is its start by its width,
-- and kept_size by its width counts the whole blocks of kept_size entries.
use mathlib.Core.Path.{◌∙◌}
use borrow.Author.Tests.{ne_eqb}
use Rattle.tree.proofs.DecisionLaws.{full-taken, full_left}
use Rattle.tree.proofs.log_tree.is_full.Goals as goal

pub returns-then-kept_size-width : goal.returns-then-kept_size-width
returns-then-kept_size-width c = full-taken _ _ _ c.requires c.if-kept_size-width.true

pub returns-else-kept_size-width : goal.returns-else-kept_size-width
returns-else-kept_size-width c = ne_eqb _ _ c.if-kept_size-width.false ∙ full_left _ _ _ c.requires c.if-kept_size-width.false
