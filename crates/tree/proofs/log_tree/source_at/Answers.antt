-- `tree::log_tree::source_at` meets its contract: each answer by what its tests say of the block.
use mathlib.Core.Path.{sym, ◌∙◌}
use Rattle.tree.proofs.DecisionLaws.{step_after, step-before, step-within}
use Rattle.tree.proofs.log_tree.source_at.Goals as goal

pub returns-then-kept_size-start : goal.returns-then-kept_size-start
returns-then-kept_size-start c = step_after _ _ _ c.requires c.if-shown.false (sym c.is_full.ensures ∙ c.if-is_full.false) c.if-kept_size-start.true

pub returns-then-start-width : goal.returns-then-start-width
returns-then-start-width c = step-before _ _ _ c.requires c.if-shown.false (sym c.is_full.ensures ∙ c.if-is_full.false) c.if-kept_size-start.false c.if-start-width.true

pub returns-else-start-width : goal.returns-else-start-width
returns-else-start-width c = step-within _ _ _ c.requires (sym c.is_full.ensures ∙ c.if-is_full.false) c.if-kept_size-start.false c.if-start-width.false
