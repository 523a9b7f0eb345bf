-- `tree::log_head::walkable` meets its contract: the size decides, and then the shown positions.
use mathlib.Core.Path.{sym, ◌∙◌}
use Rattle.tree.specs.LogHead.{known_in}
use Rattle.tree.proofs.HeadLaws.{walkable-none, walkable-rest}
use Rattle.tree.proofs.log_head.walkable.Goals as goal

pub returns-then-has_size : goal.returns-then-has_size
unfolding known_in
returns-then-has_size c = c.rising_below.ensures ∙ walkable-rest _ _ (sym c.has_size.ensures ∙ c.if-has_size.true)

pub returns-else-has_size : goal.returns-else-has_size
unfolding known_in
returns-else-has_size c = c.if-has_size.false ∙ walkable-none _ _ (sym c.has_size.ensures ∙ c.if-has_size.false)
