-- `tree::log_head::nodes_asked` meets its contract: the walk over all entries ends after the nodes
-- that it takes.
use mathlib.Core.Path.{sym, ◌∙◌}
use Rattle.tree.specs.LogHead.{known_in}
use Rattle.tree.proofs.HeadLaws.{head-ready, nodes-made, nodes_none}
use Rattle.tree.proofs.log_head.nodes_asked.Goals as goal

pub spine_end-end-requires : goal.spine_end-end-requires
unfolding known_in
spine_end-end-requires c = head-ready c.args.text.now _ _ _ _ (sym c.walkable.ensures ∙ c.if-walkable.true) c.from-cursor.ensures

pub returns-then-walkable : goal.returns-then-walkable
unfolding known_in
returns-then-walkable c = nodes-made c.args.text.now _ _ _ _ (sym c.walkable.ensures ∙ c.if-walkable.true) c.from-cursor.ensures _ c.spine_end-end.ensures

pub returns : goal.returns
returns c = nodes_none _ _ (sym c.walkable.ensures ∙ c.if-walkable.false)
