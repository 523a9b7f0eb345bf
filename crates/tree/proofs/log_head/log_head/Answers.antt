-- `tree::log_head::log_head` meets its contract: the walk over all entries, from the first on, with
-- the block filled from its front.
use mathlib.Core.Path.{refl, sym, ◌∙◌}
use native.Mathlib.Omega.{arith}
use Rattle.tree.specs.LogText.{nodes_in}
use Rattle.tree.specs.LogHead.{known_in}
use Rattle.tree.proofs.HeadLaws.{walkable_values, head-ready, head-room, head-made, head_none}
use Rattle.tree.proofs.log_head.log_head.Goals as goal

pub invariant_of-log : goal.invariant_of-log
unfolding known_in
invariant_of-log c = record { kept_bound = (head-ready c.args.text.now _ _ _ _ (sym c.walkable.ensures ∙ c.if-walkable.true) c.from-cursor.ensures).1.size_small }

pub spine-top-requires : goal.spine-top-requires
unfolding known_in
spine-top-requires c =
    let text = c.args.text.now in
    let h = sym c.walkable.ensures ∙ c.if-walkable.true in
    record { tail = head-ready text _ _ _ _ h c.from-cursor.ensures; room = head-room text _ _ _ _ h c.from-cursor.ensures }

pub returns-then-walkable : goal.returns-then-walkable
unfolding known_in
returns-then-walkable c =
    let r = c.spine-top in
    let h = walkable_values _ _ _ _ _ ∙ sym c.walkable.ensures ∙ c.if-walkable.true in
    record { result_after = head-made c.args.text.now _ _ _ _ h c.from-cursor.ensures (nodes_in c.args.nodes.now) _ _ r.ensures.value r.ensures.filled; values_len = omega arith }

pub returns : goal.returns
unfolding known_in
returns c = record { result_after = head_none _ _ _ (walkable_values _ _ _ _ _ ∙ sym c.walkable.ensures ∙ c.if-walkable.false); values_len = refl }
