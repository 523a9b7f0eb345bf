-- `tree::log_spine::spine_end` meets its contract, by how many entries are left: each step ends
-- where the walk does there.
use mathlib.Core.Path.{◌∙◌}
use mathlib.Core.List.{[]}
use native.Mathlib.Omega.{arith}
use Rattle.tree.specs.declared.log_spine.Edge.TheVariants.{Node, Cut}
use Rattle.tree.specs.LogHead.{known_in}
use Rattle.tree.proofs.DecisionLaws.{whole_some}
use Rattle.tree.proofs.TailLaws.{edge_told, tail-whole, tail-least, tail-behind}
use Rattle.tree.proofs.SpineLaws.{spine-ready, spine-end-node, spine-end-cut}
use Rattle.tree.proofs.log_spine.+spine_end.Goals as goal

pub edge_at-requires : goal.edge_at-requires
edge_at-requires t c = tail-least c.requires.0 c.power-width.ensures

pub subtree_end-requires : goal.subtree_end-requires
subtree_end-requires t c = (tail-whole c.requires.0 c.power-width.ensures, c.requires.1)

pub subtree_end-middle-requires : goal.subtree_end-middle-requires
subtree_end-middle-requires t c = (tail-whole c.requires.0 c.power-width.ensures, c.requires.1)

pub spine_end-requires : goal.spine_end-requires
unfolding known_in
spine_end-requires t c =
    let text = c.args.text.now in
    let f = edge_told _ _ _ _ Cut c.in-Cut.is c.is_before.ensures c.edge_at.ensures in
    let w = whole_some (tail-whole c.requires.0 c.power-width.ensures) in
    let r = spine-ready [] text [] c.requires.0 c.power-width.ensures c.requires.1 c.requires.2 f.0 _ c.subtree_end-middle.ensures in
    (omega (arith, c.decreases, f.0, w), (tail-behind c.requires.0 c.power-width.ensures f.0, r, c.requires.2))

pub returns-in-Node : goal.returns-in-Node
unfolding known_in
returns-in-Node t c =
    let text = c.args.text.now in
    let f = edge_told _ _ _ _ Node c.in-Node.is c.is_before.ensures c.edge_at.ensures in
    c.past_node.ensures ∙ spine-end-node text c.requires.0 c.power-width.ensures c.requires.1 c.requires.2 f.0 f.1 f.2

pub returns-in-Cut : goal.returns-in-Cut
unfolding known_in
returns-in-Cut t c =
    let text = c.args.text.now in
    let f = edge_told _ _ _ _ Cut c.in-Cut.is c.is_before.ensures c.edge_at.ensures in
    spine-end-cut text c.requires.0 c.power-width.ensures c.requires.1 c.requires.2 f.0 _ _ f.1 c.subtree_end-middle.ensures c.spine_end.ensures
