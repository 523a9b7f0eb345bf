-- `tree::log_spine::spine` meets its contract, by how many entries are left: each step yields what
-- the walk does there, and puts the values of full subtrees one after the other.
use mathlib.Core.Path.{subst}
use mathlib.Core.List.{[]}
use native.Mathlib.Omega.{arith}
use Rattle.tree.specs.declared.log_spine.Edge.TheVariants.{Block, Node, Cut}
use Rattle.tree.specs.LogText.{nodes_in}
use Rattle.tree.specs.LogHead.{known_in}
use Rattle.tree.specs.LogWalk.{Filled}
use Rattle.tree.proofs.DecisionLaws.{whole_some}
use Rattle.tree.proofs.WalkedLaws.{walked-cursor}
use Rattle.tree.proofs.TailLaws.{edge_told, tail-whole, tail-least, tail-ones, tail-behind, cut-halves}
use Rattle.tree.proofs.SpineLaws.{filled_then, spine-ready, spine-block, spine-node}
use Rattle.tree.proofs.SpineLaws.{spine-cut, spine-values}
use Rattle.tree.proofs.log_spine.+spine.Goals as goal

pub edge_at-requires : goal.edge_at-requires
edge_at-requires t c = tail-least c.requires.tail.0 c.power-width.ensures

pub subtree-whole-requires : goal.subtree-whole-requires
subtree-whole-requires t c =
    let p = c.requires in
    (tail-whole c.requires.tail.0 c.power-width.ensures, p.tail.1)

pub put_value-requires : goal.put_value-requires
put_value-requires t c =
    omega (arith, tail-ones c.requires.tail.0 c.power-width.ensures, c.requires.room)

pub put_value-requires-in-Node : goal.put_value-requires-in-Node
put_value-requires-in-Node t c =
    omega (arith, tail-ones c.requires.tail.0 c.power-width.ensures, c.requires.room)

pub subtree-left-requires : goal.subtree-left-requires
subtree-left-requires t c =
    let p = c.requires in
    (tail-whole c.requires.tail.0 c.power-width.ensures, p.tail.1)

pub put_value-requires-in-Cut : goal.put_value-requires-in-Cut
put_value-requires-in-Cut t c =
    omega (arith, tail-ones c.requires.tail.0 c.power-width.ensures, c.requires.room)

pub spine-right-requires : goal.spine-right-requires
unfolding known_in
spine-right-requires t c =
    let text = c.args.log.now.text.now in
    let f = edge_told _ _ _ _ Cut c.in-Cut.is c.is_before.ensures c.edge_at.ensures in
    let p = c.requires in
    let w = whole_some (tail-whole c.requires.tail.0 c.power-width.ensures) in
    let r = spine-ready [] text [] c.requires.tail.0 c.power-width.ensures c.requires.tail.1 c.requires.tail.2 f.0 _ (walked-cursor _ _ _ _ _ _ _ c.subtree-left.ensures) in
    (omega (arith, c.decreases, f.0, w), ((tail-behind c.requires.tail.0 c.power-width.ensures f.0, r, p.tail.2), omega (arith, tail-ones c.requires.tail.0 c.power-width.ensures, p.room)))

pub joined-requires : goal.joined-requires
joined-requires t c =
    let f = edge_told _ _ _ _ Cut c.in-Cut.is c.is_before.ensures c.edge_at.ensures in
    cut-halves c.requires.tail.0 c.power-width.ensures f.0 _

pub returns-in-Block : goal.returns-in-Block
unfolding known_in
returns-in-Block t c =
    let text = c.args.log.now.text.now in
    let ns = nodes_in c.args.log.now.nodes.now in
    let (x, v) = spine-block _ text ns c.requires.tail.0 c.power-width.ensures c.requires.tail.1 c.requires.tail.2 _ (edge_told _ _ _ _ Block c.in-Block.is c.is_before.ensures c.edge_at.ensures) c.subtree-whole.ensures in
    record { value = x; filled = subst (Filled _ _ _) v c.put_value.ensures.1 }

pub returns-in-Node : goal.returns-in-Node
unfolding known_in
returns-in-Node t c =
    let text = c.args.log.now.text.now in
    let ns = nodes_in c.args.log.now.nodes.now in
    let f = edge_told _ _ _ _ Node c.in-Node.is c.is_before.ensures c.edge_at.ensures in
    let (x, v) = spine-node _ text ns c.requires.tail.0 c.power-width.ensures c.requires.tail.1 c.requires.tail.2 _ f.0 f.1 f.2 c.next_node-given.ensures in
    record { value = x; filled = subst (Filled _ _ _) v c.put_value-in-Node.ensures.1 }

pub returns-in-Cut : goal.returns-in-Cut
unfolding known_in
returns-in-Cut t c =
    let text = c.args.log.now.text.now in
    let ns = nodes_in c.args.log.now.nodes.now in
    let f = edge_told _ _ _ _ Cut c.in-Cut.is c.is_before.ensures c.edge_at.ensures in
    let x =
    spine-cut _ text ns c.requires.tail.0 c.power-width.ensures c.requires.tail.1 c.requires.tail.2 f.0 _ _ _ _ f.1
    c.subtree-left.ensures c.spine-right.ensures.value c.joined.ensures in
    let v = spine-values _ text ns c.requires.tail.0 c.power-width.ensures c.requires.tail.1 c.requires.tail.2 f.0 _ f.1 c.subtree-left.ensures in
    let p = c.put_value-in-Cut.ensures in
    record { value = x; filled = subst (Filled _ _ _) v (filled_then _ _ _ _ _ _ p.0 p.1 c.spine-right.ensures.filled) }
