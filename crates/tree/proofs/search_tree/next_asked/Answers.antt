-- `tree::search_tree::next_asked` meets its contract: `next` and the next of the frontier and the
-- right paths of the positions that are left come to what is asked.
use native.Mathlib.Omega.{arith}
use Rattle.tree.proofs.AskedLaws.{asked_start, asked_step, asked_end}
use Rattle.tree.proofs.search_tree.next_asked.Goals as goal

pub loop-position-init : goal.loop-position-init
loop-position-init c = let a = c.args in asked_start a.tree_size a.x _ a.positions.now c.next_on_frontier-next.ensures

pub loop-position-preserved : goal.loop-position-preserved
loop-position-preserved c =
    let a = c.args in
    let l = c.loop-position in
    asked_step a.tree_size a.x l.position-index _ l.next _ _ _ a.positions.now (omega arith) l.invariant
    c.next_right_ancestor.ensures c.min-next.ensures

pub returns : goal.returns
returns c =
    let a = c.args in
    let l = c.loop-position in
    asked_end a.tree_size a.x l.position-index l.next _ a.positions.now (omega arith) l.invariant
