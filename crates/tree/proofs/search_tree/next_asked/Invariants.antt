-- `tree::search_tree::next_asked` meets its contract: `next` and the next of the frontier and the
-- right paths of the positions that are left come to what is asked.
use Rattle.tree.specs.SearchTree.{frontier_and_paths, next_from}
use Rattle.tree.proofs.AskedLaws.{Asking}
use Rattle.tree.proofs.search_tree.next_asked.Given as goal

abbrev pub invariant-loop-position : goal.invariant-loop-position
invariant-loop-position l =
    Asking l.tree_size l.x l.positions (next_from l.tree_size (frontier_and_paths l.tree_size l.positions) l.x) l.next l.position-index
