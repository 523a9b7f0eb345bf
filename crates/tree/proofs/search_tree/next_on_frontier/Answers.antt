-- `tree::search_tree::next_on_frontier` meets its contract: one law for an entry that is not in the
-- log, one for the root, one for where an entry after it parts from the log's size.
use mathlib.Core.Path.{sym, ◌∙◌}
use native.Mathlib.Omega.{arith}
use Rattle.tree.specs.SearchTree.{frontier}
use Rattle.tree.proofs.FrontierLaws.{frontier_rising, frontier_below}
use Rattle.tree.proofs.PartingLaws.{parts}
use Rattle.tree.proofs.NextLaws.{next_none}
use Rattle.tree.proofs.PathEndLaws.{next_root, frontier_next}
use Rattle.tree.proofs.search_tree.next_on_frontier.Goals as goal

pub returns-then-tree_size-x : goal.returns-then-tree_size-x
returns-then-tree_size-x c =
    let a = c.args in
    sym (next_none a.tree_size (frontier a.tree_size) a.x (frontier_rising a.tree_size) (frontier_below a.tree_size) c.if-tree_size-x.true)

pub returns-then-x-first : goal.returns-then-x-first
returns-then-x-first c =
    let a = c.args in
    c.root-first.ensures ∙ sym (next_root a.tree_size a.x (omega arith) (omega (arith, c.root-first.ensures)))

pub returns : goal.returns
returns c =
    let a = c.args in
    c.block_end.ensures ∙ sym (frontier_next a.tree_size a.x c.parting.result (parts c.parting.ensures))
