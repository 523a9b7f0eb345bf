-- `tree::search_tree::last_right_ancestor` meets its contract: one law for an entry that is not in
-- the log, one for where it parts from the log's size.
use mathlib.Core.Path.{sym, ◌∙◌}
use Rattle.tree.proofs.PartingLaws.{parts}
use Rattle.tree.proofs.PathEndLaws.{ancestor_last, ancestor_last_empty}
use Rattle.tree.proofs.search_tree.last_right_ancestor.Goals as goal

pub returns-then-tree_size-p : goal.returns-then-tree_size-p
returns-then-tree_size-p c = sym (ancestor_last_empty c.args.tree_size c.args.p c.if-tree_size-p.true)

pub returns : goal.returns
returns c =
    let a = c.args in
    c.block_end.ensures ∙ sym (ancestor_last a.tree_size a.p c.parting.result (parts c.parting.ensures))
