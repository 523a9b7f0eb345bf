-- `tree::search_tree::is_right_ancestor` meets its contract: an entry of the log is listed if it is
-- next from itself on.
use mathlib.Core.Path.{sym, ap, ◌∙◌}
use Prim.Native.Nat.{ℕ}
use lib.Dec.{eqb}
use borrow.Author.Tests.{le-ltb}
use Rattle.tree.specs.SearchTree.{right_ancestors}
use Rattle.tree.proofs.AncestorLaws.{right_ancestors_rising}
use Rattle.tree.proofs.NextLaws.{listed_next, listed_none}
use Rattle.tree.proofs.AskedLaws.{path_within}
use Rattle.tree.proofs.search_tree.is_right_ancestor.Goals as goal

pub returns-then-x-tree_size : goal.returns-then-x-tree_size
returns-then-x-tree_size c =
    let a = c.args in
    ap (λ (b : ℕ). eqb b a.x) c.next_right_ancestor.ensures
    ∙ sym (listed_next a.tree_size (right_ancestors a.tree_size a.p) a.x (right_ancestors_rising a.tree_size a.p) c.if-x-tree_size.true)

pub returns-else-x-tree_size : goal.returns-else-x-tree_size
returns-else-x-tree_size c =
    let a = c.args in
    le-ltb a.x a.tree_size c.if-x-tree_size.false
    ∙ sym (listed_none a.tree_size (right_ancestors a.tree_size a.p) a.x (path_within a.tree_size a.p) c.if-x-tree_size.false)
