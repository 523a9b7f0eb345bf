-- `tree::search_tree::next_right_ancestor` meets its contract: an entry that is not in the log has
-- no right path, and a right path is above its entry.
use mathlib.Core.Path.{◌≡◌, sym, ap, ◌∙◌}
use Prim.Native.Nat.{ℕ, ◌+◌}
use native.Mathlib.Omega.{arith}
use Rattle.tree.specs.SearchTree.{right_ancestors, next_from}
use Rattle.tree.proofs.DigitLaws.{by_order}
use Rattle.tree.proofs.PathEndLaws.{ancestor_next_empty, ancestor_next_start}
use Rattle.tree.proofs.search_tree.next_right_ancestor.Goals as goal

pub returns-then-tree_size-p : goal.returns-then-tree_size-p
returns-then-tree_size-p c = sym (ancestor_next_empty c.args.tree_size c.args.p c.args.x c.if-tree_size-p.true)

pub returns : goal.returns
returns c =
    let a = c.args in
    let next : ℕ → ℕ = next_from a.tree_size (right_ancestors a.tree_size a.p) in
    c.right_ancestor_from.ensures
    ∙ by_order a.p a.x (λ h. let e : c.max.result ≡ a.x = omega (arith, c.max.ensures) in ap next e)
    (λ h. let e : c.max.result ≡ a.p + 1 = omega (arith, c.max.ensures) in ap next e ∙ sym (ancestor_next_start a.tree_size a.p a.x h))
