-- `tree::search_tree::right_ancestor_from` meets its contract: one law for an end within the log,
-- one for an end beyond it.
use mathlib.Core.Path.{sym, ◌∙◌}
use native.Mathlib.Omega.{arith}
use Rattle.std.proofs.Math.Nat.{min-eq_left, min-eq_right}
use Rattle.tree.proofs.DigitLaws.{by_order}
use Rattle.tree.proofs.PartingLaws.{parts}
use Rattle.tree.proofs.PathEndLaws.{ancestor_next, ancestor_next_none}
use Rattle.tree.proofs.search_tree.right_ancestor_from.Goals as goal

pub returns : goal.returns
returns c =
    let a = c.args in
    let e = c.block_end.ensures in
    let p = parts c.parting.ensures in
    c.min.ensures
    ∙ by_order c.block_end.result a.tree_size
    (λ h. min-eq_left (omega arith) ∙ e ∙ sym (ancestor_next a.tree_size a.p a.x c.parting.result p (omega (arith, e))))
    (λ h. min-eq_right h ∙ sym (ancestor_next_none a.tree_size a.p a.x c.parting.result p (omega (arith, e))))
