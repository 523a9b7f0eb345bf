-- `tree::search_tree::root` meets its contract: the root is the power less one, and 0 of an empty
-- log.
use native.Mathlib.Omega.{arith}
use lib.Pow.{pow_pos}
use Rattle.tree.proofs.PowerLaws.{power_at}
use Rattle.tree.proofs.ChildLaws.{root_empty, root_power}
use Rattle.tree.proofs.search_tree.root.Goals as goal

pub returns-then-tree_size-eq0 : goal.returns-then-tree_size-eq0
returns-then-tree_size-eq0 c = root_empty c.args.tree_size c.if-tree_size-eq0.true

pub overflow_sub-result : goal.overflow_sub-result
overflow_sub-result c =
    let (k, e, _, _) = power_at c.args.tree_size (omega arith) in
    omega (arith, c.power.ensures, pow_pos k)

pub returns : goal.returns
returns c = root_power c.args.tree_size c.power.result c.power.ensures
