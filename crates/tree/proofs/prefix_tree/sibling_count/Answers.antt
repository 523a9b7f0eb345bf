-- `tree::prefix_tree::sibling_count` meets its contract: siblings stand as close as their digits.
use native.Mathlib.Omega.{arith}
use Rattle.tree.proofs.LogTextLaws.{length_siblings}
use Rattle.tree.proofs.prefix_tree.sibling_count.Goals as goal

pub returns : goal.returns
returns c = omega (arith, c.min.ensures, length_siblings c.args.siblings.now)
