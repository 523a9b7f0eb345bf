-- `tree::search_tree::parting` meets its contract: the law of the leading zeros of two numbers'
-- difference.
use native.Mathlib.Omega.{arith}
use Rattle.tree.proofs.PartingLaws.{parting}
use Rattle.tree.proofs.search_tree.parting.Goals as goal

pub overflow_sub-result : goal.overflow_sub-result
overflow_sub-result c = (parting c.args.x c.args.y c.requires c.ranges.y.fits).0

pub returns : goal.returns
returns c =
    let (_, p) = parting c.args.x c.args.y c.requires c.ranges.y.fits in
    (omega arith, p.clear, p.next)
