-- `tree::search_tree::block_end` meets its contract: the number is joined with k ones.
use Rattle.tree.proofs.PartingLaws.{place_value, or_ones}
use Rattle.tree.proofs.search_tree.block_end.Goals as goal

pub returns : goal.returns
returns c = rw (place_value c.args.k c.requires) (or_ones c.args.k c.args.p)
