-- `tree::search_tree::power` meets its contract: the shift is by the place of the highest digit.
use Rattle.tree.proofs.PartingLaws.{power_shift}
use Rattle.tree.proofs.search_tree.power.Goals as goal

pub returns : goal.returns
returns c = power_shift c.args.x c.requires c.ranges.x.fits
