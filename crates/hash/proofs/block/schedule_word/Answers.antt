-- `hash::block::schedule_word` meets its contract: the sum of four is the definition.
use Rattle.hash.specs.Block.{mixed}
use Rattle.hash.proofs.BlockLaws.{sum_4}
use Rattle.hash.proofs.block.schedule_word.Goals as goal

pub returns : goal.returns
unfolding mixed
returns c = rw (sum_4 c.small_sigma1.result c.args.w7 c.small_sigma0.result c.args.w16, c.small_sigma1.ensures, c.small_sigma0.ensures)
