-- `hash::block::round` meets its contract: the two temporaries and the moved variables are those of
-- the definition.
use Rattle.hash.specs.Block.{round, temp1, temp2}
use Rattle.hash.proofs.BlockLaws.{sum_5}
use Rattle.hash.proofs.block.round.Goals as goal

pub returns : goal.returns
unfolding round temp1 temp2
returns c =
    let a = c.args in
    rw (
      sum_5 a.v.h c.big_sigma1.result c.ch.result a.k a.w,
      c.big_sigma1.ensures,
      c.ch.ensures,
      c.big_sigma0.ensures,
      c.maj.ensures,
    )
