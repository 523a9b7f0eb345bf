-- `hash::sha256::finish` meets its contract: the last block or the last two are the front of what
-- `ending` made.
use Rattle.std.proofs.Common.{sym, refl, arith, take_all}
use Rattle.hash.proofs.MessageLaws.{ending_blocks}
use Rattle.hash.proofs.sha256.finish.Goals as goal

pub returns-then-rest-lt56 : goal.returns-then-rest-lt56
returns-then-rest-lt56 c =
    ending_blocks c.args.v c.compress_all.result c.args.total 1 c.args.rest.now c.ending-b.result c.digest_of.result _ _ (omega arith) (omega arith)
    c.ending-b.ensures c.as_chunks.ensures.front refl c.compress_all.ensures c.digest_of.ensures

pub returns-else-rest-lt56 : goal.returns-else-rest-lt56
returns-else-rest-lt56 c =
    ending_blocks c.args.v c.compress_all-else-rest-lt56.result c.args.total 2 c.args.rest.now c.ending-b.result c.digest_of-else-rest-lt56.result _ _ (omega arith) (omega arith)
    c.ending-b.ensures c.as_chunks.ensures.front (sym (take_all 2 c.as_chunks.result.0.now (omega arith))) c.compress_all-else-rest-lt56.ensures c.digest_of-else-rest-lt56.ensures
