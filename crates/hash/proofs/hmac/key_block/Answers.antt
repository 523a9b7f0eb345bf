-- `hash::hmac::key_block` meets its contract: one law for a key that fits a block, one for a longer
-- key.
use Rattle.std.proofs.Common.{arith}
use Rattle.hash.proofs.HmacLaws.{key_short, key_long}
use Rattle.hash.proofs.hmac.key_block.Goals as goal

pub returns-then-key-le64 : goal.returns-then-key-le64
returns-then-key-le64 c = key_short c.args.key.now c.buffer_of.result (omega arith) c.buffer_of.ensures

pub returns-else-key-le64 : goal.returns-else-key-le64
returns-else-key-le64 c = key_long c.args.key.now c.digest.result c.buffer_of-else-key-le64.result (omega arith) c.digest.ensures c.buffer_of-else-key-le64.ensures
