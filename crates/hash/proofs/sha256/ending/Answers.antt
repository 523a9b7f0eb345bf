-- `hash::sha256::ending` meets its contract: the law of a message's end, with the count of bits at
-- 56 or at 120.
use Rattle.std.proofs.Common.{◌∙◌, arith}
use Rattle.hash.proofs.BytesLaws.{be_bytes}
use Rattle.hash.proofs.MessageLaws.{ending_law}
use Rattle.hash.proofs.sha256.ending.Goals as goal

pub returns-then-n-lt56 : goal.returns-then-n-lt56
returns-then-n-lt56 c =
    ending_law c.args.rest.now c.buffer_of-b.result _ c.args.total 56 64 (omega arith) (omega arith) (omega arith)
    c.buffer_of-b.ensures (c.copy_from_slice.ensures.after ∙ c.to_be_bytes-bits.ensures ∙ be_bytes 8 _)

pub returns-else-n-lt56 : goal.returns-else-n-lt56
returns-else-n-lt56 c =
    ending_law c.args.rest.now c.buffer_of-b.result _ c.args.total 120 128 (omega arith) (omega arith) (omega arith)
    c.buffer_of-b.ensures (c.copy_from_slice-else-n-lt56.ensures.after ∙ c.to_be_bytes-bits.ensures ∙ be_bytes 8 _)
