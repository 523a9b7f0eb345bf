-- `hash::strings::digest_65` meets its contract: the string fills its buffer.
use Rattle.std.proofs.Common.{append-nil, arith, length-append}
use Rattle.hash.proofs.StringLaws.{string_law}
use Rattle.hash.proofs.strings.digest_65.Goals as goal

pub returns : goal.returns
returns c =
    string_law 65 c.buffer_of.result _ _ c.digest.result c.buffer_of.ensures c.digest.ensures
    (rw (append-nil c.args.right))
    (rw (length-append c.args.left c.args.right) (omega arith))
