-- `hash::strings::digest_66` meets its contract: the string fills its buffer.
use Rattle.std.proofs.Common.{◌∷◌, append-nil, arith, length-append}
use Rattle.hash.proofs.StringLaws.{string_law}
use Rattle.hash.proofs.strings.digest_66.Goals as goal

pub returns : goal.returns
returns c =
    string_law 66 c.buffer_of.result _ _ c.digest.result c.buffer_of.ensures c.digest.ensures
    (rw (append-nil c.args.right))
    (rw (length-append c.args.left (c.args.right_tag ∷ c.args.right)) (omega arith))
