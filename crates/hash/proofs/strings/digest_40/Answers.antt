-- `hash::strings::digest_40` meets its contract: the string fills its buffer.
use Rattle.std.proofs.Common.{◌∙◌, append-nil, arith, length-append}
use Rattle.hash.specs.Bytes.{big_endian}
use Rattle.hash.proofs.BytesLaws.{be_bytes, length_big_endian}
use Rattle.hash.proofs.StringLaws.{string_law}
use Rattle.hash.proofs.strings.digest_40.Goals as goal

pub returns : goal.returns
returns c =
    string_law 40 c.buffer_of.result _ _ c.digest.result c.buffer_of.ensures c.digest.ensures
    (rw (c.to_be_bytes.ensures ∙ be_bytes 8 c.args.number, append-nil c.args.value))
    (rw (length-append (big_endian 8 c.args.number) c.args.value, length_big_endian 8 c.args.number) (omega arith))
