-- `hash::sha256::digest_of` meets its contract: the bytes of the eight words, one word after the
-- other, fill the buffer.
use Rattle.std.proofs.Common.{◌∙◌}
use Rattle.hash.specs.Bytes.{big_endian, padded}
use Rattle.hash.specs.Sha256.{digest_of}
use Rattle.hash.proofs.BytesLaws.{be_bytes}
use Rattle.hash.proofs.sha256.digest_of.Goals as goal

pub returns : goal.returns
unfolding digest_of big_endian padded
returns c =
    let v = c.args.v in
    c.buffer_of.ensures
    ∙ rw (
      c.to_be_bytes.ensures ∙ be_bytes 4 v.a,
      c.to_be_bytes-2.ensures ∙ be_bytes 4 v.b,
      c.to_be_bytes-3.ensures ∙ be_bytes 4 v.c,
      c.to_be_bytes-4.ensures ∙ be_bytes 4 v.d,
      c.to_be_bytes-5.ensures ∙ be_bytes 4 v.e,
      c.to_be_bytes-6.ensures ∙ be_bytes 4 v.f,
      c.to_be_bytes-7.ensures ∙ be_bytes 4 v.g,
      c.to_be_bytes-8.ensures ∙ be_bytes 4 v.h,
    )
