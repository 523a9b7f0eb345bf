-- `kt::exports::put_version` meets its contract: std's bytes of a number are those of the
-- definition.
use Rattle.std.proofs.Common.{◌+◌, sym, ◌∙◌, arith}
use lib.Seq.{sets-eq}
use Rattle.hash.proofs.BytesLaws.{be_bytes, length_big_endian}
use Rattle.lists.specs.Lists.{written}
use Rattle.lines.proofs.WritingLaws.{put_part}
use Rattle.hash.specs.Bytes.{big_endian}
use Rattle.kt.specs.Exports.{version_length}
use Rattle.kt.proofs.exports.put_version.Goals as goal

pub returns : goal.returns
unfolding written
returns c =
    let a = c.args in
    let v = big_endian version_length a.version in
    let e = c.copy_from_slice.ensures.after ∙ c.to_be_bytes.ensures ∙ be_bytes 4 a.version in
    let l = length_big_endian version_length a.version in
    put_part a.bytes.now a.at v (a.at + 4) _ (omega (arith, l)) e
    ∙ sym (sets-eq v a.bytes.now a.at (omega (arith, l, c.requires)))
