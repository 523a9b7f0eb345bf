-- `hash::hasher::after_blocks` meets its contract: the whole blocks are hashed, and the bytes after
-- them are kept.
use Rattle.std.proofs.Common.{refl, arith}
use Rattle.hash.proofs.HasherLaws.{taken_law}
use Rattle.hash.proofs.MessageLaws.{rest_law, whole_law}
use Rattle.hash.proofs.hasher.after_blocks.Goals as goal

pub returns : goal.returns
returns c =
    let a = c.args in
    let e = c.as_chunks.ensures in
    taken_law a.v c.compress_all-value.result a.s.now _ c.buffer_of-block.result a.count
    (whole_law a.s.now a.v a.v c.compress_all-value.result _ e.front refl c.compress_all-value.ensures) (rest_law a.s.now _ e.back) c.buffer_of-block.ensures (omega arith)
