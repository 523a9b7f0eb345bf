-- `hash::block::first_words` meets its contract: the words passed are those of the block.
use Rattle.std.proofs.Common.{rules, ◌≡◌, sym, ◌∙◌, arith, take_all, ◌*◌, []}
use Rattle.hash.specs.Words.{word}
use Rattle.hash.proofs.BlockLaws.{words_of, words_more, word_chunk}
use Rattle.hash.proofs.block.first_words.Goals as goal

pub loop-t-preserved : goal.loop-t-preserved
loop-t-preserved c =
    let l = c.loop-t in
    let s = c.args.block.now in
    let v : c.from_be_bytes.result ≡ word s (4 * l.t) =
    c.from_be_bytes.ensures ∙ omega (arith, word_chunk s _ l.t [] c.as_chunks.ensures.front (omega arith)) in
    (search rules, words_more l.w-items s l.t _ (omega arith) l.invariant.1 v)

pub returns : goal.returns
returns c =
    let l = c.loop-t in
    sym (take_all 16 l.w-items (omega arith)) ∙ words_of 16 l.w-items c.args.block.now (omega arith) (λ k h. l.invariant.1 k (omega arith))
