-- `hash::block::compress` meets its contract: the law of four sixteens over what each call ensures;
-- the table is cut into four literal parts.
use Rattle.std.proofs.Common.{refl, ◌∙◌}
use Rattle.hash.specs.Words.{constants}
use Rattle.hash.proofs.BlockLaws.{four_sixteens}
use Rattle.hash.proofs.block.compress.Goals as goal

pub returns : goal.returns
unfolding constants
returns c =
    c.add.ensures
    ∙ four_sixteens c.args.v c.sixteen_rounds-v0.result c.sixteen_rounds-v1.result c.sixteen_rounds-v2.result c.sixteen_rounds-v3.result
    _ _ _ _ _ _ _ _ _ c.first_words-w.ensures c.next_words.ensures c.next_words-2.ensures c.next_words-3.ensures
    c.sixteen_rounds-v0.ensures c.sixteen_rounds-v1.ensures c.sixteen_rounds-v2.ensures c.sixteen_rounds-v3.ensures refl refl refl refl
