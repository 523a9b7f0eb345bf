-- `hash::hasher::Hasher::update` meets its contract: one law for each of the two ways: the part
-- fits the block, or fills it.
use Rattle.std.proofs.Common.{refl, ◌∙◌, rules}
use Rattle.hash.proofs.HasherLaws.{updated_short, updated_long}
use Rattle.hash.proofs.hasher.Hasher.update.Goals as goal

pub returns-then-part-room : goal.returns-then-part-room
returns-then-part-room c =
    updated_short c.args.self c.args.part.now c.buffer_of-block.result _ (search rules) (search rules) c.buffer_of-block.ensures refl

pub returns-else-part-room : goal.returns-else-part-room
returns-else-part-room c =
    let s = c.split_at.ensures in
    c.after_blocks.ensures
    ∙ updated_long c.args.self c.args.part.now c.split_at.result.0.now c.split_at.result.1.now c.buffer_of-block-else-part-room.result c.compress.result _
    (search rules) (search rules) s.front s.back c.buffer_of-block-else-part-room.ensures c.compress.ensures refl
