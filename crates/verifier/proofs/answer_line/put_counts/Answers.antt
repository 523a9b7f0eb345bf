-- `verifier::answer_line::put_counts` meets its contract: each number after its tab, and a newline,
-- each after what is written before it.
use mathlib.Core.Path.{◌∙◌}
use mathlib.Core.List.{[], ◌∷◌, ◌++◌}
use Rattle.lines.specs.Number.{decimal}
use Rattle.lines.specs.Line.{tab, newline}
use Rattle.inputs.proofs.StateWriterLaws.{unwrapped, room_first, room-then, wrote_then, then-put, both_put}
use Rattle.verifier.proofs.answer_line.put_counts.Goals as goal

pub returns : goal.returns
returns c =
    let first = tab ∷ decimal c.args.tree_size in
    let second = tab ∷ decimal c.args.pairs in
    let room = room_first (first ++ second) (newline ∷ []) _ _ c.requires in
    let one = both_put (tab ∷ []) (decimal c.args.tree_size) _ _ (room_first first second _ _ room)
    (c.put_bytes.ensures.offset, c.put_bytes.ensures.bytes)
    (c.unwrap_or-size_at.ensures ∙ unwrapped c.put_bytes.result c.args.at)
    (c.put_decimal.ensures.offset, c.put_decimal.ensures.bytes)
    (c.unwrap_or-size_end.ensures ∙ unwrapped c.put_decimal.result c.unwrap_or-size_at.result) in
    let two = both_put (tab ∷ []) (decimal c.args.pairs) _ _ (room-then second one room)
    (c.put_bytes-2.ensures.offset, c.put_bytes-2.ensures.bytes)
    (c.unwrap_or-pairs_at.ensures ∙ unwrapped c.put_bytes-2.result c.unwrap_or-size_end.result)
    (c.put_decimal-2.ensures.offset, c.put_decimal-2.ensures.bytes)
    (c.unwrap_or-pairs_end.ensures ∙ unwrapped c.put_decimal-2.result c.unwrap_or-pairs_at.result) in
    then-put (newline ∷ []) (wrote_then second one two) _ c.requires
    (c.put_bytes-3.ensures.offset, c.put_bytes-3.ensures.bytes)
    (c.unwrap_or.ensures ∙ unwrapped c.put_bytes-3.result c.unwrap_or-pairs_end.result)
