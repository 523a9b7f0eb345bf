-- `verifier::answer_line::put_found` meets its contract: the word and a tab, the version, the last
-- two fields, each after what is written before it.
use mathlib.Core.Path.{◌∙◌}
use mathlib.Core.List.{[], ◌∷◌, ◌++◌}
use Prim.Native.Nat.{◌+◌, ◌≤◌}
use native.Mathlib.Omega.{arith}
use lib.ListN.{length}
use Rattle.lists.specs.Lists.{Bytes}
use Rattle.lines.specs.Number.{ascii, decimal}
use Rattle.lines.specs.Line.{tab}
use Rattle.inputs.specs.StateWriter.{Wrote}
use Rattle.inputs.proofs.StateWriterLaws.{unwrapped, room_first, room-then, wrote_then, both_put}
use Rattle.verifier.specs.Files.{counts_text}
use Rattle.verifier.proofs.AnswerLineLaws.{found_pieces, found_fits}
use Rattle.verifier.proofs.answer_line.put_found.Goals as goal

-- the word and a tab
abbrev word : Bytes
word = ascii "yes" ++ tab ∷ []

pub put_counts-requires : goal.put_counts-requires
unfolding ascii
put_counts-requires c =
    let a = c.args in
    let room : 0 + length (word ++ decimal a.version ++ counts_text a.tree_size a.pairs) ≤ length a.out.now =
    omega (
      arith,
      c.put_bytes-arg-1.given.0,
      found_fits a.version a.tree_size a.pairs (omega arith) (omega arith) (omega arith),
    ) in
    let front : Wrote a.out.now 0 (word ++ decimal a.version) c.unwrap_or-end.result c.put_decimal.new.out =
    both_put word (decimal a.version) _ _
    (room_first (word ++ decimal a.version) (counts_text a.tree_size a.pairs) _ _ room)
    (c.put_bytes.ensures.offset, c.put_bytes.ensures.bytes) (c.unwrap_or-at.ensures ∙ unwrapped c.put_bytes.result 0)
    (c.put_decimal.ensures.offset, c.put_decimal.ensures.bytes)
    (c.unwrap_or-end.ensures ∙ unwrapped c.put_decimal.result c.unwrap_or-at.result) in
    room-then (counts_text a.tree_size a.pairs) front room

pub returns : goal.returns
unfolding ascii
returns c =
    let a = c.args in
    let room : 0 + length (word ++ decimal a.version ++ counts_text a.tree_size a.pairs) ≤ length a.out.now =
    omega (
      arith,
      c.put_bytes-arg-1.given.0,
      found_fits a.version a.tree_size a.pairs (omega arith) (omega arith) (omega arith),
    ) in
    let front : Wrote a.out.now 0 (word ++ decimal a.version) c.unwrap_or-end.result c.put_decimal.new.out =
    both_put word (decimal a.version) _ _
    (room_first (word ++ decimal a.version) (counts_text a.tree_size a.pairs) _ _ room)
    (c.put_bytes.ensures.offset, c.put_bytes.ensures.bytes) (c.unwrap_or-at.ensures ∙ unwrapped c.put_bytes.result 0)
    (c.put_decimal.ensures.offset, c.put_decimal.ensures.bytes)
    (c.unwrap_or-end.ensures ∙ unwrapped c.put_decimal.result c.unwrap_or-at.result) in
    rw (found_pieces a.version a.tree_size a.pairs)
    (wrote_then (counts_text a.tree_size a.pairs) front c.put_counts.ensures)
