-- `verifier::answer_line::put_monitored` meets its contract: the word, a tab and a dash, and the
-- last two fields after them.
use mathlib.Core.Path.{◌∙◌}
use mathlib.Core.List.{◌∷◌, ◌++◌}
use Prim.Native.Nat.{◌+◌, ◌≤◌}
use native.Mathlib.Omega.{arith}
use lib.ListN.{length}
use Rattle.lists.specs.Lists.{Bytes}
use Rattle.lines.specs.Number.{ascii}
use Rattle.lines.specs.Line.{tab}
use Rattle.inputs.specs.StateWriter.{Wrote}
use Rattle.inputs.proofs.StateWriterLaws.{unwrapped, wrote_put, room_first, room-then, wrote_then}
use Rattle.verifier.specs.Files.{counts_text}
use Rattle.verifier.proofs.AnswerLineLaws.{monitored_pieces, monitored_fits}
use Rattle.verifier.proofs.answer_line.put_monitored.Goals as goal

-- the word, a tab and a dash
abbrev word : Bytes
word = ascii "yes" ++ tab ∷ ascii "-"

pub put_counts-requires : goal.put_counts-requires
unfolding ascii
put_counts-requires c =
    let a = c.args in
    let room : 0 + length (word ++ counts_text a.tree_size a.pairs) ≤ length a.out.now =
    omega (arith, c.put_bytes-arg-1.given.0, monitored_fits a.tree_size a.pairs (omega arith) (omega arith)) in
    let front : Wrote a.out.now 0 word c.unwrap_or-end.result c.put_bytes.new.out =
    wrote_put word _ (room_first word (counts_text a.tree_size a.pairs) _ _ room)
    (c.put_bytes.ensures.offset, c.put_bytes.ensures.bytes)
    (c.unwrap_or-end.ensures ∙ unwrapped c.put_bytes.result 0) in
    room-then (counts_text a.tree_size a.pairs) front room

pub returns : goal.returns
unfolding ascii
returns c =
    let a = c.args in
    let room : 0 + length (word ++ counts_text a.tree_size a.pairs) ≤ length a.out.now =
    omega (arith, c.put_bytes-arg-1.given.0, monitored_fits a.tree_size a.pairs (omega arith) (omega arith)) in
    let front : Wrote a.out.now 0 word c.unwrap_or-end.result c.put_bytes.new.out =
    wrote_put word _ (room_first word (counts_text a.tree_size a.pairs) _ _ room)
    (c.put_bytes.ensures.offset, c.put_bytes.ensures.bytes)
    (c.unwrap_or-end.ensures ∙ unwrapped c.put_bytes.result 0) in
    rw (monitored_pieces a.tree_size a.pairs) (wrote_then (counts_text a.tree_size a.pairs) front c.put_counts.ensures)
