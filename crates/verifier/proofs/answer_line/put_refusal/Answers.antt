-- `verifier::answer_line::put_refusal` meets its contract: the word and a tab, the number, a
-- newline, each after what is written before it.
use mathlib.Core.Path.{◌∙◌}
use mathlib.Core.List.{[], ◌∷◌, ◌++◌}
use Prim.Native.Nat.{◌+◌, ◌≤◌}
use native.Mathlib.Omega.{arith}
use lib.ListN.{length}
use Rattle.lists.specs.Lists.{Bytes}
use Rattle.lines.specs.Number.{ascii, decimal}
use Rattle.lines.specs.Line.{tab, newline}
use Rattle.inputs.proofs.StateWriterLaws.{unwrapped, room_first, then-put, both_put}
use Rattle.verifier.proofs.AnswerLineLaws.{refusal_pieces, refusal_fits}
use Rattle.verifier.proofs.answer_line.put_refusal.Goals as goal

-- the word and a tab
abbrev word : Bytes
word = ascii "no" ++ tab ∷ []

pub returns : goal.returns
unfolding ascii
returns c =
    let n = c.args.number in
    let room : 0 + length (word ++ decimal n ++ (newline ∷ [])) ≤ length c.args.out.now =
    omega (arith, c.put_bytes-arg-1.given.0, refusal_fits n (omega arith)) in
    let w = both_put word (decimal n) _ _ (room_first (word ++ decimal n) (newline ∷ []) _ _ room)
    (c.put_bytes.ensures.offset, c.put_bytes.ensures.bytes)
    (c.unwrap_or-at.ensures ∙ unwrapped c.put_bytes.result 0)
    (c.put_decimal.ensures.offset, c.put_decimal.ensures.bytes)
    (c.unwrap_or-end.ensures ∙ unwrapped c.put_decimal.result c.unwrap_or-at.result) in
    rw (refusal_pieces n) (then-put (newline ∷ []) w _ room
    (c.put_bytes-2.ensures.offset, c.put_bytes-2.ensures.bytes)
    (c.unwrap_or.ensures ∙ unwrapped c.put_bytes-2.result c.unwrap_or-end.result))
