use Rattle.std.proofs.Common.{◌≤◌, length}
use Rattle.text_examples.proofs.example.decode.Given as goal

abbrev pub invariant-loop-letter : goal.invariant-loop-letter
invariant-loop-letter l = l.length ≤ length l.room
