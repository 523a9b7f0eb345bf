-- `lines::line::line_end` meets its contract: the offset passed and what stands before the newline
-- from there on stay the answer.
use mathlib.Core.Path.{◌≡◌}
use Prim.Native.Nat.{◌+◌, ◌≤◌}
use lib.ListN.{length, drop}
use Rattle.lines.specs.Line.{before, newline}
use Rattle.lines.proofs.line.line_end.Given as goal

abbrev pub invariant-loop-i : goal.invariant-loop-i
invariant-loop-i l =
    (l.at + 12 ≤ length l.s)
    × (l.i + length (before newline (drop l.i l.s)) ≡ l.at + length (before newline (drop l.at l.s)))
