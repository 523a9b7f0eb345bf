-- `lines::line::span` meets its contract: the offset passed and what stands before the byte from
-- there on stay the answer.
use mathlib.Core.Path.{◌≡◌}
use Prim.Native.Nat.{◌+◌}
use lib.ListN.{length, drop}
use Rattle.lines.specs.Line.{before}
use Rattle.lines.proofs.line.span.Given as goal

abbrev pub invariant-loop-i : goal.invariant-loop-i
invariant-loop-i l = l.i + length (before l.stop (drop l.i l.s)) ≡ l.at + length (before l.stop (drop l.at l.s))
