-- `lines::line::lacks_newline` meets its contract: where no newline was met, the next one is the
-- same from the offset passed on.
use mathlib.Core.Path.{◌≡◌}
use mathlib.Core.Bool.{false}
use Prim.Native.Nat.{◌+◌}
use lib.ListN.{length, drop}
use Rattle.lines.specs.Line.{before, newline}
use Rattle.lines.proofs.line.lacks_newline.Given as goal

abbrev pub invariant-loop-b : goal.invariant-loop-b
invariant-loop-b l =
    l.hit ≡ false
    → l.at + l.b-index + length (before newline (drop (l.at + l.b-index) l.fn.s)) ≡ l.at + length (before newline (drop l.at l.fn.s))
