-- `lines::line::skipped` meets its contract: the next newline stays the same at each offset.
use mathlib.Core.Path.{◌≡◌}
use Prim.Native.Nat.{◌+◌, ◌-◌, ◌≤◌, ◌<◌}
use lib.ListN.{length, drop}
use Rattle.lines.specs.Line.{before, newline}
use Rattle.lines.proofs.line.skipped.Given as goal

abbrev pub invariant-loop-i : goal.invariant-loop-i
invariant-loop-i l =
    (0 < l.step) × (l.at ≤ l.i) × (l.i - l.at ≤ length l.s - l.at)
    × (l.i + length (before newline (drop l.i l.s)) ≡ l.at + length (before newline (drop l.at l.s)))

abbrev pub decreases-loop-i : goal.decreases-loop-i
decreases-loop-i l = length l.s - l.i
