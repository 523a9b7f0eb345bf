-- `lines::writing::store_bytes` meets its contract: the bytes from i on, stored into what is there,
-- make the whole text in its place.
use mathlib.Core.Path.{◌≡◌}
use Prim.Native.Nat.{◌+◌}
use lib.ListN.{length, drop}
use lib.Seq.{sets}
use Rattle.lists.specs.Lists.{written}
use Rattle.lines.proofs.writing.store_bytes.Given as goal

abbrev pub invariant-loop-i : goal.invariant-loop-i
invariant-loop-i l =
    (length l.out ≡ length l.initial.out)
    × (written l.initial.out l.at l.s ≡ sets l.out (l.at + l.i) (drop l.i l.s))
