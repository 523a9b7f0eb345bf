-- `lines::writing::store_hex` meets its contract: the digits of the bytes from i on, stored into
-- what is there, make all digits in their place.
use mathlib.Core.Path.{◌≡◌}
use Prim.Native.Nat.{◌+◌, ◌*◌}
use lib.ListN.{length, drop}
use lib.Seq.{sets}
use Rattle.lists.specs.Lists.{written}
use Rattle.lines.specs.Hex.{hex}
use Rattle.lines.proofs.writing.store_hex.Given as goal

abbrev pub invariant-loop-i : goal.invariant-loop-i
invariant-loop-i l =
    (length l.out ≡ length l.initial.out)
    × (written l.initial.out l.at (hex l.s) ≡ sets l.out (l.at + 2 * l.i) (hex (drop l.i l.s)))
