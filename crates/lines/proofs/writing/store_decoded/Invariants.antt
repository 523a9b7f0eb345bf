-- `lines::writing::store_decoded` meets its contract: the bytes that the digits from 2i on encode,
-- stored into what is there, make all bytes in their place.
use mathlib.Core.Path.{◌≡◌}
use Prim.Native.Nat.{◌+◌, ◌*◌}
use lib.ListN.{length, drop}
use lib.Seq.{sets}
use Rattle.lists.specs.Lists.{written}
use Rattle.lines.specs.Hex.{unhex}
use Rattle.lines.proofs.writing.store_decoded.Given as goal

abbrev pub invariant-loop-i : goal.invariant-loop-i
invariant-loop-i l =
    (length l.out ≡ length l.initial.out)
    × (written l.initial.out l.at (unhex l.field) ≡ sets l.out (l.at + l.i) (unhex (drop (2 * l.i) l.field)))
