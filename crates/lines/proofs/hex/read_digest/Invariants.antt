-- `lines::hex::read_digest` meets its contract: the bytes so far and what the digits left encode
-- stay the value, and what is left has the bytes that are no digits.
use mathlib.Core.Path.{◌≡◌}
use mathlib.Core.List.{◌++◌}
use Prim.Native.Nat.{◌*◌}
use lib.ListN.{length, take, drop}
use Rattle.lists.specs.Lists.{all}
use Rattle.lines.specs.Hex.{is_hex_digit, unhex}
use Rattle.lines.proofs.hex.read_digest.Given as goal

abbrev pub invariant-loop-i : goal.invariant-loop-i
invariant-loop-i l =
    (length l.value ≡ 32) × (all is_hex_digit l.s ≡ all is_hex_digit (drop (2 * l.i) l.s))
    × (take l.i l.value ++ unhex (drop (2 * l.i) l.s) ≡ unhex l.s)
