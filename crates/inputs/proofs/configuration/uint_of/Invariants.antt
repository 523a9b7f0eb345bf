-- `inputs::configuration::uint_of` meets its contract: what is read so far and the bytes that are
-- left encode the number.
use mathlib.Core.Path.{◌≡◌}
use Prim.Native.Nat.{◌^◌, ◌≤◌, ◌<◌}
use lib.ListN.{length, drop}
use Rattle.rules.specs.Encoding.{bytes_after, uint}
use Rattle.inputs.proofs.configuration.uint_of.Given as goal

abbrev pub invariant-loop-byte : goal.invariant-loop-byte
invariant-loop-byte l =
    (l.byte-index ≤ length l.s) × (l.value < 256 ^ l.byte-index)
    × (uint l.s ≡ bytes_after l.value (drop l.byte-index l.s))
