-- `hash::bytes::buffer_of` meets its contract: the parts copied so far stand at the front of zeros.
use Rattle.std.proofs.Common.{◌≡◌, length, take}
use Rattle.hash.specs.Bytes.{joined, padded}
use Rattle.hash.proofs.bytes.buffer_of.Given as goal

abbrev pub invariant-loop-part : goal.invariant-loop-part
invariant-loop-part g l =
    (l.at ≡ length (joined (take l.part-index l.parts))) × (l.bytes ≡ padded g.row.N (joined (take l.part-index l.parts)))
