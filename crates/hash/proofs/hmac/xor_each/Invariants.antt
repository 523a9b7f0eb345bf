-- `hash::hmac::xor_each` meets its contract: the bytes passed are those of the definition.
use Rattle.std.proofs.Common.{◌≡◌, ◌++◌, length, map, take, drop, bit_xor}
use Rattle.hash.proofs.hmac.xor_each.Given as goal

abbrev pub invariant-loop-b : goal.invariant-loop-b
invariant-loop-b l =
    (length l.b-items ≡ 64) × (length l.fn.block ≡ 64)
    × (l.b-items ≡ map (λ b. bit_xor b l.x) (take l.b-index l.fn.block) ++ drop l.b-index l.fn.block)
