-- `lines::hex::read_digest` meets its contract: the bytes so far and what the digits left encode
-- stay the value, and what is left has the bytes that are no digits.
use mathlib.Core.Path.{◌≡◌, sym, ◌∙◌}
use mathlib.Core.Bool.{true, false}
use mathlib.Core.List.{[]}
use Prim.Native.Nat.{◌+◌, ◌*◌}
use native.Mathlib.Omega.{arith}
use lib.ListN.{get_or}
use Rattle.std.proofs.Common.{rules}
use Rattle.lines.specs.Hex.{is_hex_digit, digit_value, unhex}
use Rattle.lines.proofs.ReadingLaws.{digest_other, digest_some, pair_high, pair_low}
use Rattle.lines.proofs.ReadingLaws.{digit-pair, digit-other, digit-other-second, unhex-pair, unhex-end, digits_none}
use Rattle.lines.proofs.ReadingLaws.{fill_step, fill_end}
use Rattle.lines.proofs.hex.read_digest.Goals as goal

pub returns-then-not-is_hex_digit : goal.returns-then-not-is_hex_digit
returns-then-not-is_hex_digit c =
    let s = c.args.s.now in
    let i = c.loop-i.i in
    let h = pair_high s _ i [] c.as_chunks.ensures.front (omega arith) in
    let d : is_hex_digit (get_or s (2 * i) 0) ≡ false = rw h at (sym c.is_hex_digit.ensures ∙ c.if-not-is_hex_digit.true) in
    sym (digest_other s (c.loop-i.invariant.1 ∙ digit-other s (2 * i) (omega arith) d))

pub returns-then-not-is_hex_digit-2 : goal.returns-then-not-is_hex_digit-2
returns-then-not-is_hex_digit-2 c =
    let s = c.args.s.now in
    let i = c.loop-i.i in
    let h = pair_high s _ i [] c.as_chunks.ensures.front (omega arith) in
    let w = pair_low s _ i [] c.as_chunks.ensures.front (omega arith) in
    let d : is_hex_digit (get_or s (2 * i) 0) ≡ true = rw h at (sym c.is_hex_digit.ensures ∙ c.if-not-is_hex_digit.false) in
    let e : is_hex_digit (get_or s (2 * i + 1) 0) ≡ false =
    rw w at (sym c.is_hex_digit-in-loop-i.ensures ∙ c.if-not-is_hex_digit-2.true) in
    sym (digest_other s (c.loop-i.invariant.1 ∙ digit-other-second s (2 * i) (omega arith) d e))

pub loop-i-preserved : goal.loop-i-preserved
loop-i-preserved c =
    let s = c.args.s.now in
    let i = c.loop-i.i in
    let h = pair_high s _ i [] c.as_chunks.ensures.front (omega arith) in
    let w = pair_low s _ i [] c.as_chunks.ensures.front (omega arith) in
    let d : is_hex_digit (get_or s (2 * i) 0) ≡ true = rw h at (sym c.is_hex_digit.ensures ∙ c.if-not-is_hex_digit.false) in
    let e : is_hex_digit (get_or s (2 * i + 1) 0) ≡ true =
    rw w at (sym c.is_hex_digit-in-loop-i.ensures ∙ c.if-not-is_hex_digit-2.false) in
    let a : c.digit_value.result ≡ digit_value (get_or s (2 * i) 0) = rw h at c.digit_value.ensures.0 in
    let b : c.digit_value-in-loop-i.result ≡ digit_value (get_or s (2 * i + 1) 0) = rw w at c.digit_value-in-loop-i.ensures.0 in
    let n : 2 * i + 2 ≡ 2 * (i + 1) = omega arith in
    let more = rw (unhex-pair s (2 * i) (omega arith)) at c.loop-i.invariant.2 in (
      search rules,
      rw n at (c.loop-i.invariant.1 ∙ digit-pair s (2 * i) (omega arith) d e),
      rw (a, b) (rw n at (fill_step c.loop-i.value _ _ i _ (omega arith) more)),
    )

pub returns : goal.returns
returns c =
    let s = c.args.s.now in
    let i = c.loop-i.i in
    let v : c.loop-i.value ≡ unhex s =
    fill_end c.loop-i.value (unhex s) i (omega arith) (cc (unhex-end s (2 * i) (omega arith))) in
    rw v (sym (digest_some s (omega arith) (c.loop-i.invariant.1 ∙ digits_none s (2 * i) (omega arith))))
