-- `lines::writing::store_decoded` meets its contract: the two digits of a pair stand one after the
-- other in the field.
use mathlib.Core.Path.{◌≡◌, ◌∙◌}
use mathlib.Core.List.{[]}
use Prim.Native.Nat.{◌+◌, ◌*◌}
use native.Mathlib.Omega.{arith}
use lib.ListN.{get_or}
use Rattle.std.proofs.Common.{rules}
use Rattle.lines.specs.Hex.{digit_value}
use Rattle.lines.proofs.HexLengthLaws.{decoded_digit}
use Rattle.lines.proofs.ReadingLaws.{pair_high, pair_low, unhex-pair}
use Rattle.lines.proofs.WritingLaws.{sets_next}
use Rattle.lines.proofs.writing.store_decoded.Goals as goal

pub digit_value-requires : goal.digit_value-requires
digit_value-requires c =
    let s = c.args.field.now in
    let i = c.loop-i.i in
    rw (pair_high s _ i [] c.as_chunks.ensures.front (omega arith))
    (decoded_digit s _ (2 * i) c.requires.decodes (omega arith) (omega arith))

pub digit_value-requires-in-loop-i : goal.digit_value-requires-in-loop-i
digit_value-requires-in-loop-i c =
    let s = c.args.field.now in
    let i = c.loop-i.i in
    rw (pair_low s _ i [] c.as_chunks.ensures.front (omega arith))
    (decoded_digit s _ (2 * i + 1) c.requires.decodes (omega arith) (omega arith))

pub loop-i-preserved : goal.loop-i-preserved
loop-i-preserved c =
    let s = c.args.field.now in
    let i = c.loop-i.i in
    let a : c.digit_value.result ≡ digit_value (get_or s (2 * i) 0) =
    rw (pair_high s _ i [] c.as_chunks.ensures.front (omega arith)) at c.digit_value.ensures.0 in
    let b : c.digit_value-in-loop-i.result ≡ digit_value (get_or s (2 * i + 1) 0) =
    rw (pair_low s _ i [] c.as_chunks.ensures.front (omega arith)) at c.digit_value-in-loop-i.ensures.0 in
    let n : 2 * i + 2 ≡ 2 * (i + 1) = omega arith in
    let p = rw n at (unhex-pair s (2 * i) (omega arith)) in (
      search rules,
      c.loop-i.invariant.1 ∙ rw (a, b) (sets_next c.loop-i.out _ _ (c.args.at + i) (c.args.at + (i + 1)) _ (omega arith) p),
    )
