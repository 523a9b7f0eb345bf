-- The highest digit of a number, and the highest digit in which two numbers differ, as leading
-- zeros and shifts find them.
use mathlib.Core.Path.{◌≡◌, refl, sym, ◌∙◌}
use Prim.Native.Nat.{ℕ, zero, suc, ◌+◌, ◌-◌, ◌*◌, ◌/◌, ◌%◌, ◌^◌, ◌≤◌, ◌<◌}
use native.Mathlib.Nat.{one-mul, mod-eq_of_lt, div-eq_of_lt-le, div-add-mod'}
use native.Mathlib.Omega.{arith}
use lib.Bits.{differ, bit_or, bit_xor, and_le_l, and_le_r, xor_add_and, or_add_and, and_mask, xor_shr, xor_step}
use lib.Bits.{xor_self, xor_lt}
use lib.Count.{count_leading_zeros, leading_top}
use lib.Pow.{pow-lt, pow_pos, shr_mono}
use Rattle.tree.specs.SearchTree.{power}
use Rattle.tree.proofs.PowerLaws.{power_unique}
use Rattle.tree.proofs.DigitLaws.{by_order}
use Rattle.tree.proofs.AncestorLaws.{block_end}

-- ---- one digit

-- A number of 64 bits that is 1 at one place only is its power.
pub place_value : (k : ℕ) → k < 64 → (1 * 2 ^ k) % 2 ^ 64 ≡ 2 ^ k
place_value k h = rw (one-mul, mod-eq_of_lt (pow-lt h))

-- The leading zeros of a number from 1 on leave a place for its highest digit.
pub leading_within : (x : ℕ) → 0 < x → x < 2 ^ 64 → count_leading_zeros 64 x ≤ 63
leading_within x l h = let (j, e, _, _) = leading_top 64 x l h in omega arith

-- At that place stands the power of the number.
pub power_shift : (x : ℕ) → 0 < x → x < 2 ^ 64 → (1 * 2 ^ (63 - count_leading_zeros 64 x)) % 2 ^ 64 ≡ power x
power_shift x l h =
    let (j, e, a, b) = leading_top 64 x l h in
    let z : 63 - count_leading_zeros 64 x ≡ j = omega arith in
    rw (z, place_value j (omega arith)) (sym (power_unique j x a b))

-- A number joined with k ones at the low end has its k low digits replaced by ones.
pub or_ones : (k p : ℕ) → bit_or p (2 ^ k - 1) ≡ block_end k p
or_ones k p = omega (arith, or_add_and p (2 ^ k - 1), and_mask p k, div-add-mod' p (2 ^ k), pow_pos k)

-- ---- where two numbers differ

-- h is the highest digit in which x and y differ, and it is y that has a one there
pub record Parting (x y h : ℕ) : Type 0 where
  pub clear : x / 2 ^ h % 2 ≡ 0
  pub next : y / 2 ^ h ≡ x / 2 ^ h + 1

-- The same, with the digit among 64.
pub parts : {x y h : ℕ} → (h < 64) × (x / 2 ^ h % 2 ≡ 0) × (y / 2 ^ h ≡ x / 2 ^ h + 1) → Parting x y h
parts (_, c, n) = record { clear = c; next = n }

-- Numbers that differ in no digit are equal.
xor_zero : (a b : ℕ) → bit_xor a b ≡ 0 → a ≡ b
xor_zero a b e = omega (arith, xor_add_and a b, and_le_l a b, and_le_r a b)

-- Of two numbers of 64 bits the leading digits in which they agree are the leading zeros of their
-- difference, digit by digit.
pub parting : (x y : ℕ) → x < y → y < 2 ^ 64 → (count_leading_zeros 64 (bit_xor x y) ≤ 63) × Parting x y (63 - count_leading_zeros 64 (bit_xor x y))
parting x y l h =
    let (j, e, a, b) = leading_top 64 (bit_xor x y) differing (xor_lt 64 x y (omega arith) h) in
    let z : 63 - count_leading_zeros 64 (bit_xor x y) ≡ j = omega arith in
    (omega arith, rw z (parted j a b))
  where
    differing : 0 < bit_xor x y
    differing = go (bit_xor x y) refl
      where
        go : (d : ℕ) → bit_xor x y ≡ d → 0 < d
        go zero e = let z : x ≡ y = xor_zero x y e in absurd (omega arith)
        go (suc d) e = omega arith

    parted : (j : ℕ) → 2 ^ j ≤ bit_xor x y → bit_xor x y < 2 ^ suc j → Parting x y j
    parted j a b =
        let u : ℕ = x / 2 ^ j in
        let v : ℕ = y / 2 ^ j in
        let one : bit_xor x y / 2 ^ j ≡ 1 = div-eq_of_lt-le (2 ^ j) (omega arith) (omega arith) in
        let d : bit_xor u v ≡ 1 = sym (xor_shr x y j) ∙ one in
        let s : bit_xor u v ≡ bit_xor (u / 2) (v / 2) * 2 + differ (u % 2) (v % 2) = xor_step u v in
        let same : u / 2 ≡ v / 2 = xor_zero (u / 2) (v / 2) (omega arith) in
        let m : u ≤ v = shr_mono j (omega arith) in
        let other : u ≡ v → ⊥ = λ q. let z : bit_xor v v ≡ 1 = rw q at d in omega (arith, xor_self v) in
        let w : u < v = by_order u v (λ q. q) (λ q. absurd (other (omega arith))) in
        record { clear = omega arith; next = omega arith }
