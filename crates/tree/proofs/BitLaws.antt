-- The bits of a VRF output (specs/PrefixTree.antt): each of them, how many there are, and that they
-- tell outputs apart.
use mathlib.Core.Path.{◌≡◌, refl, sym, ap, ap₂, ◌∙◌}
use mathlib.Core.List.{List, [], ◌∷◌, ◌++◌}
use Prim.Native.Nat.{ℕ, zero, suc, ◌+◌, ◌-◌, ◌*◌, ◌/◌, ◌%◌, ◌^◌, ◌<◌, ◌≤◌}
use native.Mathlib.Nat.{pow-succ', div-one, div-div-eq-div-mul}
use native.Mathlib.Numerals.{add-one}
use native.Mathlib.Omega.{arith}
use lib.ListN.{length, get_or, take, length-append, get_or-append}
use lib.Seq.{get_or-append-add, get_or_at, take-suc, take_all}
use Rattle.lists.specs.Lists.{Bytes}
use Rattle.hash.specs.Bytes.{AreBytes}
use Rattle.tree.specs.PrefixTree.{low_bits, bits}
use Rattle.tree.proofs.DigitLaws.{by_order}
use Rattle.tree.proofs.CollisionLaws.{append_split}

-- There are n low bits.
pub length_low_bits : (n x : ℕ) → length (low_bits n x) ≡ n
unfolding low_bits
length_low_bits zero x = refl
length_low_bits (suc n) x = omega (arith, length-append (low_bits n (x / 2)) (x % 2 ∷ []), length_low_bits n (x / 2))

-- Low bit i of n, counted from the highest, is bit n - 1 - i of the number.
pub low_bit : (n x i : ℕ) → i < n → get_or (low_bits n x) i 0 ≡ x / 2 ^ (n - 1 - i) % 2
unfolding low_bits
low_bit zero x i h = absurd (omega arith)
low_bit (suc n) x i h = by_order i n (λ l. inner l (low_bit n (x / 2) i l)) last
  where
    inner : i < n → get_or (low_bits n (x / 2)) i 0 ≡ x / 2 / 2 ^ (n - 1 - i) % 2 → get_or (low_bits n (x / 2) ++ x % 2 ∷ []) i 0 ≡ x / 2 ^ (suc n - 1 - i) % 2
    inner l ih =
        let e : suc n - 1 - i ≡ suc (n - 1 - i) = omega arith in
        get_or-append (low_bits n (x / 2)) (x % 2 ∷ []) 0 i (rw (length_low_bits n (x / 2)) l)
        ∙ ih
        ∙ ap (λ (k : ℕ). k % 2) (div-div-eq-div-mul x 2 (2 ^ (n - 1 - i)) ∙ ap (λ (k : ℕ). x / k) (sym (pow-succ' 2 (n - 1 - i)) ∙ ap (λ (k : ℕ). 2 ^ k) (sym e)))

    last : n ≤ i → get_or (low_bits n (x / 2) ++ x % 2 ∷ []) i 0 ≡ x / 2 ^ (suc n - 1 - i) % 2
    last l =
        let e : suc n - 1 - i ≡ 0 = omega arith in
        get_or_at (low_bits n (x / 2)) (x % 2) [] 0 i (length_low_bits n (x / 2) ∙ omega arith)
        ∙ ap (λ (k : ℕ). k % 2) (sym (div-one x) ∙ ap (λ (k : ℕ). x / 2 ^ k) (sym e))

-- Numbers below 2 ^ n with equal low bits are equal.
low_bits_equal : (n x y : ℕ) → x < 2 ^ n → y < 2 ^ n → low_bits n x ≡ low_bits n y → x ≡ y
unfolding low_bits
low_bits_equal zero x y h k e = omega arith
low_bits_equal (suc n) x y h k e =
    let p = pow-succ' 2 n in
    let s = append_split (low_bits n (x / 2)) (low_bits n (y / 2)) (x % 2 ∷ []) (y % 2 ∷ []) (length_low_bits n (x / 2) ∙ sym (length_low_bits n (y / 2))) e in
    let high = low_bits_equal n (x / 2) (y / 2) (omega arith) (omega arith) s.0 in
    let low = ap (λ (l : List ℕ). get_or l 0 0) s.1 in
    omega arith

-- Each byte has eight bits.
pub length_bits : (o : Bytes) → length (bits o) ≡ 8 * length o
unfolding bits
length_bits [] = refl
length_bits (b ∷ o) = omega (arith, length-append (low_bits 8 b) (bits o), length_low_bits 8 b, length_bits o)

-- Bit i of an output is bit 7 - i % 8 of byte i / 8.
pub bit_of : (o : Bytes) (i : ℕ) → i < 8 * length o → get_or (bits o) i 0 ≡ get_or o (i / 8) 0 / 2 ^ (7 - i % 8) % 2
unfolding bits
bit_of [] i h = absurd (omega arith)
bit_of (b ∷ o) i h = by_order i 8 inner (λ l. beyond l (bit_of o (i - 8) (omega arith)))
  where
    inner : i < 8 → get_or (low_bits 8 b ++ bits o) i 0 ≡ get_or (b ∷ o) (i / 8) 0 / 2 ^ (7 - i % 8) % 2
    inner l =
        let e : i / 8 ≡ 0 = omega arith in
        let r : i % 8 ≡ i = omega arith in
        get_or-append (low_bits 8 b) (bits o) 0 i (rw (length_low_bits 8 b) l) ∙ low_bit 8 b i l ∙ rw (e, r) refl

    beyond : 8 ≤ i → get_or (bits o) (i - 8) 0 ≡ get_or o ((i - 8) / 8) 0 / 2 ^ (7 - (i - 8) % 8) % 2 → get_or (low_bits 8 b ++ bits o) i 0 ≡ get_or (b ∷ o) (i / 8) 0 / 2 ^ (7 - i % 8) % 2
    beyond l ih =
        let k : i ≡ length (low_bits 8 b) + (i - 8) = omega (arith, length_low_bits 8 b) in
        let e : i / 8 ≡ suc ((i - 8) / 8) = omega arith in
        let r : i % 8 ≡ (i - 8) % 8 = omega arith in
        ap (λ (j : ℕ). get_or (low_bits 8 b ++ bits o) j 0) k
        ∙ get_or-append-add (low_bits 8 b) (bits o) (i - 8) 0
        ∙ ih
        ∙ rw (e, r) refl

-- Byte strings of one length with equal bits are equal.
pub bits_equal : (o p : Bytes) → AreBytes o → AreBytes p → length o ≡ length p → bits o ≡ bits p → o ≡ p
unfolding bits
bits_equal [] [] x y l e = refl
bits_equal [] (b ∷ p) x y l e = absurd (omega arith)
bits_equal (a ∷ o) [] x y l e = absurd (omega arith)
bits_equal (a ∷ o) (b ∷ p) (x, xs) (y, ys) l e =
    let s = append_split (low_bits 8 a) (low_bits 8 b) (bits o) (bits p) (length_low_bits 8 a ∙ sym (length_low_bits 8 b)) e in
    ap₂ ◌∷◌ (low_bits_equal 8 a b x y s.0) (bits_equal o p xs ys (omega arith) s.1)

-- Two lists that share their first n elements and the next one share one more.
pub one_more : (x y : List ℕ) (n : ℕ) → n < length x → n < length y → take n x ≡ take n y → get_or x n 0 ≡ get_or y n 0
    → take (n + 1) x ≡ take (n + 1) y
one_more x y n h k e d = rw (add-one n, take-suc x n 0 h, take-suc y n 0 k, e, d) refl

-- Byte strings of one length that share all their bits are equal.
pub all_shared : (o p : Bytes) (n : ℕ) → AreBytes o → AreBytes p → 8 * length o ≡ n → 8 * length p ≡ n → take n (bits o) ≡ take n (bits p) → o ≡ p
all_shared o p n x y l k e =
    bits_equal o p x y (omega arith)
    (sym (take_all n (bits o) (omega (arith, length_bits o))) ∙ e ∙ take_all n (bits p) (omega (arith, length_bits p)))

-- Two lists that agree at each place before the first n share those.
pub shared_up : (x y : List ℕ) (n : ℕ) → n ≤ length x → n ≤ length y
    → ((k : ℕ) → k < n → get_or x k 0 ≡ get_or y k 0) → take n x ≡ take n y
shared_up x y zero h k e = refl
shared_up x y (suc n) h k e =
    let below : take n x ≡ take n y = shared_up x y n (omega arith) (omega arith) (λ i l. e i (omega arith)) in
    rw (sym (add-one n)) (one_more x y n (omega arith) (omega arith) below (e n (omega arith)))
