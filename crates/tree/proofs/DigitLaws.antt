-- Binary digits: a number with its low digits cleared; cases on a digit, and on an order.
use mathlib.Core.Path.{◌≡◌, refl, sym, ap, ◌∙◌}
use Prim.Native.Nat.{ℕ, zero, suc, ◌+◌, ◌*◌, ◌/◌, ◌%◌, ◌^◌, ◌≤◌, ◌<◌}
use native.Mathlib.Nat.{pow-succ', div-add-mod', mod-lt}
use native.Mathlib.Numerals.{add-one}
use native.Mathlib.Decide.{dec_lt}
use native.Mathlib.Omega.{arith}
use lib.Pow.{pow_pos, shr-shr}

-- A digit fewer is a half.
pub halved : (n k : ℕ) → n / 2 ^ suc k ≡ n / 2 ^ k / 2
halved n k = sym (shr-shr n k 1 ∙ ap (λ (i : ℕ). n / 2 ^ i) (add-one k))

-- n with its k low digits cleared
abbrev pub cut : ℕ → ℕ → ℕ
cut n k = n / 2 ^ k * 2 ^ k

-- A number cut at two neighbouring digits, both by the lower digit's power.
cut_parts : (n k : ℕ) → (cut n (suc k) ≡ n / 2 ^ k / 2 * (2 * 2 ^ k)) × (cut n k ≡ (n / 2 ^ k / 2 * 2 + n / 2 ^ k % 2) * 2 ^ k)
cut_parts n k =
    let c : n / 2 ^ k ≡ n / 2 ^ k / 2 * 2 + n / 2 ^ k % 2 = omega arith in
    (rw (halved n k, pow-succ' 2 k), ap (λ (x : ℕ). x * 2 ^ k) c)

-- A digit that is set adds its power.
pub cut_set : (n k : ℕ) → n / 2 ^ k % 2 ≡ 1 → cut n k ≡ cut n (suc k) + 2 ^ k
cut_set n k o = let (a, b) = cut_parts n k in rw (b, a, o) (omega arith)

-- A digit that is clear adds nothing.
pub cut_clear : (n k : ℕ) → n / 2 ^ k % 2 ≡ 0 → cut n k ≡ cut n (suc k)
cut_clear n k o = let (a, b) = cut_parts n k in rw (b, a, o) (omega arith)

-- The digits cleared are less than their power.
pub cut_bounds : (n k : ℕ) → (cut n k ≤ n) × (n < cut n k + 2 ^ k)
cut_bounds n k = omega (arith, div-add-mod' n (2 ^ k), mod-lt n (pow_pos k))

-- ---- cases

-- A number is even or odd.
pub by_digit : {A : Type 0} (c : ℕ) → (c % 2 ≡ 0 → A) → (c % 2 ≡ 1 → A) → A
by_digit {A} c f g = go (c % 2) refl
  where
    go : (d : ℕ) → c % 2 ≡ d → A
    go zero e = f e
    go (suc d) e = g (omega arith)

-- A number is below another or not.
pub by_order : {A : Type 0} (x y : ℕ) → (x < y → A) → (y ≤ x → A) → A
by_order {A} x y f g = go (dec_lt x y)
  where
    go : Dec (x < y) → A
    go (yes h) = f h
    go (no h) = g (omega arith)
