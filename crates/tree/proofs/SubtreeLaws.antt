-- Subtrees of the log tree by level and number, and how they halve (specs/LogTree.antt).
use mathlib.Core.Path.{◌≡◌, refl, sym, ap, ap₂, ◌∙◌, subst}
use Prim.Native.Nat.{ℕ, zero, suc, ◌+◌, ◌-◌, ◌*◌, ◌^◌, ◌≤◌, ◌<◌}
use native.Mathlib.Decide.{dec_lt}
use native.Mathlib.Nat.{mul_assoc, pow-succ'}
use native.Mathlib.Omega.{arith}
use lib.Pow.{pow_pos, pow-add}
use Rattle.tree.specs.SearchTree.{power}
use Rattle.tree.specs.LogTree.{Range, left_half, right_half}
use Rattle.tree.proofs.PowerLaws.{below_power, exponent_below, power_at, split_unique}
use Rattle.tree.specs.LogWalk.{range}

-- ---- the subtrees of a log of n entries

-- the q-th run of 2 ^ e entries
abbrev pub block : ℕ → ℕ → Range
block e q = range (q * 2 ^ e) (2 ^ e)

-- A subtree is a whole block, or the entries of a block up to n, more than half of them.
pub data Subtree (n : ℕ) : Range → Type 0 where
  whole : (e q : ℕ) → q * 2 ^ e + 2 ^ e ≤ n → Subtree n (block e q)
  cut : (e q w : ℕ) → 2 ^ e < w → w < 2 ^ suc e → q * 2 ^ suc e + w ≡ n → Subtree n (range (q * 2 ^ suc e) w)

-- The start of a block is the start of a block of each lower level.
pub start_lower : (e k q : ℕ) → k ≤ e → (q * 2 ^ (e - k)) * 2 ^ k ≡ q * 2 ^ e
start_lower e k q h =
    let i : e - k + k ≡ e = omega arith in
    mul_assoc q (2 ^ (e - k)) (2 ^ k) ∙ ap (λ (x : ℕ). q * x) (sym (pow-add 2 (e - k) k) ∙ ap (λ (x : ℕ). 2 ^ x) i)

-- An exponent is not above another where the powers are not.
pub exponent_most : (j k : ℕ) → 2 ^ j ≤ 2 ^ k → j ≤ k
exponent_most j k h = let e = exponent_below j (suc k) (omega (arith, pow_pos k, pow-succ' 2 k)) in omega arith

-- The entries of a block up to n are a subtree.
pub subtree_tail : (n e q w : ℕ) → 0 < w → w ≤ 2 ^ e → q * 2 ^ e + w ≡ n → Subtree n (range (q * 2 ^ e) w)
subtree_tail n e q w p h u = let (k, x, l, m) = power_at w p in go k x l m (dec_lt (2 ^ k) w)
  where
    go : (k : ℕ) → power w ≡ 2 ^ k → power w ≤ w → w < 2 * power w → Dec (2 ^ k < w) → Subtree n (range (q * 2 ^ e) w)
    go k x l m (yes a) =
        let i : suc k ≤ e = exponent_below k e (omega arith) in
        let s = start_lower e (suc k) q i in
        subst (λ (y : ℕ). Subtree n (range y w)) s (cut k (q * 2 ^ (e - suc k)) w a (rw (pow-succ' 2 k) (omega arith)) (ap (λ (y : ℕ). y + w) s ∙ u))
    go k x l m (no a) =
        let z : 2 ^ k ≡ w = omega arith in
        let i : k ≤ e = exponent_most k e (omega arith) in
        let s = start_lower e k q i in
        subst (λ (y : ℕ). Subtree n (range y w)) s (subst (λ (y : ℕ). Subtree n (range (q * 2 ^ (e - k) * 2 ^ k) y)) z (whole k (q * 2 ^ (e - k)) (omega (arith, s))))

-- The whole log is a subtree.
pub subtree_root : (n : ℕ) → 0 < n → Subtree n (range 0 n)
subtree_root n h =
    let z : 0 * 2 ^ n ≡ 0 = omega arith in
    subst (λ (y : ℕ). Subtree n (range y n)) z (subtree_tail n n 0 n h (omega (arith, below_power n)) (omega arith))

-- The blocks of the level below have twice the numbers.
pub starts_double : (e q : ℕ) → (2 * q * 2 ^ e ≡ q * 2 ^ suc e) × ((2 * q + 1) * 2 ^ e ≡ q * 2 ^ suc e + 2 ^ e)
starts_double e q = let p = pow-succ' 2 e in (rw p (omega arith), rw p (omega arith))

-- More than half of a block splits in its middle: into a whole block, and the others of the next
-- one.
pub halves_most : (e q w : ℕ) → 2 ^ e < w → w ≤ 2 ^ suc e
    → (left_half (range (q * 2 ^ suc e) w) ≡ block e (2 * q)) × (right_half (range (q * 2 ^ suc e) w) ≡ range ((2 * q + 1) * 2 ^ e) (w - 2 ^ e))
unfolding left_half right_half
halves_most e q w l u =
    let s = split_unique e w l u in
    let (a, b) = starts_double e q in (
      ap₂ range (sym a) s,
      ap₂ range (rw s (sym b)) (rw s refl),
    )

-- So does a cut block.
pub halves_cut : (e q w : ℕ) → 2 ^ e < w → w < 2 ^ suc e
    → (left_half (range (q * 2 ^ suc e) w) ≡ block e (2 * q)) × (right_half (range (q * 2 ^ suc e) w) ≡ range ((2 * q + 1) * 2 ^ e) (w - 2 ^ e))
halves_cut e q w l u = halves_most e q w l (omega arith)

-- A whole block halves into two whole blocks.
pub halves_whole : (e q : ℕ) → (left_half (block (suc e) q) ≡ block e (2 * q)) × (right_half (block (suc e) q) ≡ block e (2 * q + 1))
halves_whole e q =
    let p = pow-succ' 2 e in
    let (a, b) = halves_most e q (2 ^ suc e) (omega (arith, pow_pos e)) (omega arith) in
    (a, b ∙ ap (range ((2 * q + 1) * 2 ^ e)) (omega arith))

-- Both halves of a subtree are subtrees.
pub subtree_halves : (n : ℕ) (r : Range) → Subtree n r → 1 < r.width → Subtree n (left_half r) × Subtree n (right_half r)
subtree_halves n r (whole zero q h) w = absurd (omega arith)
subtree_halves n r (whole (suc e) q h) w =
    let (a, b) = halves_whole e q in
    let p = pow-succ' 2 e in
    let d = starts_double e q in (
      subst (Subtree n) (sym a) (whole e (2 * q) (omega arith)),
      subst (Subtree n) (sym b) (whole e (2 * q + 1) (omega arith)),
    )
subtree_halves n r (cut e q v l u t) w =
    let (a, b) = halves_cut e q v l u in
    let p = pow-succ' 2 e in
    let d = starts_double e q in (
      subst (Subtree n) (sym a) (whole e (2 * q) (omega arith)),
      subst (Subtree n) (sym b) (subtree_tail n e (2 * q + 1) (v - 2 ^ e) (omega arith) (omega arith) (omega arith)),
    )
