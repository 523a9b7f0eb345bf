-- Laws of the largest power of two not above a number, and of the halves of a tree, which splits at
-- such a power (specs/SearchTree.antt, specs/LogTree.antt).
use mathlib.Core.Path.{◌≡◌, refl, ◌∙◌}
use Prim.Native.Nat.{ℕ, zero, suc, ◌+◌, ◌-◌, ◌*◌, ◌/◌, ◌^◌, ◌≤◌, ◌<◌}
use native.Mathlib.Decide.{dec_le}
use native.Mathlib.Omega.{arith}
use lib.Count.{leading_top}
use lib.Pow.{pow_pos, pow_mono}
use borrow.Author.Tests.{lt-ltb, le-ltb}
use Rattle.lists.specs.Choice.{choose}
use Rattle.tree.specs.SearchTree.{power_from, power}
use Rattle.tree.specs.LogTree.{Range, split_at, left_half, right_half}

-- ---- exponents

-- an exponent is below its power
pub below_power : (k : ℕ) → k < 2 ^ k
below_power zero = omega arith
below_power (suc k) = let h = below_power k in omega arith

-- a smaller power has a smaller exponent
pub exponent_below : (j k : ℕ) → 2 ^ j < 2 ^ k → j < k
exponent_below j k h = go (dec_le k j)
  where
    go : Dec (k ≤ j) → j < k
    go (yes p) = let q : 2 ^ k ≤ 2 ^ j = pow_mono p in omega arith
    go (no p) = omega arith

-- ---- the largest power of two

-- one halving is one doubling of the power
power_from_next : (f x : ℕ) → 2 ≤ x → power_from (suc f) x ≡ 2 * power_from f (x / 2)
unfolding power_from choose
power_from_next f x h = rw (le-ltb x 2 h) refl

-- below 2 the power is 1, whatever the number of steps
power_from_end : (f x : ℕ) → x < 2 → power_from f x ≡ 1
unfolding power_from choose
power_from_end zero x h = refl
power_from_end (suc f) x h = rw (lt-ltb x 2 h) refl

-- the power between which and its double x lies is reached in as many steps as its exponent says
power_from_is : (f k x : ℕ) → k ≤ f → 2 ^ k ≤ x → x < 2 ^ suc k → power_from f x ≡ 2 ^ k
power_from_is f zero x h l u = power_from_end f x (omega arith)
power_from_is zero (suc k) x h l u = absurd (omega arith)
power_from_is (suc f) (suc k) x h l u =
    let p = pow_pos k in
    let e = power_from_is f k (x / 2) (omega arith) (omega arith) (omega arith) in
    power_from_next f x (omega arith) ∙ omega arith

-- the power between which and its double x lies is the power of x
pub power_unique : (k x : ℕ) → 2 ^ k ≤ x → x < 2 ^ suc k → power x ≡ 2 ^ k
unfolding power
power_unique k x l u = let h = below_power k in power_from_is x k x (omega arith) l u

-- the power of x is a power of two, not above x, and its double is above x
pub power_at : (x : ℕ) → 0 < x → (k : ℕ) × (power x ≡ 2 ^ k) × (power x ≤ x) × (x < 2 * power x)
power_at x h =
    let (k, _, l, u) = leading_top x x h (below_power x) in
    let e : power x ≡ 2 ^ k = power_unique k x l u in
    (k, e, omega arith, omega arith)

-- a power of two that is not above x is not above the power of x
pub power_largest : (j x : ℕ) → 2 ^ j ≤ x → 2 ^ j ≤ power x
power_largest j x h =
    let p = pow_pos j in
    let (k, e, l, u) = power_at x (omega arith) in
    let i : j < suc k = exponent_below j (suc k) (omega arith) in
    let m : 2 ^ j ≤ 2 ^ k = pow_mono (omega arith) in
    omega arith

-- below 2 the power is 1
pub power_end : (x : ℕ) → x < 2 → power x ≡ 1
unfolding power
power_end x h = power_from_end x x h

-- a power of two is its own power
pub power_of_power : (k : ℕ) → power (2 ^ k) ≡ 2 ^ k
power_of_power k = let p = pow_pos k in power_unique k (2 ^ k) (omega arith) (omega arith)

-- ---- the halves of a tree

-- a tree of more than one entry splits at a power of two below its width, with no more to the right
-- than to the left
pub split_at_lem : (width : ℕ) → 1 < width → (k : ℕ) × (split_at width ≡ 2 ^ k) × (split_at width < width) × (width ≤ 2 * split_at width)
unfolding split_at
split_at_lem width h =
    let (k, e, l, u) = power_at (width - 1) (omega arith) in
    (k, e, omega arith, omega arith)

-- no larger power of two is below its width
pub split_largest : (j width : ℕ) → 2 ^ j < width → 2 ^ j ≤ split_at width
unfolding split_at
split_largest j width h = power_largest j (width - 1) (omega arith)

-- the power of two that is below the width while its double is not is where the tree splits
pub split_unique : (k width : ℕ) → 2 ^ k < width → width ≤ 2 ^ suc k → split_at width ≡ 2 ^ k
unfolding split_at
split_unique k width l u = power_unique k (width - 1) (omega arith) (omega arith)

-- a full tree splits in the middle
pub split_full : (k : ℕ) → split_at (2 ^ suc k) ≡ 2 ^ k
split_full k = let p = pow_pos k in split_unique k (2 ^ suc k) (omega arith) (omega arith)

-- the left half is as wide as the split says, and starts where the whole does
pub left_half_lem : (r : Range) → ((left_half r).start ≡ r.start) × ((left_half r).width ≡ split_at r.width)
unfolding left_half
left_half_lem r = (refl, refl)

-- the right half starts where the left one ends, and both together are as wide as the whole
pub halves_meet : (r : Range) → 1 < r.width
    → ((right_half r).start ≡ (left_half r).start + (left_half r).width) × ((left_half r).width + (right_half r).width ≡ r.width)
unfolding left_half right_half
halves_meet r h = let (k, e, l, u) = split_at_lem r.width h in (refl, omega arith)

-- neither half is empty
pub halves_filled : (r : Range) → 1 < r.width → (0 < (left_half r).width) × (0 < (right_half r).width)
unfolding left_half right_half
halves_filled r h =
    let (k, e, l, u) = split_at_lem r.width h in
    let p = pow_pos k in
    omega arith
