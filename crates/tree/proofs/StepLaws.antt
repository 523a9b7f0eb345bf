-- Each number is a node of the search tree, one of a level and a number in that level; the steps
-- left and right lead to the nodes of its two halves.
use mathlib.Core.Path.{◌≡◌, refl, ap, ◌∙◌}
use Prim.Native.Nat.{ℕ, zero, suc, ◌+◌, ◌-◌, ◌*◌, ◌/◌, ◌%◌, ◌^◌, ◌≤◌, ◌<◌}
use native.Mathlib.Nat.{pow-succ'}
use native.Mathlib.Omega.{arith}
use lib.Arith.{bin_ind}
use lib.Bits.{bit_xor, xor_step, xor_block, xor_zero_r}
use lib.Pow.{pow_pos, high}
use borrow.Author.Tests.{eq-eqb, ne_eqb}
use Rattle.lists.specs.Choice.{choose}
use Rattle.tree.specs.SearchTree.{level_from, level, left_step, right_step}
use Rattle.tree.proofs.PowerLaws.{below_power}

-- the node with number q in level k: q, a 0 and k ones
abbrev pub node : ℕ → ℕ → ℕ
node k q = q * 2 ^ suc k + (2 ^ k - 1)

-- The node of the same number one level up has one more one at its end.
pub node_up : (k q : ℕ) → node (suc k) q ≡ 2 * node k q + 1
node_up k q = let p = pow_pos k in rw (pow-succ' 2 (suc k), pow-succ' 2 k) (omega arith)

-- ---- levels

-- An even number is of level 0.
level_even : (f x : ℕ) → x % 2 ≡ 0 → level_from f x ≡ 0
unfolding level_from choose
level_even zero x e = refl
level_even (suc f) x e = rw (ne_eqb (x % 2) 1 (λ z. omega arith))

-- An odd number is one level above its half.
level_odd : (f x : ℕ) → x % 2 ≡ 1 → level_from (suc f) x ≡ suc (level_from f (x / 2))
unfolding level_from choose
level_odd f x e = rw (eq-eqb (x % 2) 1 e)

-- With fuel enough, `level_from` finds a node's level.
pub level_from_lem : (f k q : ℕ) → k ≤ f → level_from f (node k q) ≡ k
level_from_lem f zero q h = level_even f (node zero q) (omega arith)
level_from_lem zero (suc k) q h = absurd (omega arith)
level_from_lem (suc f) (suc k) q h =
    let e = node_up k q in
    let d : node (suc k) q / 2 ≡ node k q = omega arith in
    level_odd f (node (suc k) q) (omega arith) ∙ ap (λ (x : ℕ). suc (level_from f x)) d ∙ ap suc (level_from_lem f k q (omega arith))

-- The level of a node.
pub level_node : (k q : ℕ) → level (node k q) ≡ k
unfolding level
level_node k q = level_from_lem (node k q) k q (omega (arith, below_power k))

-- The number of a node in its level.
pub number_node : (k q : ℕ) → node k q / 2 ^ suc k ≡ q
number_node k q = high q (suc k) (rw (pow-succ' 2 k) (omega (arith, pow_pos k)))

-- Each number is a node.
node_of : (x : ℕ) → (k : ℕ) × (q : ℕ) × (x ≡ node k q)
node_of = bin_ind (λ (x : ℕ). (k : ℕ) × (q : ℕ) × (x ≡ node k q)) (0, 0, refl) step
  where
    step : (x : ℕ) → (k : ℕ) × (q : ℕ) × (x / 2 ≡ node k q) → (k : ℕ) × (q : ℕ) × (x ≡ node k q)
    step x (k, q, e) = go (x % 2) refl
      where
        go : (c : ℕ) → x % 2 ≡ c → (k : ℕ) × (q : ℕ) × (x ≡ node k q)
        go zero z = (0, x / 2, omega arith)
        go (suc c) z = (suc k, q, rw (node_up k q) (omega arith))

-- Each number is the node of its level and of the digits above that.
pub node_level : (x : ℕ) → x ≡ node (level x) (x / 2 ^ suc (level x))
node_level x =
    let (k, q, e) = node_of x in
    let l : level x ≡ k = ap level e ∙ level_node k q in
    let m : x / 2 ^ suc k ≡ q = ap (λ (y : ℕ). y / 2 ^ suc k) e ∙ number_node k q in
    rw (l, m) e

-- ---- steps

-- XOR of a node of level k + 1 with a number of its two digits above the k low ones.
xor_node : (k q b c : ℕ) → bit_xor (4 * q + 1) b ≡ c → bit_xor (node (suc k) q) (b * 2 ^ (suc k - 1)) ≡ c * 2 ^ k + (2 ^ k - 1)
xor_node k q b c h =
    let p : 2 ^ k - 1 < 2 ^ k = omega (arith, pow_pos k) in
    let e : node (suc k) q ≡ (4 * q + 1) * 2 ^ k + (2 ^ k - 1) = rw (pow-succ' 2 (suc k), pow-succ' 2 k) (omega (arith, pow_pos k)) in
    let z : suc k - 1 ≡ k = omega arith in
    let w : b * 2 ^ k ≡ b * 2 ^ k + 0 = omega arith in
    rw (e, z, w, xor_block k (4 * q + 1) b (2 ^ k - 1) 0 p (pow_pos k), h, xor_zero_r (2 ^ k - 1))

-- A step left leads to the node of the left half.
pub left_step_lem : (k q : ℕ) → left_step (node (suc k) q) ≡ node k (2 * q)
unfolding left_step
left_step_lem k q =
    let a : (4 * q + 1) / 2 ≡ 2 * q = omega arith in
    let b : (4 * q + 1) % 2 ≡ 1 = omega arith in
    let x : bit_xor (4 * q + 1) 1 ≡ 4 * q = xor_step (4 * q + 1) 1 ∙ (rw (a, b, xor_zero_r (2 * q)) (omega arith)) in
    rw (level_node (suc k) q, xor_node k q 1 (4 * q) x, pow-succ' 2 k) (omega arith)

-- A step right leads to the node of the right half.
pub right_step_lem : (k q : ℕ) → right_step (node (suc k) q) ≡ node k (2 * q + 1)
unfolding right_step
right_step_lem k q =
    let a : (4 * q + 1) / 2 ≡ 2 * q = omega arith in
    let b : (4 * q + 1) % 2 ≡ 1 = omega arith in
    let c : 2 * q / 2 ≡ q = omega arith in
    let d : 2 * q % 2 ≡ 0 = omega arith in
    let y : bit_xor (2 * q) 1 ≡ 2 * q + 1 = xor_step (2 * q) 1 ∙ (rw (c, d, xor_zero_r q) (omega arith)) in
    let x : bit_xor (4 * q + 1) 3 ≡ 4 * q + 2 = xor_step (4 * q + 1) 3 ∙ (rw (a, b, y) (omega arith)) in
    rw (level_node (suc k) q, xor_node k q 3 (4 * q + 2) x, pow-succ' 2 k) (omega arith)

-- In numbers: a step left from above level 0 goes back by a power of two.
pub left_step_number : (x : ℕ) → 0 < level x → left_step x ≡ x - 2 ^ (level x - 1)
left_step_number x h = go (level x) (x / 2 ^ suc (level x)) (node_level x) h
  where
    go : (k q : ℕ) → x ≡ node k q → 0 < k → left_step x ≡ x - 2 ^ (k - 1)
    go zero q e p = absurd (omega arith)
    go (suc k) q e p =
        let z : suc k - 1 ≡ k = omega arith in
        rw (e, left_step_lem k q, z, pow-succ' 2 (suc k), pow-succ' 2 k) (omega (arith, pow_pos k))

-- In numbers: a step right from above level 0 goes on by a power of two.
pub right_step_number : (x : ℕ) → 0 < level x → right_step x ≡ x + 2 ^ (level x - 1)
right_step_number x h = go (level x) (x / 2 ^ suc (level x)) (node_level x) h
  where
    go : (k q : ℕ) → x ≡ node k q → 0 < k → right_step x ≡ x + 2 ^ (k - 1)
    go zero q e p = absurd (omega arith)
    go (suc k) q e p =
        let z : suc k - 1 ≡ k = omega arith in
        rw (e, right_step_lem k q, z, pow-succ' 2 (suc k), pow-succ' 2 k) (omega (arith, pow_pos k))
