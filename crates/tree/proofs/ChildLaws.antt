-- The search tree of a log (specs/SearchTree.antt): the root, and the children of an entry.
use mathlib.Core.Path.{◌≡◌, refl, sym}
use Prim.Native.Nat.{ℕ, zero, suc, ◌+◌, ◌-◌, ◌*◌, ◌^◌, ◌≤◌, ◌<◌}
use native.Mathlib.Omega.{arith}
use borrow.Author.Tests.{lt-ltb, le-ltb}
use Rattle.lists.specs.Choice.{choose}
use Rattle.tree.specs.SearchTree.{power, left_step, move_within, root, left, right}
use Rattle.tree.proofs.PowerLaws.{power_unique, power_end}
use Rattle.tree.proofs.StepLaws.{node, level_node, left_step_lem, right_step_lem}

-- ---- steps left until below n

-- A number below n stays.
pub move_stay : (f n x : ℕ) → x < n → move_within f n x ≡ x
unfolding move_within choose
move_stay zero n x h = refl
move_stay (suc f) n x h = rw (lt-ltb x n h)

-- A number not below n steps left.
pub move_left : (f n x : ℕ) → n ≤ x → move_within (suc f) n x ≡ move_within f n (left_step x)
unfolding move_within choose
move_left f n x h = rw (le-ltb x n h)

-- ---- root and children

-- The root is the node of the highest digit of n.
pub root_highest : (k n : ℕ) → 2 ^ k ≤ n → n < 2 ^ suc k → root n ≡ 2 ^ k - 1
unfolding root
root_highest k n l h = rw (power_unique k n l h)

-- The root of a log is the power of its size, less one.
pub root_power : (n p : ℕ) → p ≡ power n → p - 1 ≡ root n
unfolding root
root_power n p e = rw e

-- An empty log has the root 0.
pub root_empty : (n : ℕ) → n ≡ 0 → 0 ≡ root n
root_empty n e = root_power n 1 (sym (power_end n (omega arith)))

-- The left child of a node is the node of its left half, moved left to below n.
pub left_moved : (n k q : ℕ) → left n (node (suc k) q) ≡ move_within (suc k) n (node k (2 * q))
unfolding left
left_moved n k q = rw (level_node (suc k) q, left_step_lem k q)

-- The right child of a node is the node of its right half, moved left to below n.
pub right_node : (n k q : ℕ) → right n (node (suc k) q) ≡ move_within (suc k) n (node k (2 * q + 1))
unfolding right
right_node n k q = rw (level_node (suc k) q, right_step_lem k q)
