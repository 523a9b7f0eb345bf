-- The search tree over the entries of a log (paper 01, Trees; 004, 4.3.1, with start 0): its root,
-- the steps left and right, the frontier and the right paths.
use Rattle.std.specs.Prelude.{List, [], ◌∷◌, reverse, ℕ, zero, suc, ◌+◌, ◌-◌, ◌*◌, ◌/◌, ◌%◌, ◌^◌, eqb, leb, ltb}
use Rattle.std.proofs.Math.Option.{get_or}
use Rattle.std.specs.Int.Bits.{bit_xor}
use Rattle.lists.specs.Choice.{choose}
use Rattle.lists.specs.Lists.{select, first, insert_all}

-- ---- powers of two

unfoldable pub power_from : ℕ → ℕ → ℕ
power_from zero x = 1
power_from (suc k) x = choose (ltb x 2) (λ _. 1) (λ _. 2 * power_from k (x / 2))

-- the largest power of two not above x, for x from 1 on
unfoldable pub power : ℕ → ℕ
power x = power_from x x

-- ---- steps

unfoldable pub level_from : ℕ → ℕ → ℕ
level_from zero x = 0
level_from (suc k) x = choose (eqb (x % 2) 1) (λ _. suc (level_from k (x / 2))) (λ _. 0)

-- the level of an entry: the ones at the low end of its number
unfoldable pub level : ℕ → ℕ
level x = level_from x x

unfoldable pub left_step : ℕ → ℕ
left_step x = bit_xor x (1 * 2 ^ (level x - 1))

unfoldable pub right_step : ℕ → ℕ
right_step x = bit_xor x (3 * 2 ^ (level x - 1))

-- steps left until below n
unfoldable pub move_within : ℕ → ℕ → ℕ → ℕ
move_within zero n x = x
move_within (suc k) n x = choose (ltb x n) (λ _. x) (λ _. move_within k n (left_step x))

-- the root of a log of n entries, the left child and the right child of an entry x that has one
unfoldable pub root : ℕ → ℕ
root n = power n - 1

unfoldable pub left : ℕ → ℕ → ℕ
left n x = move_within (level x) n (left_step x)

unfoldable pub right : ℕ → ℕ → ℕ
right n x = move_within (level x) n (right_step x)

-- ---- frontier and right paths

unfoldable pub rightward : ℕ → ℕ → ℕ → List ℕ
rightward zero n x = []
rightward (suc k) n x = x ∷ choose (ltb (x + 1) n) (λ _. rightward k n (right n x)) (λ _. [])

-- right from the root, and right again, as far as n - 1
unfoldable pub frontier : ℕ → List ℕ
frontier n = rightward n n (root n)

-- the most entries that the frontier of a log of fewer than 2 ^ 64 entries has
abbrev pub frontier_capacity : ℕ
frontier_capacity = 64

unfoldable pub down_to : ℕ → ℕ → ℕ → ℕ → List ℕ
down_to zero n p x = []
down_to (suc k) n p x =
    choose (eqb x p) (λ _. []) (λ _. x ∷ down_to k n p (choose (ltb p x) (λ _. left n x) (λ _. right n x)))

-- the ancestors of the entry p in a log of n entries, from the root down; none where p is not below
-- n
unfoldable pub direct_path : ℕ → ℕ → List ℕ
direct_path n p = choose (ltb p n) (λ _. down_to n n p (root n)) (λ _. [])

-- the right path of p: its ancestors above p, rising
unfoldable pub right_ancestors : ℕ → ℕ → List ℕ
right_ancestors n p = reverse (select (λ (x : ℕ). ltb p x) (direct_path n p))

-- ---- entries together

-- the frontier and the right paths of some entries, rising, each once
unfoldable pub frontier_and_paths : ℕ → List ℕ → List ℕ
frontier_and_paths n [] = frontier n
frontier_and_paths n (p ∷ ps) = insert_all (right_ancestors n p) (frontier_and_paths n ps)

-- the next of some entries from x on, or n where none is left
unfoldable pub next_from : ℕ → List ℕ → ℕ → ℕ
next_from n entries x = get_or (first (λ (a : ℕ). leb x a) entries) n
