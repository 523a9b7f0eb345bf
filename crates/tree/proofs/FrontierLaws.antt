-- The frontier of a log, as the set digits of its size.
use mathlib.Core.Path.{◌≡◌, refl, sym, ap, ap₂, ◌∙◌}
use mathlib.Core.Bool.{true}
use mathlib.Core.Logic.{◌⊎◌, inl, inr}
use mathlib.Core.List.Memᴰ
use mathlib.Core.List.{List, [], ◌∷◌, Memᴰ}
use Prim.Native.Nat.{ℕ, zero, suc, ◌+◌, ◌-◌, ◌*◌, ◌/◌, ◌%◌, ◌^◌, ◌≤◌, ◌<◌}
use native.Mathlib.Nat.{div-eq_of_lt}
use native.Mathlib.Omega.{arith}
use lib.Count.{ones, ones_step}
use lib.Dec.{eqb}
use lib.ListN.{length, drop}
use lib.Pow.{pow_pos}
use borrow.Author.Tests.{eq-eqb, ne_eqb, lt-ltb, le-ltb}
use Rattle.lists.specs.Choice.{choose}
use Rattle.lists.specs.Lists.{last_or, rising}
use Rattle.tree.specs.SearchTree.{move_within, root, right, rightward, frontier}
use Rattle.tree.proofs.PowerLaws.{below_power}
use Rattle.tree.proofs.DigitLaws.{halved, cut, cut_set, cut_clear, cut_bounds, by_digit, by_order}
use Rattle.tree.proofs.StepLaws.{node, left_step_lem}
use Rattle.lists.proofs.ListLaws.{rising_cons}
use Rattle.tree.proofs.ChildLaws.{move_stay, move_left, root_highest, right_node}

-- ---- the frontier

-- The way right goes on from a node that is not the last entry.
rightward_more : (f n x : ℕ) → x + 1 < n → rightward (suc f) n x ≡ x ∷ rightward f n (right n x)
unfolding rightward choose
rightward_more f n x h = rw (lt-ltb (x + 1) n h)

-- The way right ends at the last entry.
rightward_end : (f n x : ℕ) → n ≤ x + 1 → rightward (suc f) n x ≡ x ∷ []
unfolding rightward choose
rightward_end f n x h = rw (le-ltb (x + 1) n h)

-- The frontier of a log with entries begins with its root.
pub frontier_first : (n : ℕ) → 0 < n → frontier n ≡ root n ∷ drop 1 (frontier n)
unfolding frontier rightward
frontier_first zero h = absurd (omega arith)
frontier_first (suc k) h = refl

-- for each set digit of n below digit k, from the highest down, n up to that digit, less one
unfoldable pub set_digits : ℕ → ℕ → List ℕ
set_digits zero n = []
set_digits (suc k) n = choose (eqb (n / 2 ^ k % 2) 1) (λ _. (n / 2 ^ k * 2 ^ k - 1) ∷ set_digits k n) (λ _. set_digits k n)

-- There is no digit below digit 0.
pub digits_zero : (n : ℕ) → set_digits 0 n ≡ []
unfolding set_digits
digits_zero n = refl

-- A set digit is first among those up to it.
pub digits_set : (k n : ℕ) → n / 2 ^ k % 2 ≡ 1 → set_digits (suc k) n ≡ (cut n k - 1) ∷ set_digits k n
unfolding set_digits choose
digits_set k n o = rw (eq-eqb (n / 2 ^ k % 2) 1 o)

-- A clear digit is left out.
pub digits_clear : (k n : ℕ) → n / 2 ^ k % 2 ≡ 0 → set_digits (suc k) n ≡ set_digits k n
unfolding set_digits choose
digits_clear k n o = rw (ne_eqb (n / 2 ^ k % 2) 1 (λ z. omega arith))

-- No digit below k is set where n ends in k zeros.
pub digits_none : (k n : ℕ) → cut n k ≡ n → set_digits k n ≡ []
digits_none zero n e = digits_zero n
digits_none (suc k) n e = by_digit (n / 2 ^ k)
    (λ z. digits_clear k n z ∙ digits_none k n (cut_clear n k z ∙ e))
    (λ z. absurd (omega (arith, cut_set n k z, cut_bounds n k, pow_pos k)))

-- A set digit is a node of the way right, and the way goes on through the digits below it.
frontier_set : (k f g n : ℕ) → n / 2 ^ k % 2 ≡ 1 → (cut n k < n → rightward f n (right n (node k (n / 2 ^ suc k))) ≡ set_digits k n)
    → rightward (suc f) n (move_within g n (node k (n / 2 ^ suc k))) ≡ set_digits (suc k) n
frontier_set k f g n o rest =
    let x : ℕ = node k (n / 2 ^ suc k) in
    let p = pow_pos k in
    let (l, h) = cut_bounds n k in
    let c : cut n k ≡ cut n (suc k) + 2 ^ k = cut_set n k o in
    let e : x ≡ cut n k - 1 = omega arith in
    let m : move_within g n x ≡ x = move_stay g n x (omega arith) in
    rw (m, digits_set k n o) (by_order (cut n k) n
    (λ a. rightward_more f n x (omega arith) ∙ ap₂ (λ (y : ℕ) (ys : List ℕ). y ∷ ys) e (rest a))
    (λ a. rightward_end f n x (omega arith) ∙ ap₂ (λ (y : ℕ) (ys : List ℕ). y ∷ ys) e (sym (digits_none k n (omega arith)))))

-- From the node that holds n at level k, moved left to below n, the way right goes through the set
-- digits of n up to k.
frontier_from : (k f g n : ℕ) → k < f → k ≤ g → cut n (suc k) < n → rightward f n (move_within g n (node k (n / 2 ^ suc k))) ≡ set_digits (suc k) n
frontier_from k zero g n b c h = absurd (omega arith)
frontier_from zero (suc f) g n b c h = frontier_set 0 f g n (omega arith) (λ z. absurd (omega arith))
frontier_from (suc k) (suc f) g n b c h = by_digit (n / 2 ^ suc k)
    (λ z. clear g c z (λ g' b'. frontier_from k (suc f) g' n (omega arith) b' (omega (arith, cut_clear n (suc k) z))))
    (λ z. frontier_set (suc k) f g n z (λ a.
    let e : 2 * (n / 2 ^ suc (suc k)) + 1 ≡ n / 2 ^ suc k = omega (arith, halved n (suc k)) in
    rw (right_node n k (n / 2 ^ suc (suc k)), e) (frontier_from k f (suc k) n (omega arith) (omega arith) a)))
  where
    clear : (g : ℕ) → suc k ≤ g → n / 2 ^ suc k % 2 ≡ 0 → ((g : ℕ) → k ≤ g → rightward (suc f) n (move_within g n (node k (n / 2 ^ suc k))) ≡ set_digits (suc k) n)
        → rightward (suc f) n (move_within g n (node (suc k) (n / 2 ^ suc (suc k)))) ≡ set_digits (suc (suc k)) n
    clear zero c z rest = absurd (omega arith)
    clear (suc g) c z rest =
        let e : 2 * (n / 2 ^ suc (suc k)) ≡ n / 2 ^ suc k = omega (arith, halved n (suc k)) in
        let out : n ≤ node (suc k) (n / 2 ^ suc (suc k)) = omega (arith, cut_clear n (suc k) z, cut_bounds n (suc k)) in
        rw (move_left g n (node (suc k) (n / 2 ^ suc (suc k))) out, left_step_lem k (n / 2 ^ suc (suc k)), e, digits_clear (suc k) n z) (rest g (omega arith))

-- The frontier of an empty log is empty.
pub frontier_none : frontier 0 ≡ []
unfolding frontier rightward
frontier_none = refl

-- The frontier begins at the root.
frontier_root : (k n : ℕ) → 2 ^ k ≤ n → n < 2 ^ suc k → frontier n ≡ rightward n n (2 ^ k - 1)
unfolding frontier
frontier_root k n l h = rw (root_highest k n l h)

-- The frontier is the list of the set digits of n, from the highest down: n up to the digit, less
-- one.
pub frontier_digits : (k n : ℕ) → n < 2 ^ k → frontier n ≡ set_digits k n
frontier_digits zero n h = let z : n ≡ 0 = omega arith in ap frontier z ∙ frontier_none ∙ sym (digits_zero n)
frontier_digits (suc k) n h = by_order n (2 ^ k)
    (λ a. frontier_digits k n a ∙ sym (digits_clear k n (rw (div-eq_of_lt a))))
    (λ a.
    let z : n / 2 ^ suc k ≡ 0 = div-eq_of_lt h in
    let p = pow_pos k in
    let b = below_power k in
    let x : node k (n / 2 ^ suc k) ≡ 2 ^ k - 1 = rw z (omega arith) in
    let e : move_within n n (node k (n / 2 ^ suc k)) ≡ 2 ^ k - 1 = move_stay n n (node k (n / 2 ^ suc k)) (omega arith) ∙ x in
    frontier_root k n a h ∙ ap (rightward n n) (sym e) ∙ frontier_from k n n n (omega arith) (omega arith) (rw z (omega arith)))

-- ---- what follows for the frontier

-- The set digits of n below k and those from k on are all its ones.
digits_length : (k n : ℕ) → length (set_digits k n) + ones (n / 2 ^ k) ≡ ones n
digits_length zero n = let z : n / 2 ^ 0 ≡ n = omega arith in rw (digits_zero n, z) (omega arith)
digits_length (suc k) n =
    let s : ones (n / 2 ^ k) ≡ n / 2 ^ k % 2 + ones (n / 2 ^ suc k) = ones_step (n / 2 ^ k) ∙ ap (λ (x : ℕ). n / 2 ^ k % 2 + ones x) (sym (halved n k)) in
    let r = digits_length k n in
    by_digit (n / 2 ^ k) (λ z. rw (digits_clear k n z) (omega arith)) (λ z. rw (digits_set k n z) (omega arith))

-- No digit of 0 is set.
ones_zero : ones 0 ≡ 0
unfolding ones
ones_zero = let s = ones_step 0 in omega arith

-- The frontier has as many entries as n has ones.
pub frontier_length : (n : ℕ) → length (frontier n) ≡ ones n
frontier_length n =
    let z : n / 2 ^ n ≡ 0 = div-eq_of_lt (below_power n) in
    let o : ones (n / 2 ^ n) ≡ 0 = ap ones z ∙ ones_zero in
    rw (frontier_digits n n (below_power n)) (omega (arith, digits_length n n))

-- Each set digit below k is in the list.
digits_member : (k n j : ℕ) → j < k → n / 2 ^ j % 2 ≡ 1 → Memᴰ (cut n j - 1) (set_digits k n)
digits_member zero n j h o = absurd (omega arith)
digits_member (suc k) n j h o = by_order j k
    (λ a. by_digit (n / 2 ^ k) (λ z. rw (digits_clear k n z) (digits_member k n j a o)) (λ z. rw (digits_set k n z) (Memᴰ.tail (digits_member k n j a o))))
    (λ a. let e : j ≡ k = omega arith in rw (digits_set k n (rw e at o)) (Memᴰ.head (ap (λ (i : ℕ). cut n i - 1) e)))

-- an entry of the frontier, with its digit
pub record Digit (n a : ℕ) : Type 0 where
  pub place : ℕ
  pub set : n / 2 ^ place % 2 ≡ 1
  pub is : a ≡ n / 2 ^ place * 2 ^ place - 1

-- Each number in the list has its digit, and is not below n with its k low digits cleared.
digits_only : (k n a : ℕ) → Memᴰ a (set_digits k n) → Digit n a × (cut n k ≤ a)
digits_only zero n a m = absurd (Memᴰ.not-nil (rw (digits_zero n) at m))
digits_only (suc k) n a m = by_digit (n / 2 ^ k)
    (λ z. clear z (digits_only k n a (rw (digits_clear k n z) at m)))
    (λ z. set z (λ t. digits_only k n a t) (Memᴰ.cases_cons (rw (digits_set k n z) at m)))
  where
    clear : n / 2 ^ k % 2 ≡ 0 → Digit n a × (cut n k ≤ a) → Digit n a × (cut n (suc k) ≤ a)
    clear z (d, l) = (d, omega (arith, cut_clear n k z))

    set : n / 2 ^ k % 2 ≡ 1 → (Memᴰ a (set_digits k n) → Digit n a × (cut n k ≤ a))
        → (a ≡ cut n k - 1) ⊎ Memᴰ a (set_digits k n) → Digit n a × (cut n (suc k) ≤ a)
    set z ih (inl e) = (record { place = k; set = z; is = e }, omega (arith, cut_set n k z, pow_pos k))
    set z ih (inr t) = let (d, l) = ih t in (d, omega (arith, cut_set n k z))

-- For each set digit of n, n up to that digit, less one, is on the frontier.
pub frontier_has : (n j : ℕ) → n / 2 ^ j % 2 ≡ 1 → Memᴰ (n / 2 ^ j * 2 ^ j - 1) (frontier n)
frontier_has n j o = by_order j n
    (λ h. rw (frontier_digits n n (below_power n)) (digits_member n n j h o))
    (λ h. absurd (let z : n / 2 ^ j ≡ 0 = div-eq_of_lt (omega (arith, below_power j)) in omega arith))

-- Each entry of the frontier has its set digit.
pub frontier_only : (n a : ℕ) → Memᴰ a (frontier n) → Digit n a
frontier_only n a m = (digits_only n n a (rw (frontier_digits n n (below_power n)) at m)).0

-- The entries of the frontier are below n.
pub frontier_below : (n a : ℕ) → Memᴰ a (frontier n) → a < n
frontier_below n a m = let d = frontier_only n a m in omega (arith, cut_bounds n d.place, cut_set n d.place d.set, pow_pos d.place)

-- The list rises, since each is below n up to its digit.
digits_rising : (k n : ℕ) → rising (set_digits k n) ≡ true
unfolding rising
digits_rising zero n = rw (digits_zero n)
digits_rising (suc k) n = by_digit (n / 2 ^ k)
    (λ z. rw (digits_clear k n z) (digits_rising k n))
    (λ z. rw (digits_set k n z) (rising_cons (cut n k - 1) (set_digits k n)
    (λ y m. omega (arith, (digits_only k n y m).1, cut_set n k z, pow_pos k)) (digits_rising k n)))

-- The frontier rises.
pub frontier_rising : (n : ℕ) → rising (frontier n) ≡ true
frontier_rising n = rw (frontier_digits n n (below_power n)) (digits_rising n n)

-- The last in the list is n - 1.
digits_last : (k n d : ℕ) → cut n k < n → last_or d (set_digits k n) ≡ n - 1
unfolding last_or
digits_last zero n d h = absurd (omega arith)
digits_last (suc k) n d h = by_digit (n / 2 ^ k)
    (λ z. rw (digits_clear k n z) (digits_last k n d (omega (arith, cut_clear n k z))))
    (λ z. rw (digits_set k n z) (by_order (cut n k) n
    (λ a. digits_last k n (cut n k - 1) a)
    (λ a. let (l, u) = cut_bounds n k in rw (digits_none k n (omega arith)) (omega arith))))

-- The last entry of the frontier is the last one of the log.
pub frontier_last : (n d : ℕ) → 0 < n → last_or d (frontier n) ≡ n - 1
frontier_last n d h = rw (frontier_digits n n (below_power n)) (digits_last n n d (rw (div-eq_of_lt (below_power n)) (omega arith)))
