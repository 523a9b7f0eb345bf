-- The right path of an entry, as the nodes above it that hold it.
use mathlib.Core.Path.{◌≡◌, refl, sym, ap, ◌∙◌}
use mathlib.Core.Bool.{Bool, true, false, ◌&&◌}
use mathlib.Core.Logic.{◌⊎◌, inl, inr}
use mathlib.Core.List.Memᴰ
use mathlib.Core.List.{List, [], ◌∷◌, ◌++◌, reverse, reverse-cons, Memᴰ}
use Prim.Native.Nat.{ℕ, zero, suc, ◌+◌, ◌-◌, ◌*◌, ◌/◌, ◌%◌, ◌^◌, ◌≤◌, ◌<◌}
use native.Mathlib.Nat.{pow-succ', div-eq_of_lt, div-eq_of_lt-le}
use native.Mathlib.Omega.{arith}
use lib.Dec.{ltb}
use lib.ListN.{length, length-append}
use lib.Pow.{pow_pos}
use borrow.Author.Tests.{eq-eqb, ne_eqb, lt-ltb, le-ltb}
use Rattle.lists.specs.Choice.{choose}
use Rattle.lists.specs.Lists.{select, last_or, rising}
use Rattle.tree.specs.SearchTree.{move_within, left, right, frontier, down_to, direct_path, right_ancestors}
use Rattle.tree.proofs.PowerLaws.{below_power}
use Rattle.tree.proofs.DigitLaws.{halved, cut_set, cut_clear, cut_bounds, by_digit, by_order}
use Rattle.tree.proofs.StepLaws.{node, left_step_lem}
use Rattle.lists.proofs.ListLaws.{rising_snoc, last_snoc}
use Rattle.tree.proofs.ChildLaws.{move_stay, move_left, root_highest, left_moved, right_node}
use Rattle.tree.proofs.FrontierLaws.{Digit, frontier_has}

-- ---- right paths

-- the node of level k that holds p: in place of p's k + 1 low digits stand a 0 and k ones
abbrev pub ancestor : ℕ → ℕ → ℕ
ancestor k p = node k (p / 2 ^ suc k)

-- the last of the 2 ^ k entries that p stands among: p with its k low digits replaced by ones
abbrev pub block_end : ℕ → ℕ → ℕ
block_end k p = p / 2 ^ k * 2 ^ k + (2 ^ k - 1)

-- p is not above the end of its block.
pub end_above : (k p : ℕ) → p ≤ block_end k p
end_above k p = let (l, h) = cut_bounds p k in omega arith

-- At a clear digit the node is the last entry of p's block, and the larger block ends later.
pub clear_digit : (k p : ℕ) → p / 2 ^ k % 2 ≡ 0 → (ancestor k p ≡ block_end k p) × (block_end (suc k) p ≡ block_end k p + 2 ^ k)
clear_digit k p z = let c = cut_clear p k z in let e = pow-succ' 2 k in let h = pow_pos k in (omega arith, omega arith)

-- At a set digit the node is below p, and the larger block ends with the same entry.
pub set_digit : (k p : ℕ) → p / 2 ^ k % 2 ≡ 1 → (ancestor k p < p) × (block_end (suc k) p ≡ block_end k p)
set_digit k p z = let c = cut_set p k z in let e = pow-succ' 2 k in let h = pow_pos k in let (l, u) = cut_bounds p k in (omega arith, omega arith)

-- the nodes above p of levels below k that hold p and are below n, rising
unfoldable pub path_to : ℕ → ℕ → ℕ → List ℕ
path_to zero n p = []
path_to (suc k) n p = choose (ltb p (ancestor k p) && ltb (ancestor k p) n) (λ _. path_to k n p ++ ancestor k p ∷ []) (λ _. path_to k n p)

-- There is no node of a level below 0.
pub path_zero : (n p : ℕ) → path_to 0 n p ≡ []
unfolding path_to
path_zero n p = refl

-- A node above p and below n is last on the path up to it.
pub path_more : (k n p : ℕ) → p < ancestor k p → ancestor k p < n → path_to (suc k) n p ≡ path_to k n p ++ ancestor k p ∷ []
unfolding path_to choose
path_more k n p h l = rw (lt-ltb p (ancestor k p) h, lt-ltb (ancestor k p) n l)

-- A node not above p is left out.
pub path_low : (k n p : ℕ) → ancestor k p ≤ p → path_to (suc k) n p ≡ path_to k n p
unfolding path_to choose
path_low k n p h = rw (le-ltb p (ancestor k p) h)

-- A node not below n is left out.
pub path_high : (k n p : ℕ) → n ≤ ancestor k p → path_to (suc k) n p ≡ path_to k n p
unfolding path_to choose
path_high k n p h = go (ltb p (ancestor k p))
  where
    go : (b : Bool) → choose (b && ltb (ancestor k p) n) (λ _. path_to k n p ++ ancestor k p ∷ []) (λ _. path_to k n p) ≡ path_to k n p
    go true = rw (le-ltb (ancestor k p) n h)
    go false = refl

-- No node of the levels below k is above p where p ends its block.
path_none : (k n p : ℕ) → block_end k p ≡ p → path_to k n p ≡ []
path_none zero n p e = path_zero n p
path_none (suc k) n p e = by_digit (p / 2 ^ k)
    (λ z. absurd (omega (arith, clear_digit k p z, end_above k p, pow_pos k)))
    (λ z. let (l, s) = set_digit k p z in path_low k n p (omega arith) ∙ path_none k n p (omega arith))

-- The path of an entry that is not in the log is empty.
path_past : (k n p : ℕ) → n ≤ p → path_to k n p ≡ []
path_past zero n p h = path_zero n p
path_past (suc k) n p h = by_order p (ancestor k p) (λ a. path_high k n p (omega arith)) (λ a. path_low k n p a) ∙ path_past k n p h

-- ---- the way down to p

-- The way down ends at p.
down_here : (f n p x : ℕ) → x ≡ p → down_to (suc f) n p x ≡ []
unfolding down_to choose
down_here f n p x e = rw (eq-eqb x p e)

-- From a node above p the way down goes left.
down_left : (f n p x : ℕ) → p < x → down_to (suc f) n p x ≡ x ∷ down_to f n p (left n x)
unfolding down_to choose
down_left f n p x h = rw (ne_eqb x p (λ z. omega arith), lt-ltb p x h)

-- From a node below p the way down goes right.
down_right : (f n p x : ℕ) → x < p → down_to (suc f) n p x ≡ x ∷ down_to f n p (right n x)
unfolding down_to choose
down_right f n p x h = rw (ne_eqb x p (λ z. omega arith), le-ltb p x (omega arith))

-- those above p, in the order turned round
abbrev risen : ℕ → List ℕ → List ℕ
risen p l = reverse (select (λ (x : ℕ). ltb p x) l)

-- A first one above p comes last.
risen_keep : (p x : ℕ) (l : List ℕ) → p < x → risen p (x ∷ l) ≡ risen p l ++ x ∷ []
unfolding select choose
risen_keep p x l h = rw (lt-ltb p x h) (reverse-cons x (select (λ (x : ℕ). ltb p x) l))

-- A first one not above p is left out.
risen_drop : (p x : ℕ) (l : List ℕ) → x ≤ p → risen p (x ∷ l) ≡ risen p l
unfolding select choose
risen_drop p x l h = rw (le-ltb p x h)

-- Of none, none.
risen_nil : (p : ℕ) → risen p [] ≡ []
unfolding select
risen_nil p = refl

-- The way ends where the node is p, and p then has no node of a lower level above it.
path_here : (k f g n p : ℕ) → p < n → ancestor k p ≡ p → block_end k p ≡ p → risen p (down_to (suc f) n p (move_within g n (ancestor k p))) ≡ path_to (suc k) n p
path_here k f g n p h e u =
    rw (move_stay g n (ancestor k p) (omega arith), down_here f n p (ancestor k p) e) (risen_nil p ∙ sym (path_low k n p (omega arith) ∙ path_none k n p u))

-- From the node of level k that holds p, moved left to below n, the way down to p goes through the
-- nodes that hold p; those above p are its path.
path_from : (k f g n p : ℕ) → k < f → k ≤ g → p < n → p < block_end (suc k) p → risen p (down_to f n p (move_within g n (ancestor k p))) ≡ path_to (suc k) n p
path_from k zero g n p b c h u = absurd (omega arith)
path_from zero (suc f) g n p b c h u = path_here 0 f g n p h (omega arith) (omega arith)
path_from (suc k) (suc f) g n p b c h u = by_digit (p / 2 ^ suc k)
    (λ z. by_order p (ancestor (suc k) p)
    (λ above. by_order (ancestor (suc k) p) n
    (λ inside. keep z above inside (path_from k f (suc k) n p (omega arith) (omega arith) h (omega (arith, clear_digit (suc k) p z))))
    (λ outside. skip g c z outside (λ g' c'. path_from k (suc f) g' n p (omega arith) c' h (omega (arith, clear_digit (suc k) p z)))))
    (λ here. let (e, l) = clear_digit (suc k) p z in let t = end_above (suc k) p in path_here (suc k) f g n p h (omega arith) (omega arith)))
    (λ z. pass z (path_from k f (suc k) n p (omega arith) (omega arith) h (omega (arith, set_digit (suc k) p z))))
  where
    a : ℕ
    a = ancestor (suc k) p

    q : ℕ
    q = p / 2 ^ suc (suc k)

    below : List ℕ
    below = down_to f n p (move_within (suc k) n (ancestor k p))

    keep : p / 2 ^ suc k % 2 ≡ 0 → p < a → a < n → risen p below ≡ path_to (suc k) n p
        → risen p (down_to (suc f) n p (move_within g n a)) ≡ path_to (suc (suc k)) n p
    keep z above inside rest =
        let e : 2 * q ≡ p / 2 ^ suc k = omega (arith, halved p (suc k)) in
        let d : left n a ≡ move_within (suc k) n (ancestor k p) = left_moved n k q ∙ ap (λ (x : ℕ). move_within (suc k) n (node k x)) e in
        rw (move_stay g n a inside, down_left f n p a above, d, risen_keep p a below above, rest) (sym (path_more (suc k) n p above inside))

    skip : (g : ℕ) → suc k ≤ g → p / 2 ^ suc k % 2 ≡ 0 → n ≤ a
        → ((g : ℕ) → k ≤ g → risen p (down_to (suc f) n p (move_within g n (ancestor k p))) ≡ path_to (suc k) n p)
        → risen p (down_to (suc f) n p (move_within g n a)) ≡ path_to (suc (suc k)) n p
    skip zero c z outside rest = absurd (omega arith)
    skip (suc g) c z outside rest =
        let e : 2 * q ≡ p / 2 ^ suc k = omega (arith, halved p (suc k)) in
        let d : move_within (suc g) n a ≡ move_within g n (ancestor k p) = move_left g n a outside ∙ ap (move_within g n) (left_step_lem k q ∙ ap (node k) e) in
        rw d (rest g (omega arith) ∙ sym (path_high (suc k) n p outside))

    pass : p / 2 ^ suc k % 2 ≡ 1 → risen p below ≡ path_to (suc k) n p
        → risen p (down_to (suc f) n p (move_within g n a)) ≡ path_to (suc (suc k)) n p
    pass z rest =
        let l : a < p = (set_digit (suc k) p z).0 in
        let e : 2 * q + 1 ≡ p / 2 ^ suc k = omega (arith, halved p (suc k)) in
        let d : right n a ≡ move_within (suc k) n (ancestor k p) = right_node n k q ∙ ap (λ (x : ℕ). move_within (suc k) n (node k x)) e in
        rw (move_stay g n a (omega arith), down_right f n p a l, d, risen_drop p a below (omega arith), rest) (sym (path_low (suc k) n p (omega arith)))

-- ---- the right path

-- An entry that is not in the log has no right path.
pub right_ancestors_none : (n p : ℕ) → n ≤ p → right_ancestors n p ≡ []
unfolding right_ancestors direct_path choose select
right_ancestors_none n p h = rw (le-ltb p n h)

-- The way down begins at the root.
path_root : (k n p : ℕ) → 2 ^ k ≤ n → n < 2 ^ suc k → p < n → right_ancestors n p ≡ risen p (down_to n n p (2 ^ k - 1))
unfolding right_ancestors direct_path choose
path_root k n p l h u = rw (lt-ltb p n u, root_highest k n l h)

-- The right path of p is the list of the nodes above p that hold p and are below n, from the lowest
-- level up.
pub right_ancestors_digits : (k n p : ℕ) → n < 2 ^ k → right_ancestors n p ≡ path_to k n p
right_ancestors_digits zero n p h = right_ancestors_none n p (omega arith) ∙ sym (path_zero n p)
right_ancestors_digits (suc k) n p h = by_order n (2 ^ k)
    (λ a. right_ancestors_digits k n p a ∙ sym (path_high k n p (omega arith)))
    (λ a. by_order p n (λ u. top a u) (λ u. right_ancestors_none n p u ∙ sym (path_past (suc k) n p u)))
  where
    top : 2 ^ k ≤ n → p < n → right_ancestors n p ≡ path_to (suc k) n p
    top a u =
        let z : p / 2 ^ suc k ≡ 0 = div-eq_of_lt (omega arith) in
        let w = pow_pos k in
        let b = below_power k in
        let x : ancestor k p ≡ 2 ^ k - 1 = rw z (omega arith) in
        let e : move_within n n (ancestor k p) ≡ 2 ^ k - 1 = move_stay n n (ancestor k p) (omega arith) ∙ x in
        path_root k n p a h u ∙ ap (λ (y : ℕ). risen p (down_to n n p y)) (sym e) ∙ path_from k n n n p (omega arith) (omega arith) u (rw z (omega arith))

-- ---- what follows for the right path

-- a node above p that holds p and is below n, with its level
pub record Above (n p a : ℕ) : Type 0 where
  pub at : ℕ
  pub is : a ≡ ancestor at p
  pub above : p < a
  pub within : a < n

-- The path to the next level has one node more, or is the same.
by_step : {A : Type 0} (k n p : ℕ) → (p < ancestor k p → ancestor k p < n → A) → (path_to (suc k) n p ≡ path_to k n p → A) → A
by_step k n p more same = by_order p (ancestor k p) (λ u. by_order (ancestor k p) n (more u) (λ v. same (path_high k n p v))) (λ u. same (path_low k n p u))

-- The digit at which a node is above p is clear.
pub above_clear : (k p : ℕ) → p < ancestor k p → p / 2 ^ k % 2 ≡ 0
above_clear k p h = by_digit (p / 2 ^ k) (λ z. z) (λ z. absurd (omega (arith, set_digit k p z)))

-- The block of twice as many entries ends no earlier.
pub end_rises : (k p : ℕ) → block_end k p ≤ block_end (suc k) p
end_rises k p = by_digit (p / 2 ^ k) (λ z. omega (arith, clear_digit k p z)) (λ z. omega (arith, set_digit k p z))

-- Each node above p that holds p, below n and of a level below k, is on the path.
path_member : (k n p j : ℕ) → j < k → p < ancestor j p → ancestor j p < n → Memᴰ (ancestor j p) (path_to k n p)
path_member zero n p j b h l = absurd (omega arith)
path_member (suc k) n p j b h l = by_order j k
    (λ c. let m = path_member k n p j c h l in by_step k n p (λ u v. rw (path_more k n p u v) (Memᴰ.append_left (ancestor k p ∷ []) m)) (λ e. rw e m))
    (λ c.
    let e : j ≡ k = omega arith in
    rw (path_more k n p (rw e at h) (rw e at l)) (Memᴰ.append_right (path_to k n p) (Memᴰ.head (ap (λ (i : ℕ). ancestor i p) e))))

-- The nodes of the path are such nodes, and are below the last entry of p's block.
path_only : (k n p a : ℕ) → Memᴰ a (path_to k n p) → Above n p a × (a < block_end k p)
path_only zero n p a m = absurd (Memᴰ.not-nil (rw (path_zero n p) at m))
path_only (suc k) n p a m = by_step k n p
    (λ u v. more u v (λ t. path_only k n p a t) (Memᴰ.append_cases (path_to k n p) (rw (path_more k n p u v) at m)))
    (λ e. let (d, l) = path_only k n p a (rw e at m) in (d, omega (arith, end_rises k p)))
  where
    more : p < ancestor k p → ancestor k p < n → (Memᴰ a (path_to k n p) → Above n p a × (a < block_end k p))
        → Memᴰ a (path_to k n p) ⊎ Memᴰ a (ancestor k p ∷ []) → Above n p a × (a < block_end (suc k) p)
    more u v ih (inl t) = let (d, l) = ih t in (d, omega (arith, end_rises k p))
    more u v ih (inr t) =
        let e : a ≡ ancestor k p = Memᴰ.eq_of_singleton t in
        (record { at = k; is = e; above = omega arith; within = omega arith }, omega (arith, clear_digit k p (above_clear k p u), pow_pos k))

-- Each node above p that holds p and is below n is on the right path of p.
pub right_ancestors_has : (n p k : ℕ) → p < ancestor k p → ancestor k p < n → Memᴰ (ancestor k p) (right_ancestors n p)
right_ancestors_has n p k h l = rw (right_ancestors_digits n n p (below_power n)) (path_member n n p k (omega (arith, below_power k)) h l)

-- Each entry of the right path of p is such a node.
pub right_ancestors_only : (n p a : ℕ) → Memᴰ a (right_ancestors n p) → Above n p a
right_ancestors_only n p a m = (path_only n n p a (rw (right_ancestors_digits n n p (below_power n)) at m)).0

-- The path rises, since each node is below the end of the next block.
path_rising : (k n p : ℕ) → rising (path_to k n p) ≡ true
unfolding rising
path_rising zero n p = rw (path_zero n p)
path_rising (suc k) n p = by_step k n p
    (λ u v. rw (path_more k n p u v) (rising_snoc (path_to k n p) (ancestor k p)
    (λ y m. omega (arith, (path_only k n p y m).1, clear_digit k p (above_clear k p u))) (path_rising k n p)))
    (λ e. rw e (path_rising k n p))

-- The right path rises.
pub right_ancestors_rising : (n p : ℕ) → rising (right_ancestors n p) ≡ true
right_ancestors_rising n p = rw (right_ancestors_digits n n p (below_power n)) (path_rising n n p)

-- The path has at most one node of each level.
path_length : (k n p : ℕ) → length (path_to k n p) ≤ k
path_length zero n p = rw (path_zero n p) (omega arith)
path_length (suc k) n p =
    let h = path_length k n p in
    by_step k n p (λ u v. rw (path_more k n p u v, length-append (path_to k n p) (ancestor k p ∷ [])) (omega arith)) (λ e. rw e (omega arith))

-- The right path has no more entries than n has digits.
pub right_ancestors_length : (k n p : ℕ) → n < 2 ^ k → length (right_ancestors n p) ≤ k
right_ancestors_length k n p h = rw (right_ancestors_digits k n p h) (path_length k n p)

-- ---- the end of the right path

-- The last entry of p's block is on the frontier where the next larger block is not within the log.
end_digit : (k n p : ℕ) → p / 2 ^ k % 2 ≡ 0 → block_end k p < n → n ≤ block_end k p + 2 ^ k → Digit n (block_end k p)
end_digit k n p z l h =
    let c : ℕ = p / 2 ^ k in
    let w = pow_pos k in
    let e : n / 2 ^ k ≡ c + 1 = div-eq_of_lt-le (2 ^ k) (omega arith) (omega arith) in
    record { place = k; set = rw e (omega arith); is = rw e (omega arith) }

-- what is known of the last node x on the path up to level k: it is on the frontier where p's block
-- reaches n; else it is still p, unless the block ends after p
abbrev Ends : ℕ → ℕ → ℕ → ℕ → Type 0
Ends k n p x = ((n ≤ block_end k p) × Digit n x) ⊎ ((block_end k p < n) × ((x ≡ p) ⊎ (p < block_end k p)))

-- What is known of the last node is known one level up: a clear digit puts the end of p's block on
-- the path, which is on the frontier if the next block reaches n.
end_step : (k n p : ℕ) → Ends k n p (last_or p (path_to k n p)) → Ends (suc k) n p (last_or p (path_to (suc k) n p))
end_step k n p (inl (o, d)) =
    let same : path_to (suc k) n p ≡ path_to k n p = by_step k n p (λ u v. absurd (omega (arith, clear_digit k p (above_clear k p u)))) (λ e. e) in
    rw same (inl (omega (arith, end_rises k p), d))
end_step k n p (inr (i, c)) = by_digit (p / 2 ^ k) clear (λ z. let (l, e) = set_digit k p z in rw (path_low k n p (omega arith)) (inr (omega arith, onward e c)))
  where
    onward : block_end (suc k) p ≡ block_end k p → (last_or p (path_to k n p) ≡ p) ⊎ (p < block_end k p) → (last_or p (path_to k n p) ≡ p) ⊎ (p < block_end (suc k) p)
    onward e (inl a) = inl a
    onward e (inr a) = inr (omega arith)

    still : block_end k p ≡ p → (last_or p (path_to k n p) ≡ p) ⊎ (p < block_end k p) → last_or p (path_to k n p) ≡ block_end k p
    still e (inl a) = a ∙ sym e
    still e (inr a) = absurd (omega arith)

    clear : p / 2 ^ k % 2 ≡ 0 → Ends (suc k) n p (last_or p (path_to (suc k) n p))
    clear z =
        let (a, e) = clear_digit k p z in
        let w = pow_pos k in
        let b = end_above k p in
        let x : last_or p (path_to (suc k) n p) ≡ block_end k p =
        by_order p (ancestor k p)
        (λ u. rw (path_more k n p u (omega arith)) (last_snoc p (ancestor k p) (path_to k n p) ∙ a))
        (λ u. rw (path_low k n p u) (still (omega arith) c)) in
        rw x (by_order (block_end (suc k) p) n (λ l. inr (l, inr (omega arith))) (λ l. inl (l, end_digit k n p z i (omega arith))))

-- So it is known at each level.
path_end : (k n p : ℕ) → p < n → Ends k n p (last_or p (path_to k n p))
unfolding last_or
path_end zero n p h = rw (path_zero n p) (inr (omega arith, inl refl))
path_end (suc k) n p h = end_step k n p (path_end k n p h)

-- The end of p's right path, or p where that is empty, is on the frontier.
pub right_ancestors_end : (n p : ℕ) → p < n → Memᴰ (last_or p (right_ancestors n p)) (frontier n)
right_ancestors_end n p h = rw (right_ancestors_digits n n p (below_power n)) (go (path_end n n p h))
  where
    x : ℕ
    x = last_or p (path_to n n p)

    go : Ends n n p x → Memᴰ x (frontier n)
    go (inl (o, d)) = rw d.is (frontier_has n d.place d.set)
    go (inr (i, c)) =
        let b = below_power n in
        let z : p / 2 ^ n ≡ 0 = div-eq_of_lt (omega arith) in
        let j : 0 * 2 ^ n + (2 ^ n - 1) < n = rw z at i in
        absurd (omega arith)
