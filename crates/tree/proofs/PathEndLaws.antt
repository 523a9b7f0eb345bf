-- What comes next on a right path and on the frontier, as a number whose low digits are replaced by
-- ones.
use mathlib.Core.Path.{◌≡◌, refl, sym, ap, ◌∙◌}
use mathlib.Core.Logic.{inl, inr}
use mathlib.Core.List.{List, Memᴰ}
use Prim.Native.Nat.{ℕ, zero, suc, ◌+◌, ◌-◌, ◌*◌, ◌/◌, ◌%◌, ◌^◌, ◌≤◌, ◌<◌}
use native.Mathlib.Nat.{div-eq_of_lt}
use native.Mathlib.Omega.{arith}
use lib.ListN.{drop}
use lib.Pow.{pow_pos}
use Rattle.lists.specs.Lists.{last_or}
use Rattle.lists.proofs.RisingLaws.{last_largest, last_none}
use Rattle.tree.specs.SearchTree.{root, frontier, right_ancestors, next_from}
use Rattle.tree.proofs.PowerLaws.{below_power}
use Rattle.tree.proofs.DigitLaws.{halved, cut, cut_set, cut_clear, cut_bounds, by_digit, by_order}
use Rattle.tree.proofs.FrontierLaws.{frontier_first, frontier_has, frontier_only, frontier_rising}
use Rattle.tree.proofs.AncestorLaws.{ancestor, block_end, end_above, clear_digit, set_digit, end_rises}
use Rattle.tree.proofs.AncestorLaws.{above_clear, right_ancestors_has, right_ancestors_only}
use Rattle.tree.proofs.AncestorLaws.{right_ancestors_rising, right_ancestors_none}
use Rattle.tree.proofs.PartingLaws.{Parting}
use Rattle.tree.proofs.NextLaws.{next_nil, next_first, next_is_lem, next_from_lem}

-- ---- ends of blocks

-- A larger block ends no earlier.
ends_rise : (p j k : ℕ) → j ≤ k → block_end j p ≤ block_end k p
ends_rise p j zero h = let z : j ≡ 0 = omega arith in rw z (omega arith)
ends_rise p j (suc k) h = by_order j (suc k)
    (λ l. let r = ends_rise p j k (omega arith) in omega (arith, end_rises k p))
    (λ l. let z : j ≡ suc k = omega arith in rw z (omega arith))

-- With more digits cleared a number is no larger.
cuts_fall : (n j k : ℕ) → j ≤ k → cut n k ≤ cut n j
cuts_fall n j zero h = let z : j ≡ 0 = omega arith in rw z (omega arith)
cuts_fall n j (suc k) h = by_order j (suc k)
    (λ l.
    let r = cuts_fall n j k (omega arith) in
    by_digit (n / 2 ^ k) (λ z. omega (arith, cut_clear n k z)) (λ z. omega (arith, cut_set n k z)))
    (λ l. let z : j ≡ suc k = omega arith in rw z (omega arith))

-- The end of p's block is p's node at the first clear digit from the block's on.
end_node : (f j p : ℕ) → p ≤ j + f → (k : ℕ) × (ancestor k p ≡ block_end j p)
end_node zero j p h =
    let z : p / 2 ^ j ≡ 0 = div-eq_of_lt (omega (arith, below_power j)) in
    (j, (clear_digit j p (omega arith)).0)
end_node (suc f) j p h = by_digit (p / 2 ^ j)
    (λ z. (j, (clear_digit j p z).0))
    (λ z. let (k, e) = end_node f (suc j) p (omega arith) in (k, e ∙ (set_digit j p z).1))

-- Where p and x part, the block of x ends with the larger block of p, and the block of p ends
-- before x.
part_ends : {p x h : ℕ} → Parting p x h → (block_end h x ≡ block_end (suc h) p) × (block_end h p < x) × (block_end h p < block_end h x) × (x ≤ block_end h x)
part_ends {p} {x} {h} s =
    let (_, e) = clear_digit h p s.clear in
    let c : cut x h ≡ cut p h + 2 ^ h = rw s.next (omega arith) in
    let w = pow_pos h in
    let (l, _) = cut_bounds x h in
    (omega arith, omega arith, omega arith, end_above h x)

-- A node on the right path of p is the end of p's block at its level.
path_node : (n p y : ℕ) → Memᴰ y (right_ancestors n p) → (k : ℕ) × (y ≡ block_end k p) × (p < y) × (y < n)
path_node n p y m =
    let a = right_ancestors_only n p y m in
    let c : p / 2 ^ a.at % 2 ≡ 0 = above_clear a.at p (omega (arith, a.is, a.above)) in
    (a.at, a.is ∙ (clear_digit a.at p c).0, a.above, a.within)

-- ---- right paths

-- From x on, where p and x part, no node on the right path of p is before the end of x's block.
path_from_end : (n p x h : ℕ) → Parting p x h → (y : ℕ) → Memᴰ y (right_ancestors n p) → x ≤ y → block_end h x ≤ y
path_from_end n p x h s y m l =
    let (k, e, _, _) = path_node n p y m in
    let (a, b, _, _) = part_ends s in
    by_order h k
    (λ q. let r = ends_rise p (suc h) k q in omega arith)
    (λ q. let r = ends_rise p k h q in absurd (omega arith))

-- The next on the right path of p from x on is the end of x's block, if that is in the log.
pub ancestor_next : (n p x h : ℕ) → Parting p x h → block_end h x < n → next_from n (right_ancestors n p) x ≡ block_end h x
ancestor_next n p x h s w = next_is_lem n (right_ancestors n p) x (block_end h x) (right_ancestors_rising n p)
    (inl (record { listed = there; from = end_above h x; least = path_from_end n p x h s }))
  where
    there : Memᴰ (block_end h x) (right_ancestors n p)
    there =
        let (a, _, b, _) = part_ends s in
        let u = end_above h p in
        let (k, e) = end_node p (suc h) p (omega arith) in
        rw (a ∙ sym e) (right_ancestors_has n p k (omega arith) (omega arith))

-- Else none is next.
pub ancestor_next_none : (n p x h : ℕ) → Parting p x h → n ≤ block_end h x → next_from n (right_ancestors n p) x ≡ n
ancestor_next_none n p x h s w = next_is_lem n (right_ancestors n p) x n (right_ancestors_rising n p) (inr (λ y m. before y m, refl))
  where
    before : (y : ℕ) → Memᴰ y (right_ancestors n p) → y < x
    before y m = by_order y x (λ q. q) (λ q. absurd (omega (arith, path_from_end n p x h s y m q, path_node n p y m)))

-- None is next on the right path of an entry that is not in the log.
pub ancestor_next_empty : (n p x : ℕ) → n ≤ p → next_from n (right_ancestors n p) x ≡ n
ancestor_next_empty n p x h = ap (λ (l : List ℕ). next_from n l x) (right_ancestors_none n p h) ∙ next_nil n x

-- All of the right path of p is above p.
pub ancestor_next_start : (n p x : ℕ) → x ≤ p → next_from n (right_ancestors n p) x ≡ next_from n (right_ancestors n p) (p + 1)
ancestor_next_start n p x h = next_from_lem n (right_ancestors n p) x (p + 1) (λ y m. let a = right_ancestors_only n p y m in omega (arith, a.above)) (omega arith)

-- The last on the right path of p, or p where that is empty, is the end of p's block where p and n
-- part.
pub ancestor_last : (n p h : ℕ) → Parting p n h → last_or p (right_ancestors n p) ≡ block_end h p
ancestor_last n p h s =
    let (_, b, _, _) = part_ends s in
    by_order p (block_end h p)
    (λ q. last_largest p (block_end h p) (right_ancestors n p) (right_ancestors_rising n p) (there q b) upto)
    (λ q. last_none p (right_ancestors n p) (λ y m. omega (arith, upto y m, path_node n p y m)) ∙ omega (arith, end_above h p))
  where
    upto : (y : ℕ) → Memᴰ y (right_ancestors n p) → y ≤ block_end h p
    upto y m =
        let (k, e, _, w) = path_node n p y m in
        let (a, _, _, l) = part_ends s in
        by_order h k
        (λ q. let r = ends_rise p (suc h) k q in absurd (omega arith))
        (λ q. let r = ends_rise p k h q in omega arith)

    there : p < block_end h p → block_end h p < n → Memᴰ (block_end h p) (right_ancestors n p)
    there q b =
        let (e, _) = clear_digit h p s.clear in
        rw (sym e) (right_ancestors_has n p h (omega arith) (omega arith))

-- The right path of an entry that is not in the log is empty.
pub ancestor_last_empty : (n p : ℕ) → n ≤ p → last_or p (right_ancestors n p) ≡ p
unfolding last_or
ancestor_last_empty n p h = rw (right_ancestors_none n p h)

-- ---- the frontier

-- The next on the frontier from x on, not above the root, is the root.
pub next_root : (n x : ℕ) → 0 < n → x ≤ root n → next_from n (frontier n) x ≡ root n
next_root n x p h = ap (λ (l : List ℕ). next_from n l x) (frontier_first n p) ∙ next_first n (root n) x (drop 1 (frontier n)) h

-- The next on the frontier from x on is the end of x's block where x and n part.
pub frontier_next : (n x h : ℕ) → Parting x n h → next_from n (frontier n) x ≡ block_end h x
frontier_next n x h s = next_is_lem n (frontier n) x (block_end h x) (frontier_rising n)
    (inl (record { listed = rw e (frontier_has n h (omega (arith, s.clear, s.next))); from = end_above h x; least = least }))
  where
    e : block_end h x ≡ n / 2 ^ h * 2 ^ h - 1
    e = let w = pow_pos h in rw s.next (omega arith)

    least : (y : ℕ) → Memᴰ y (frontier n) → x ≤ y → block_end h x ≤ y
    least y m l =
        let d = frontier_only n y m in
        let k : ℕ = d.place in
        let same : n / 2 ^ suc h ≡ x / 2 ^ suc h = omega (arith, halved n h, halved x h, s.clear, s.next) in
        let c : cut n (suc h) ≡ cut x (suc h) = ap (λ (i : ℕ). i * 2 ^ suc h) same in
        by_order h k
        (λ q. let r = cuts_fall n (suc h) k q in absurd (omega (arith, d.is, cut_bounds x (suc h), cut_set n k d.set, pow_pos k)))
        (λ q. let r = cuts_fall n k h q in omega (arith, d.is, e))
