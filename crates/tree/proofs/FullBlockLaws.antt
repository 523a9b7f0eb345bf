-- Which subtrees of the log tree are full subtrees of m entries or hold one, by the digits of m,
-- and where their kept values stand (specs/LogTree.antt).
use mathlib.Core.Path.{◌≡◌, refl, sym, ap, ap₂, ◌∙◌, subst}
use mathlib.Core.Logic.{◌⊎◌, inl, inr}
use mathlib.Core.Bool.{Bool, true, false, ◌&&◌, ◌||◌, false≢true}
use mathlib.Core.List.{List, ◌∷◌, Memᴰ}
use Prim.Native.Nat.{ℕ, suc, ◌+◌, ◌-◌, ◌*◌, ◌/◌, ◌%◌, ◌^◌, ◌≤◌, ◌<◌}
use native.Mathlib.Decide.{dec_lt}
use native.Mathlib.Nat.{add-mul, mul-le-mul_right, pow-succ', div-eq_of_lt, mul-add-div_right}
use native.Mathlib.Numerals.{one-add}
use native.Mathlib.Omega.{arith}
use lib.Count.{ones, ones_cat}
use lib.Dec.{eqb, leb, ltb}
use lib.ListN.{get_or, drop}
use lib.Pow.{pow_pos, pow_mono, pow-add, shl-shr, shr_lt, high}
use lib.Seq.{get_or-drop}
use borrow.Author.Tests.{eq-eqb, eqb-true, lt-ltb, ltb-true, le-leb, leb-true}
use Rattle.lists.specs.Choice.{choose}
use Rattle.lists.specs.Lists.{Bytes}
use Rattle.lists.proofs.ChoiceLaws.{same_test, and_holds, holds_and, or_holds, never_holds}
use Rattle.lists.proofs.ListLaws.{any_at, at_any}
use Rattle.tree.specs.SearchTree.{power}
use Rattle.tree.specs.LogTree.{Range, same_range, holds, full_from, full_subtrees, is_full, holds_full}
use Rattle.tree.specs.LogTree.{zeros, value_among}
use Rattle.tree.proofs.PowerLaws.{below_power, exponent_below, power_at}
use Rattle.tree.proofs.DigitLaws.{cut_bounds, by_order}
use Rattle.tree.proofs.FullLaws.{full_from_by, full_digit, full_form, digit_range, digit_top}
use Rattle.tree.proofs.FullLaws.{digit_below}
use Rattle.tree.specs.LogWalk.{range}
use Rattle.tree.proofs.SubtreeLaws.{block, exponent_most, start_lower}

-- ---- full subtrees

-- Ranges that are the same are equal.
pub same_range_lem : (x y : Range) → same_range x y ≡ true → x ≡ y
unfolding same_range
same_range_lem x y h =
    let (a, b) = and_holds (eqb x.start y.start) (eqb x.width y.width) h in
    ap₂ range (eqb-true x.start y.start a) (eqb-true x.width y.width b)

range_same : (x : Range) → same_range x x ≡ true
unfolding same_range
range_same x = holds_and (eqb x.start x.start) (eqb x.width x.width) (eq-eqb x.start x.start refl) (eq-eqb x.width x.width refl)

-- A full subtree of m is one of the list.
pub full_listed : (m : ℕ) (r : Range) → is_full m r ≡ true → Memᴰ r (full_subtrees m)
unfolding is_full
full_listed m r h = let (x, i, s) = any_at (same_range r) (full_subtrees m) h in subst (λ (y : Range). Memᴰ y (full_subtrees m)) (sym (same_range_lem r x s)) i

pub listed_full : (m : ℕ) (r : Range) → Memᴰ r (full_subtrees m) → is_full m r ≡ true
unfolding is_full
listed_full m r i = at_any (same_range r) (full_subtrees m) r i (range_same r)

-- What starts as a run of 2 ^ e entries does has one number.
number_one : (e q c : ℕ) → q * 2 ^ e ≡ c * 2 ^ e → q ≡ c
number_one e q c h = sym (shl-shr q e) ∙ ap (λ (x : ℕ). x / 2 ^ e) h ∙ shl-shr c e

-- A range that is a full subtree of m is a block for which a digit of m stands.
pub full_is_block : (m : ℕ) (r : Range) → is_full m r ≡ true → (e : ℕ) × (m / 2 ^ e % 2 ≡ 1) × (r ≡ block e (m / 2 ^ e - 1))
full_is_block m r h = full_form m r (full_listed m r h)

-- Blocks of one width have one level.
level_one : (e j : ℕ) → 2 ^ e ≡ 2 ^ j → e ≡ j
level_one e j h = let a = exponent_most e j (omega arith) in let b = exponent_most j e (omega arith) in omega arith

-- A block is a full subtree of m entries where it is the last whole block of its level and the left
-- one of its pair.
pub full_block : (m e q : ℕ) → is_full m (block e q) ≡ (eqb (m / 2 ^ e) (q + 1) && eqb (q % 2) 0)
full_block m e q = same_test (is_full m (block e q)) (eqb (m / 2 ^ e) (q + 1) && eqb (q % 2) 0) forth back
  where
    forth : is_full m (block e q) ≡ true → (eqb (m / 2 ^ e) (q + 1) && eqb (q % 2) 0) ≡ true
    forth h =
        let (j, o, x) = full_is_block m (block e q) h in
        let i : e ≡ j = level_one e j (ap (λ (r : Range). r.width) x) in
        let s : q * 2 ^ e ≡ (m / 2 ^ e - 1) * 2 ^ e = ap (λ (r : Range). r.start) x ∙ ap (λ (k : ℕ). (m / 2 ^ k - 1) * 2 ^ k) (sym i) in
        let c : q ≡ m / 2 ^ e - 1 = number_one e q (m / 2 ^ e - 1) s in
        let d : m / 2 ^ e % 2 ≡ 1 = ap (λ (k : ℕ). m / 2 ^ k % 2) i ∙ o in
        holds_and (eqb (m / 2 ^ e) (q + 1)) (eqb (q % 2) 0) (eq-eqb (m / 2 ^ e) (q + 1) (omega arith)) (eq-eqb (q % 2) 0 (omega arith))

    back : (eqb (m / 2 ^ e) (q + 1) && eqb (q % 2) 0) ≡ true → is_full m (block e q) ≡ true
    back h =
        let (a, b) = and_holds (eqb (m / 2 ^ e) (q + 1)) (eqb (q % 2) 0) h in
        let c : m / 2 ^ e ≡ q + 1 = eqb-true (m / 2 ^ e) (q + 1) a in
        let d : q % 2 ≡ 0 = eqb-true (q % 2) 0 b in
        let z : m / 2 ^ e - 1 ≡ q = omega arith in
        listed_full m (block e q) (rw z at (full_digit m e (omega arith)))

-- A cut block is none.
pub full_cut : (m e s w : ℕ) → 2 ^ e < w → w < 2 ^ suc e → is_full m (range s w) ≡ false
full_cut m e s w l u = go (is_full m (range s w)) refl
  where
    go : (t : Bool) → is_full m (range s w) ≡ t → t ≡ false
    go true h =
        let (j, o, x) = full_is_block m (range s w) h in
        let i : w ≡ 2 ^ j = ap (λ (r : Range). r.width) x in
        let a = exponent_below e j (omega arith) in
        let b = exponent_below j (suc e) (omega arith) in
        absurd (omega arith)
    go false h = refl

-- ---- full subtrees within a range

pub held : (m : ℕ) (r x : Range) → Memᴰ x (full_subtrees m) → r.start ≤ x.start → x.start + x.width ≤ r.start + r.width → holds_full m r ≡ true
unfolding holds_full holds
held m r x i a b =
    at_any (holds r) (full_subtrees m) x i
    (holds_and (leb r.start x.start) (leb (x.start + x.width) (r.start + r.width)) (le-leb r.start x.start a)
    (le-leb (x.start + x.width) (r.start + r.width) b))

-- A range that holds a full subtree holds a block for which a digit of m stands.
pub holds_some : (m : ℕ) (r : Range) → holds_full m r ≡ true
    → (j : ℕ) × (m / 2 ^ j % 2 ≡ 1) × (r.start ≤ (m / 2 ^ j - 1) * 2 ^ j) × ((m / 2 ^ j - 1) * 2 ^ j + 2 ^ j ≤ r.start + r.width)
unfolding holds_full holds
holds_some m r h =
    let (x, i, s) = any_at (holds r) (full_subtrees m) h in
    let (a, b) = and_holds (leb r.start x.start) (leb (x.start + x.width) (r.start + r.width)) s in
    let (j, o, e) = full_form m x i in
    let es : x.start ≡ (m / 2 ^ j - 1) * 2 ^ j = ap (λ (y : Range). y.start) e in
    let ew : x.width ≡ 2 ^ j = ap (λ (y : Range). y.width) e in
    let c = leb-true r.start x.start a in
    let d = leb-true (x.start + x.width) (r.start + r.width) b in
    (j, o, omega arith, omega arith)

-- A full subtree holds itself.
pub full_holds : (m : ℕ) (r : Range) → is_full m r ≡ true → holds_full m r ≡ true
full_holds m r h = held m r r (full_listed m r h) (omega arith) (omega arith)

-- Where m ends after a multiple of 2 ^ e and not beyond the next, a full subtree of m begins there:
-- its width is the largest power in what is after.
first_full : (m e q d : ℕ) → m ≡ q * 2 ^ e + d → 0 < d → d < 2 ^ e → (j : ℕ) × (2 ^ j ≤ d) × Memᴰ (range (q * 2 ^ e) (2 ^ j)) (full_subtrees m)
first_full m e q d h p b = let (j, x, l, u) = power_at d p in go j x l u
  where
    go : (j : ℕ) → power d ≡ 2 ^ j → power d ≤ d → d < 2 * power d → (j : ℕ) × (2 ^ j ≤ d) × Memᴰ (range (q * 2 ^ e) (2 ^ j)) (full_subtrees m)
    go j x l u =
        let i : suc j ≤ e = exponent_below j e (omega arith) in
        let s : q * 2 ^ (e - j) * 2 ^ j ≡ q * 2 ^ e = start_lower e j q (omega arith) in
        let y : m ≡ (q * 2 ^ (e - j) + 1) * 2 ^ j + (d - 2 ^ j) = h ∙ (rw (add-mul (q * 2 ^ (e - j)) 1 (2 ^ j), s) (omega arith)) in
        let c : m / 2 ^ j ≡ q * 2 ^ (e - j) + 1 = ap (λ (z : ℕ). z / 2 ^ j) y ∙ high (q * 2 ^ (e - j) + 1) j (omega arith) in
        let k : e - j ≡ suc (e - suc j) = omega arith in
        let v : q * 2 ^ (e - j) ≡ 2 * (q * 2 ^ (e - suc j)) = rw (k, pow-succ' 2 (e - suc j)) (omega arith) in
        let o : m / 2 ^ j % 2 ≡ 1 = omega arith in
        let z : (m / 2 ^ j - 1) * 2 ^ j ≡ q * 2 ^ e = rw c (let w : q * 2 ^ (e - j) + 1 - 1 ≡ q * 2 ^ (e - j) = omega arith in rw w s) in
        (j, omega arith, subst (λ (t : ℕ). Memᴰ (range t (2 ^ j)) (full_subtrees m)) z (full_digit m j o))

-- The last of c runs ends with them.
last_run : (c w : ℕ) → 0 < c → (c - 1) * w + w ≡ c * w
last_run c w h = let z : c ≡ c - 1 + 1 = omega arith in sym (ap (λ (x : ℕ). x * w) z ∙ add-mul (c - 1) 1 w ∙ omega arith)

-- As many runs or fewer are there where they reach no further.
runs_most : (c d w : ℕ) → 0 < w → c * w ≤ d * w → c ≤ d
runs_most c d w p h = by_order d c (λ l. let y : (d + 1) * w ≤ c * w = mul-le-mul_right w (omega arith) in absurd (omega (arith, add-mul d 1 w))) (λ g. g)

-- A block holds a full subtree where it is one, or where m ends within it: a smaller block for
-- which a digit of m stands has an odd number of its own width before its end, so that it does not
-- end where a larger block does, and m ends less than its width after it.
pub holds_block : (m e q : ℕ) → holds_full m (block e q) ≡ (is_full m (block e q) || (ltb (q * 2 ^ e) m && ltb m (q * 2 ^ e + 2 ^ e)))
holds_block m e q = same_test (holds_full m (block e q)) (is_full m (block e q) || (ltb (q * 2 ^ e) m && ltb m (q * 2 ^ e + 2 ^ e))) forth back
  where
    within : (s : Bool) → q * 2 ^ e < m → m < q * 2 ^ e + 2 ^ e → (s || (ltb (q * 2 ^ e) m && ltb m (q * 2 ^ e + 2 ^ e))) ≡ true
    within true a b = refl
    within false a b = holds_and (ltb (q * 2 ^ e) m) (ltb m (q * 2 ^ e + 2 ^ e)) (lt-ltb (q * 2 ^ e) m a) (lt-ltb m (q * 2 ^ e + 2 ^ e) b)

    itself : (s : Bool) → is_full m (block e q) ≡ s → is_full m (block e q) ≡ true → (s || (ltb (q * 2 ^ e) m && ltb m (q * 2 ^ e + 2 ^ e))) ≡ true
    itself true a b = refl
    itself false a b = absurd (false≢true (sym a ∙ b))

    smaller : (j : ℕ) → j < e → m / 2 ^ j % 2 ≡ 1 → q * 2 ^ e ≤ (m / 2 ^ j - 1) * 2 ^ j → (m / 2 ^ j - 1) * 2 ^ j + 2 ^ j ≤ q * 2 ^ e + 2 ^ e
        → (q * 2 ^ e < m) × (m < q * 2 ^ e + 2 ^ e)
    smaller j l o a b =
        let p = pow_pos j in
        let (u, v) = cut_bounds m j in
        let c : (m / 2 ^ j - 1) * 2 ^ j + 2 ^ j ≡ m / 2 ^ j * 2 ^ j = last_run (m / 2 ^ j) (2 ^ j) (omega arith) in
        let s : (q + 1) * 2 ^ (e - j) * 2 ^ j ≡ q * 2 ^ e + 2 ^ e = start_lower e j (q + 1) (omega arith) ∙ omega arith in
        let i : e - j ≡ suc (e - suc j) = omega arith in
        let w : (q + 1) * 2 ^ (e - j) ≡ 2 * ((q + 1) * 2 ^ (e - suc j)) = rw (i, pow-succ' 2 (e - suc j)) (omega arith) in
        let x : m / 2 ^ j ≤ (q + 1) * 2 ^ (e - j) = runs_most (m / 2 ^ j) ((q + 1) * 2 ^ (e - j)) (2 ^ j) p (omega arith) in
        let y : (m / 2 ^ j + 1) * 2 ^ j ≤ (q + 1) * 2 ^ (e - j) * 2 ^ j = mul-le-mul_right (2 ^ j) (omega arith) in
        let z : (m / 2 ^ j + 1) * 2 ^ j ≡ m / 2 ^ j * 2 ^ j + 2 ^ j = omega arith in
        (omega arith, omega arith)

    forth : holds_full m (block e q) ≡ true → (is_full m (block e q) || (ltb (q * 2 ^ e) m && ltb m (q * 2 ^ e + 2 ^ e))) ≡ true
    forth h =
        let (j, o, a, b) = holds_some m (block e q) h in
        let i : j ≤ e = exponent_most j e (omega arith) in
        by_order j e (λ l. let (x, y) = smaller j l o a b in within (is_full m (block e q)) x y)
        (λ g.
        let z : j ≡ e = omega arith in
        let s : (m / 2 ^ e - 1) * 2 ^ e ≡ q * 2 ^ e = ap (λ (k : ℕ). (m / 2 ^ k - 1) * 2 ^ k) (sym z) ∙ omega (arith, ap (λ (k : ℕ). 2 ^ k) z) in
        itself (is_full m (block e q)) refl
        (listed_full m (block e q) (subst (λ (t : ℕ). Memᴰ (range t (2 ^ e)) (full_subtrees m)) s (full_digit m e (ap (λ (k : ℕ). m / 2 ^ k % 2) (sym z) ∙ o)))))

    back : (is_full m (block e q) || (ltb (q * 2 ^ e) m && ltb m (q * 2 ^ e + 2 ^ e))) ≡ true → holds_full m (block e q) ≡ true
    back h = go (or_holds (is_full m (block e q)) (ltb (q * 2 ^ e) m && ltb m (q * 2 ^ e + 2 ^ e)) h)
      where
        go : (is_full m (block e q) ≡ true) ⊎ ((ltb (q * 2 ^ e) m && ltb m (q * 2 ^ e + 2 ^ e)) ≡ true) → holds_full m (block e q) ≡ true
        go (inl a) = full_holds m (block e q) a
        go (inr a) =
            let (b, c) = and_holds (ltb (q * 2 ^ e) m) (ltb m (q * 2 ^ e + 2 ^ e)) a in
            let l : q * 2 ^ e < m = ltb-true (q * 2 ^ e) m b in
            let u : m < q * 2 ^ e + 2 ^ e = ltb-true m (q * 2 ^ e + 2 ^ e) c in
            let (j, w, i) = first_full m e q (m - q * 2 ^ e) (omega arith) (omega arith) (omega arith) in
            held m (block e q) (range (q * 2 ^ e) (2 ^ j)) i (omega arith) (omega arith)

-- A cut block holds a full subtree where it holds an entry of m.
pub holds_cut : (m n e q w : ℕ) → 2 ^ e < w → w < 2 ^ suc e → q * 2 ^ suc e + w ≡ n → m ≤ n
    → holds_full m (range (q * 2 ^ suc e) w) ≡ ltb (q * 2 ^ suc e) m
holds_cut m n e q w l u t h = same_test (holds_full m (range (q * 2 ^ suc e) w)) (ltb (q * 2 ^ suc e) m) forth back
  where
    forth : holds_full m (range (q * 2 ^ suc e) w) ≡ true → ltb (q * 2 ^ suc e) m ≡ true
    forth k =
        let (j, o, a, b) = holds_some m (range (q * 2 ^ suc e) w) k in
        let c : (m / 2 ^ j - 1) * 2 ^ j + 2 ^ j ≡ m / 2 ^ j * 2 ^ j = last_run (m / 2 ^ j) (2 ^ j) (omega arith) in
        lt-ltb (q * 2 ^ suc e) m (omega (arith, cut_bounds m j, pow_pos j))

    back : ltb (q * 2 ^ suc e) m ≡ true → holds_full m (range (q * 2 ^ suc e) w) ≡ true
    back k =
        let a : q * 2 ^ suc e < m = ltb-true (q * 2 ^ suc e) m k in
        let (j, b, i) = first_full m (suc e) q (m - q * 2 ^ suc e) (omega arith) (omega arith) (omega arith) in
        held m (range (q * 2 ^ suc e) w) (range (q * 2 ^ suc e) (2 ^ j)) i (omega arith) (omega arith)

-- ---- kept values

-- The first of the list is looked at first.
among_here : (x : Range) (xs : List Range) (vs : List Bytes) (r : Range) → same_range r x ≡ true → value_among (x ∷ xs) vs r ≡ get_or vs 0 zeros
unfolding value_among choose
among_here x xs vs r h = rw h refl

among_later : (x : Range) (xs : List Range) (vs : List Bytes) (r : Range) → same_range r x ≡ false → value_among (x ∷ xs) vs r ≡ value_among xs (drop 1 vs) r
unfolding value_among choose
among_later x xs vs r h = rw h refl

-- The power of two at the top of w is one digit more than what is below it has, above any lower
-- place.
ones_above : (e j w : ℕ) → e < j → 2 ^ j ≤ w → w < 2 ^ suc j → ones (w / 2 ^ suc e) ≡ suc (ones ((w - 2 ^ j) / 2 ^ suc e))
unfolding ones
ones_above e j w l a b =
    let k : ℕ = j - suc e in
    let i : k + suc e ≡ j = omega arith in
    let y : 2 ^ j ≡ 2 ^ k * 2 ^ suc e = ap (λ (x : ℕ). 2 ^ x) (sym i) ∙ pow-add 2 k (suc e) in
    let z : w ≡ 2 ^ k * 2 ^ suc e + (w - 2 ^ j) = omega arith in
    let d : w / 2 ^ suc e ≡ 1 * 2 ^ k + (w - 2 ^ j) / 2 ^ suc e =
    ap (λ (x : ℕ). x / 2 ^ suc e) z ∙ mul-add-div_right (pow_pos (suc e)) (2 ^ k) (w - 2 ^ j) ∙ omega arith in
    let r : (w - 2 ^ j) / 2 ^ suc e < 2 ^ k = shr_lt k (suc e) (rw i (omega (arith, pow-succ' 2 j))) in
    ap ones d ∙ ones_cat k 1 ((w - 2 ^ j) / 2 ^ suc e) r ∙ one-add (ones ((w - 2 ^ j) / 2 ^ suc e))

-- Blocks of two levels are not the same.
other : (e j t s p : ℕ) → p ≡ 2 ^ j → e < j → same_range (range t (2 ^ e)) (range s p) ≡ false
other e j t s p x b = never_holds (same_range (range t (2 ^ e)) (range s p)) (λ h.
    let i : 2 ^ e ≡ p = ap (λ (r : Range). r.width) (same_range_lem (range t (2 ^ e)) (range s p) h) in
    let k : e ≡ j = level_one e j (omega arith) in
    omega arith)

-- The values kept of full subtrees stand in the order of their levels, the highest first: before
-- that of level e stand those of the digits above it.
pub value_among_lem : (m e q : ℕ) (vs : List Bytes) → is_full m (block e q) ≡ true → value_among (full_subtrees m) vs (block e q) ≡ get_or vs (ones (m / 2 ^ suc e)) zeros
unfolding full_subtrees ones
value_among_lem m e q vs h =
    let (a, b) = and_holds (eqb (m / 2 ^ e) (q + 1)) (eqb (q % 2) 0) (sym (full_block m e q) ∙ h) in
    let c : m / 2 ^ e ≡ q + 1 = eqb-true (m / 2 ^ e) (q + 1) a in
    let d : q % 2 ≡ 0 = eqb-true (q % 2) 0 b in
    let z : 0 + (m / 2 ^ e - 1) * 2 ^ e ≡ q * 2 ^ e = rw c (let w : q + 1 - 1 ≡ q = omega arith in rw w (omega arith)) in
    subst (λ (t : ℕ). value_among (full_from m 0 m) vs (range t (2 ^ e)) ≡ get_or vs (ones (m / 2 ^ suc e)) zeros) z
    (full_from_by Among (λ s w i e o. absurd (omega (arith, no_digit s w i e o))) more m 0 m (below_power m) e (omega arith) vs)
  where
    Among : ℕ → ℕ → List Range → Type 0
    Among s w rs = (e : ℕ) → w / 2 ^ e % 2 ≡ 1 → (vs : List Bytes) → value_among rs vs (digit_range s w e) ≡ get_or vs (ones (w / 2 ^ suc e)) zeros

    no_digit : (s w : ℕ) → w ≡ 0 → (e : ℕ) → w / 2 ^ e % 2 ≡ 1 → ⊥
    no_digit s w i e o = let z : w / 2 ^ e ≡ 0 = div-eq_of_lt (omega (arith, pow_pos e)) in omega arith

    more : (s w : ℕ) (rs : List Range) → 0 < w → Among (s + power w) (w - power w) rs → Among s w (range s (power w) ∷ rs)
    more s w rs p ih e o vs = let (j, x, l, u) = power_at w p in go j x l u (dec_lt e j) (dec_lt j e)
      where
        go : (j : ℕ) → power w ≡ 2 ^ j → power w ≤ w → w < 2 * power w → Dec (e < j) → Dec (j < e)
            → value_among (range s (power w) ∷ rs) vs (digit_range s w e) ≡ get_or vs (ones (w / 2 ^ suc e)) zeros
        go j x l u (yes b) _ =
            let y = digit_below e j w (power w) s x l b in
            let o' : (w - power w) / 2 ^ e % 2 ≡ 1 = omega arith in
            let n : ones (w / 2 ^ suc e) ≡ suc (ones ((w - power w) / 2 ^ suc e)) = rw x (ones_above e j w b (omega arith) (omega (arith, pow-succ' 2 j))) in
            among_later (range s (power w)) rs vs (digit_range s w e) (other e j (s + (w / 2 ^ e - 1) * 2 ^ e) s (power w) x b)
            ∙ ap (value_among rs (drop 1 vs)) (sym (y.1 o')) ∙ ih e o' (drop 1 vs)
            ∙ get_or-drop 1 vs (ones ((w - power w) / 2 ^ suc e)) zeros ∙ ap (λ (i : ℕ). get_or vs i zeros) (one-add (ones ((w - power w) / 2 ^ suc e)) ∙ sym n)
        go j x l u (no a) (yes b) =
            let t : 2 ^ suc j ≤ 2 ^ e = pow_mono b in
            let z : w / 2 ^ e ≡ 0 = div-eq_of_lt (omega (arith, pow-succ' 2 j)) in
            absurd (omega arith)
        go j x l u (no a) (no b) =
            let i : j ≡ e = omega arith in
            let z : w / 2 ^ suc e ≡ 0 = div-eq_of_lt (omega (arith, pow-succ' 2 j, ap (λ (k : ℕ). 2 ^ suc k) i)) in
            let d : range s (power w) ≡ digit_range s w e = (digit_top j w s x l u).1 ∙ ap (digit_range s w) i in
            among_here (range s (power w)) rs vs (digit_range s w e) (subst (λ (y : Range). same_range (digit_range s w e) y ≡ true) (sym d) (range_same (digit_range s w e)))
            ∙ ap (λ (k : ℕ). get_or vs (ones k) zeros) (sym z)
