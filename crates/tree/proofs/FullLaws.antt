-- Laws of the full subtrees of a tree (specs/LogTree.antt): how many there are, how they lie, and
-- which digit of the number of entries each stands for.
use mathlib.Core.Path.{◌≡◌, refl, sym, ap, ap₂, ◌∙◌}
use mathlib.Core.Logic.{◌⊎◌, inl, inr}
use mathlib.Core.List.Memᴰ
use mathlib.Core.List.{List, [], ◌∷◌, Memᴰ}
use Prim.Native.Nat.{ℕ, zero, suc, ◌+◌, ◌-◌, ◌*◌, ◌/◌, ◌%◌, ◌^◌, ◌≤◌, ◌<◌}
use native.Mathlib.Nat.{add-mul, zero-add, div-eq_of_lt, mul-add-div_right}
use native.Mathlib.Numerals.{one-add}
use native.Mathlib.Decide.{dec_lt}
use native.Mathlib.Omega.{arith}
use lib.ListN.{length}
use lib.Count.{ones, ones_cat}
use lib.Pow.{pow_pos, pow_mono, pow-add, high}
use borrow.Author.Tests.{eq-eqb, ne_eqb}
use Rattle.lists.specs.Choice.{choose}
use Rattle.tree.specs.SearchTree.{power}
use Rattle.tree.specs.LogTree.{Range, full_from, full_subtrees}
use Rattle.tree.proofs.PowerLaws.{below_power, exponent_below, power_at}

-- ---- one step

-- no entries have no full subtree
pub full_from_none : (k start width : ℕ) → width ≡ 0 → full_from k start width ≡ []
unfolding full_from choose
full_from_none zero start width h = refl
full_from_none (suc k) start width h = rw (eq-eqb width 0 h) refl

-- the first full subtree is as wide as the largest power of two not above the width; the others are
-- those of the rest
pub full_from_more : (k start width : ℕ) → 0 < width
    → full_from (suc k) start width ≡ record { start = start; width = power width } ∷ full_from k (start + power width) (width - power width)
unfolding full_from choose
full_from_more k start width h = rw (ne_eqb width 0 (omega arith)) refl

-- what is left without the power has a digit less
rest_below : (k w : ℕ) → 0 < w → w < 2 ^ suc k → w - power w < 2 ^ k
rest_below k w h b =
    let (j, e, l, u) = power_at w h in
    let i : j < suc k = exponent_below j (suc k) (omega arith) in
    let p : 2 ^ j ≤ 2 ^ k = pow_mono (omega arith) in
    omega arith

-- what holds where there are no entries, and of a first full subtree and the others if it holds of
-- the others, holds of full subtrees found in steps enough for the digits of the width
pub full_from_by : (P : ℕ → ℕ → List Range → Type 0) → ((s w : ℕ) → w ≡ 0 → P s w [])
    → ((s w : ℕ) (l : List Range) → 0 < w → P (s + power w) (w - power w) l → P s w (record { start = s; width = power w } ∷ l))
    → (k s w : ℕ) → w < 2 ^ k → P s w (full_from k s w)
full_from_by P none more zero s w b = rw (full_from_none zero s w (omega arith)) (none s w (omega arith))
full_from_by P none more (suc k) s w b = go (dec_lt 0 w) (λ p. full_from_by P none more k (s + power w) (w - power w) (rest_below k w p b))
  where
    go : Dec (0 < w) → (0 < w → P (s + power w) (w - power w) (full_from k (s + power w) (w - power w))) → P s w (full_from (suc k) s w)
    go (yes p) ih = rw (full_from_more k s w p) (more s w (full_from k (s + power w) (w - power w)) p (ih p))
    go (no p) ih = rw (full_from_none (suc k) s w (omega arith)) (none s w (omega arith))

-- any number of steps that are enough for the digits of the width gives the same full subtrees
pub full_from_fuel : (k l start width : ℕ) → width < 2 ^ k → width < 2 ^ l → full_from k start width ≡ full_from l start width
full_from_fuel k l start width h =
    full_from_by (λ s w rs. (l : ℕ) → w < 2 ^ l → rs ≡ full_from l s w) (λ s w e l b. sym (full_from_none l s w e)) more k start width h l
  where
    more : (s w : ℕ) (rs : List Range) → 0 < w → ((l : ℕ) → w - power w < 2 ^ l → rs ≡ full_from l (s + power w) (w - power w))
        → (l : ℕ) → w < 2 ^ l → record { start = s; width = power w } ∷ rs ≡ full_from l s w
    more s w rs p ih zero b = absurd (omega arith)
    more s w rs p ih (suc l) b =
        ap (λ (z : List Range). record { start = s; width = power w } ∷ z) (ih l (rest_below l w p b)) ∙ sym (full_from_more l s w p)

-- ---- how many

-- without its power a number has one set digit less
pub ones_power : (w : ℕ) → 0 < w → ones w ≡ suc (ones (w - power w))
unfolding ones
ones_power w h =
    let (j, e, l, u) = power_at w h in
    let z : w ≡ 1 * 2 ^ j + (w - power w) = omega arith in
    let y : ones (1 * 2 ^ j + (w - power w)) ≡ ones 1 + ones (w - power w) = ones_cat j 1 (w - power w) (omega arith) in
    ap ones z ∙ y ∙ one-add (ones (w - power w))

-- there are as many full subtrees as the width has ones
pub full_from_length : (k start width : ℕ) → width < 2 ^ k → length (full_from k start width) ≡ ones width
unfolding ones
full_from_length = full_from_by (λ s w rs. length rs ≡ ones w) (λ s w e. sym (ap ones e)) (λ s w rs p ih. ap suc ih ∙ sym (ones_power w p))

-- ---- how they lie

-- ranges side by side: the first begins at the start, each other where the one before it ends, and
-- the last ends at the end
abbrev pub SideBySide : ℕ → ℕ → List Range → Type 0
SideBySide start end [] = start ≡ end
SideBySide start end (r ∷ rs) = (r.start ≡ start) × SideBySide (start + r.width) end rs

-- the full subtrees lie side by side from the first entry to the last
pub full_from_adjoin : (k start width : ℕ) → width < 2 ^ k → SideBySide start (start + width) (full_from k start width)
full_from_adjoin = full_from_by (λ s w rs. SideBySide s (s + w) rs) (λ s w e. omega arith)
    (λ s w rs p ih. let (j, e, l, u) = power_at w p in let z : s + power w + (w - power w) ≡ s + w = omega arith in (refl, rw z at ih))

-- ranges each less wide than the one before it, the first less than a bound
abbrev pub Narrowing : ℕ → List Range → Type 0
Narrowing bound [] = Unit {0}
Narrowing bound (r ∷ rs) = (r.width < bound) × Narrowing r.width rs

-- each full subtree is less wide than the one before it
pub full_from_narrow : (k start width bound : ℕ) → width < 2 ^ k → width < bound → Narrowing bound (full_from k start width)
full_from_narrow k start width bound h = full_from_by (λ s w rs. (bound : ℕ) → w < bound → Narrowing bound rs) (λ s w e bound b. tt)
    (λ s w rs p ih bound b. let (j, e, l, u) = power_at w p in (omega arith, ih (power w) (omega arith))) k start width h bound

-- ---- digits

-- the range that the digit e of w stands for, in a tree of w entries from s on: it comes after
-- those of the higher digits
abbrev pub digit_range : ℕ → ℕ → ℕ → Range
digit_range s w e = record { start = s + (w / 2 ^ e - 1) * 2 ^ e; width = 2 ^ e }

-- a power of two p with a higher exponent than e adds an even number h to w / 2 ^ e
below_top : (e j w p : ℕ) → p ≡ 2 ^ j → p ≤ w → e < j → (h : ℕ) × (w / 2 ^ e ≡ h + (w - p) / 2 ^ e) × (h * 2 ^ e ≡ p) × (h % 2 ≡ 0)
below_top e j w p q l b =
    let d : ℕ = j - suc e in
    let i : j ≡ suc d + e = omega arith in
    let y : p ≡ 2 ^ suc d * 2 ^ e = q ∙ ap (λ (x : ℕ). 2 ^ x) i ∙ pow-add 2 (suc d) e in
    let z : w ≡ 2 ^ suc d * 2 ^ e + (w - p) = omega arith in
    (2 ^ suc d, ap (λ (x : ℕ). x / 2 ^ e) z ∙ mul-add-div_right (pow_pos e) (2 ^ suc d) (w - p), sym y, omega arith)

-- such a power changes neither the digit e nor the range for which it stands
pub digit_below : (e j w p s : ℕ) → p ≡ 2 ^ j → p ≤ w → e < j
    → (w / 2 ^ e % 2 ≡ (w - p) / 2 ^ e % 2) × ((w - p) / 2 ^ e % 2 ≡ 1 → digit_range (s + p) (w - p) e ≡ digit_range s w e)
digit_below e j w p s q l b =
    let (h, d, y, v) = below_top e j w p q l b in (
      omega arith,
      λ o.
          let z : w / 2 ^ e - 1 ≡ h + ((w - p) / 2 ^ e - 1) = omega arith in
          let x : (w / 2 ^ e - 1) * 2 ^ e ≡ h * 2 ^ e + ((w - p) / 2 ^ e - 1) * 2 ^ e = ap (λ (c : ℕ). c * 2 ^ e) z ∙ add-mul h ((w - p) / 2 ^ e - 1) (2 ^ e) in
          ap (λ (c : ℕ). record { start = c; width = 2 ^ e }) (omega arith),
    )

-- the highest digit is set and stands for the first full subtree
pub digit_top : (j w s : ℕ) → power w ≡ 2 ^ j → power w ≤ w → w < 2 * power w
    → (w / 2 ^ j ≡ 1) × (record { start = s; width = power w } ≡ digit_range s w j)
digit_top j w s q l u =
    let z : w ≡ 1 * 2 ^ j + (w - 2 ^ j) = omega arith in
    let d : w / 2 ^ j ≡ 1 = ap (λ (x : ℕ). x / 2 ^ j) z ∙ high 1 j (omega arith) in
    let c : s ≡ s + (w / 2 ^ j - 1) * 2 ^ j = rw d (omega arith) in
    (d, ap₂ (λ (a b : ℕ). record { start = a; width = b }) c q)

-- a set digit is worth no more than the number
digit_within : (e w : ℕ) → w / 2 ^ e % 2 ≡ 1 → 2 ^ e ≤ w
digit_within e w o = go (dec_lt w (2 ^ e))
  where
    go : Dec (w < 2 ^ e) → 2 ^ e ≤ w
    go (yes h) = let z : w / 2 ^ e ≡ 0 = div-eq_of_lt h in absurd (omega arith)
    go (no h) = omega arith

-- each set digit of the width stands for a full subtree
pub full_from_digit : (k start width e : ℕ) → width < 2 ^ k → width / 2 ^ e % 2 ≡ 1 → Memᴰ (digit_range start width e) (full_from k start width)
full_from_digit k start width e h = full_from_by (λ s w rs. (e : ℕ) → w / 2 ^ e % 2 ≡ 1 → Memᴰ (digit_range s w e) rs) none more k start width h e
  where
    none : (s w : ℕ) → w ≡ 0 → (e : ℕ) → w / 2 ^ e % 2 ≡ 1 → Memᴰ (digit_range s w e) []
    none s w z e o = absurd (omega (arith, pow_pos e, digit_within e w o))

    more : (s w : ℕ) (rs : List Range) → 0 < w → ((e : ℕ) → (w - power w) / 2 ^ e % 2 ≡ 1 → Memᴰ (digit_range (s + power w) (w - power w) e) rs)
        → (e : ℕ) → w / 2 ^ e % 2 ≡ 1 → Memᴰ (digit_range s w e) (record { start = s; width = power w } ∷ rs)
    more s w rs p ih e o = let (j, q, l, u) = power_at w p in go j q l u (dec_lt e j) (dec_lt j e)
      where
        go : (j : ℕ) → power w ≡ 2 ^ j → power w ≤ w → w < 2 * power w → Dec (e < j) → Dec (j < e)
            → Memᴰ (digit_range s w e) (record { start = s; width = power w } ∷ rs)
        go j q l u (yes b) _ =
            let y = digit_below e j w (power w) s q l b in
            let z : (w - power w) / 2 ^ e % 2 ≡ 1 = omega arith in
            Memᴰ.tail (Memᴰ.cast (sym (y.1 z)) (ih e z))
        go j q l u (no _) (yes b) =
            let m : 2 ^ suc j ≤ 2 ^ e = pow_mono b in
            absurd (omega (arith, digit_within e w o))
        go j q l u (no a) (no b) =
            let i : e ≡ j = omega arith in
            Memᴰ.head (ap (λ (x : ℕ). digit_range s w x) i ∙ sym (digit_top j w s q l u).1)

-- each full subtree is the one for which some set digit of the width stands
pub full_from_form : (k start width : ℕ) (r : Range) → width < 2 ^ k → Memᴰ r (full_from k start width)
    → (e : ℕ) × (width / 2 ^ e % 2 ≡ 1) × (r ≡ digit_range start width e)
full_from_form k start width r h =
    full_from_by (λ s w rs. (r : Range) → Memᴰ r rs → (e : ℕ) × (w / 2 ^ e % 2 ≡ 1) × (r ≡ digit_range s w e))
    (λ s w z r i. absurd (Memᴰ.not-nil i)) more k start width h r
  where
    more : (s w : ℕ) (rs : List Range) → 0 < w
        → ((r : Range) → Memᴰ r rs → (e : ℕ) × ((w - power w) / 2 ^ e % 2 ≡ 1) × (r ≡ digit_range (s + power w) (w - power w) e))
        → (r : Range) → Memᴰ r (record { start = s; width = power w } ∷ rs) → (e : ℕ) × (w / 2 ^ e % 2 ≡ 1) × (r ≡ digit_range s w e)
    more s w rs p ih r i = let (j, q, l, u) = power_at w p in go j q l u (Memᴰ.cases_cons i)
      where
        go : (j : ℕ) → power w ≡ 2 ^ j → power w ≤ w → w < 2 * power w → (r ≡ record { start = s; width = power w }) ⊎ Memᴰ r rs
            → (e : ℕ) × (w / 2 ^ e % 2 ≡ 1) × (r ≡ digit_range s w e)
        go j q l u (inl a) = let y = digit_top j w s q l u in (j, omega arith, a ∙ y.1)
        go j q l u (inr a) =
            let (e, o, c) = ih r a in
            let b : e < j = exponent_below e j (omega (arith, digit_within e (w - power w) o)) in
            let y = digit_below e j w (power w) s q l b in
            (e, omega arith, c ∙ y.1 o)

-- ---- the full subtrees of a tree

-- there are as many as the number of entries has ones
pub full_length : (m : ℕ) → length (full_subtrees m) ≡ ones m
unfolding full_subtrees
full_length m = full_from_length m 0 m (below_power m)

-- they lie side by side from entry 0 to the last
pub full_adjoin : (m : ℕ) → SideBySide 0 m (full_subtrees m)
unfolding full_subtrees
full_adjoin m = rw zero-add at (full_from_adjoin m 0 m (below_power m))

-- each is less wide than the one before it, and none is wider than the tree
pub full_narrow : (m : ℕ) → Narrowing (suc m) (full_subtrees m)
unfolding full_subtrees
full_narrow m = full_from_narrow m 0 m (suc m) (below_power m) (omega arith)

-- each set digit of m stands for one of them
pub full_digit : (m e : ℕ) → m / 2 ^ e % 2 ≡ 1 → Memᴰ (record { start = (m / 2 ^ e - 1) * 2 ^ e; width = 2 ^ e }) (full_subtrees m)
unfolding full_subtrees
full_digit m e h = rw zero-add at (full_from_digit m 0 m e (below_power m) h)

-- each of them is the one for which some set digit of m stands
pub full_form : (m : ℕ) (r : Range) → Memᴰ r (full_subtrees m)
    → (e : ℕ) × (m / 2 ^ e % 2 ≡ 1) × (r ≡ record { start = (m / 2 ^ e - 1) * 2 ^ e; width = 2 ^ e })
unfolding full_subtrees
full_form m r i =
    let (e, o, c) = full_from_form m 0 m r (below_power m) i in
    (e, o, rw zero-add at c)
