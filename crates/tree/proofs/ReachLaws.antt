-- How the walk over the log tree (specs/LogTree.antt) comes to an entry c from the left: which
-- subtrees of it end there, and where it goes on.
use mathlib.Core.Path.{◌≡◌, refl, sym, ap, ap₂, ◌∙◌, subst}
use mathlib.Core.Logic.{◌⊎◌, inl, inr}
use mathlib.Core.Bool.{Bool, true, false, ◌||◌, false≢true}
use mathlib.Core.List.{List, [], ◌∷◌, Memᴰ}
use Prim.Native.Nat.{ℕ, zero, suc, ◌+◌, ◌-◌, ◌*◌, ◌/◌, ◌%◌, ◌^◌, ◌≤◌, ◌<◌}
use native.Mathlib.Nat.{pow-succ'}
use native.Mathlib.Numerals.{unary_clauses}
use native.Mathlib.Omega.{arith}
use lib.Dec.{eqb}
use lib.Pow.{pow_pos, pow_mono, high}
use borrow.Author.Tests.{eq-eqb, lt-ltb, ltb-false}
use Rattle.lists.proofs.ChoiceLaws.{holds_and}
use Rattle.tree.specs.SearchTree.{power}
use Rattle.tree.specs.LogTree.{Range, left_half, right_half, is_full, holds_full, is_shown, Walk, retained}
use Rattle.tree.specs.LogTree.{given, shown, parent, full_from, full_subtrees}
use Rattle.tree.proofs.PowerLaws.{below_power, exponent_below, left_half_lem, halves_filled, halves_meet}
use Rattle.tree.proofs.PowerLaws.{power_unique}
use Rattle.tree.proofs.DigitLaws.{by_order}
use Rattle.tree.proofs.FullLaws.{full_from_none, full_from_more, full_from_fuel}
use Rattle.tree.specs.LogWalk.{range}
use Rattle.tree.proofs.SubtreeLaws.{block, Subtree, whole, cut, subtree_halves, starts_double}
use Rattle.tree.proofs.SubtreeLaws.{halves_most, halves_whole}
use Rattle.tree.proofs.FullBlockLaws.{full_block, full_cut, holds_block, holds_cut}
use Rattle.tree.proofs.HoldingLaws.{full_as_block, full_ends, inside_shown}
use Rattle.tree.proofs.WalkCaseLaws.{Walks, keeps, takes, shows, splits, Over, over_width}

-- ---- the range of a walk

-- What is over a whole block is over a whole block in each half.
pub over_halves : (e q : ℕ) (x : Range) (t u : Walk) → Over (block (suc e) q) (parent x t u) → Over (block e (2 * q)) t × Over (block e (2 * q + 1)) u
over_halves e q x t u (h, w, a, b) =
    let (i, j) = halves_whole e q in
    (subst (λ (r : Range). Over r t) i a, subst (λ (r : Range). Over r u) j b)

-- A walk over so many entries from s on, with a left half of 2 ^ e entries, is over the others with
-- its right half.
pub over_right : (e q s w : ℕ) (r : Range) (x y : Walk) → Over (range s w) (parent r x y) → Over (block e q) x → (2 ^ e < w) × Over (range (s + 2 ^ e) (w - 2 ^ e)) y
over_right e q s w r x y (h, l, a, b) o =
    let i : (left_half (range s w)).width ≡ 2 ^ e = sym (over_width (left_half (range s w)) x a) ∙ over_width (block e q) x o in
    let (c, d) = halves_meet (range s w) l in
    let (f, g) = halves_filled (range s w) l in
    let (j, n) = left_half_lem (range s w) in
    (omega arith, subst (λ (z : Range). Over z y) (ap₂ range (omega arith) (omega arith)) b)

-- ---- full subtrees

-- A full subtree of c entries is a block that ends with the c-th or before it.
pub block_full : (c : ℕ) (r : Range) → is_full c r ≡ true → (j : ℕ) × (r.width ≡ 2 ^ j) × (r.start + r.width ≤ c)
block_full c r h = let b = full_as_block c r h in (b.level, b.wide, full_ends c r h)

-- What starts at c or after it is none.
pub full_behind : (c : ℕ) (r : Range) → c ≤ r.start → is_full c r ≡ false
full_behind c r h = go (is_full c r) refl
  where
    go : (b : Bool) → is_full c r ≡ b → b ≡ false
    go true e = let (j, w, l) = block_full c r e in absurd (omega (arith, pow_pos j))
    go false e = refl

-- A power of two above 2 ^ e and not above the next is the next.
power_next : (e j w : ℕ) → w ≡ 2 ^ j → 2 ^ e < w → w ≤ 2 ^ suc e → w ≡ 2 ^ suc e
power_next e j w x l u =
    let i : e < j = exponent_below e j (omega arith) in
    let p : 2 ^ suc e ≤ 2 ^ j = pow_mono i in
    omega arith

-- A left half that ends with the c-th entry or before it is a full subtree of c entries, where the
-- block ends after that entry.
pub full_left : (c e q : ℕ) → q * 2 ^ suc e + 2 ^ e ≤ c → c < q * 2 ^ suc e + 2 ^ suc e → is_full c (block e (2 * q)) ≡ true
full_left c e q l u =
    let (a, b) = starts_double e q in
    let p = pow-succ' 2 e in
    let y : c ≡ (2 * q + 1) * 2 ^ e + (c - (2 * q + 1) * 2 ^ e) = omega arith in
    let d : c / 2 ^ e ≡ 2 * q + 1 = ap (λ (x : ℕ). x / 2 ^ e) y ∙ high (2 * q + 1) e (omega arith) in
    full_block c e (2 * q) ∙ holds_and (eqb (c / 2 ^ e) (2 * q + 1)) (eqb (2 * q % 2) 0) (eq-eqb (c / 2 ^ e) (2 * q + 1) d) (eq-eqb (2 * q % 2) 0 (omega arith))

-- the full subtrees of the entries from s up to c
abbrev pub fulls_from : ℕ → ℕ → List Range
fulls_from s c = full_from (c - s) s (c - s)

-- There are none where there are no entries.
pub fulls_none : (s c : ℕ) → c ≡ s → fulls_from s c ≡ []
fulls_none s c h = full_from_none (c - s) s (c - s) (omega arith)

-- The first is as wide as the largest power of two not above the number of entries.
pub fulls_first : (e s c : ℕ) → s + 2 ^ e ≤ c → c < s + 2 ^ suc e → fulls_from s c ≡ range s (2 ^ e) ∷ fulls_from (s + 2 ^ e) c
fulls_first e s c l u =
    let p = pow_pos e in
    let x : power (c - s) ≡ 2 ^ e = power_unique e (c - s) (omega arith) (omega arith) in
    let y : c - s - 2 ^ e ≡ c - (s + 2 ^ e) = omega arith in
    let a = below_power (c - s) in
    let b = below_power (c - (s + 2 ^ e)) in
    full_from_fuel (c - s) (suc (c - s)) s (c - s) a (omega arith)
    ∙ full_from_more (c - s) s (c - s) (omega arith)
    ∙ ap (λ (z : ℕ). range s z ∷ full_from (c - s) (s + z) (c - s - z)) x
    ∙ ap (λ (z : ℕ). range s (2 ^ e) ∷ full_from (c - s) (s + 2 ^ e) z) y
    ∙ ap (λ (z : List Range). range s (2 ^ e) ∷ z) (full_from_fuel (c - s) (c - (s + 2 ^ e)) (s + 2 ^ e) (c - (s + 2 ^ e)) (omega arith) b)

-- Those from the first entry on are those of a tree.
pub fulls_all : (c : ℕ) → full_subtrees c ≡ fulls_from 0 c
unfolding full_subtrees
fulls_all c = simp unary_clauses

-- ---- how the walk comes to an entry

-- what holds of each range whose value is kept, and of each whose value is given
abbrev pub Stops : (Range → Type 0) → (Range → Type 0) → Walk → Type 0
Stops P Q (retained r) = P r
Stops P Q (given r) = Q r
Stops P Q (shown p) = Unit {0}
Stops P Q (parent r x y) = Stops P Q x × Stops P Q y

-- c is not inside of the range, and the range is a whole block where it ends before c or there
abbrev pub Apart : ℕ → Range → Type 0
Apart c r = (c ≤ r.start) ⊎ ((j : ℕ) × (r.width ≡ 2 ^ j) × (r.start + r.width ≤ c))

-- a whole block
abbrev pub IsBlock : Range → Type 0
IsBlock r = (j : ℕ) × (r.width ≡ 2 ^ j)

-- no range at which the walk stops has c inside of it, and those before c are whole blocks
abbrev pub Clear : ℕ → Walk → Type 0
Clear c t = Stops (Apart c) (Apart c) t

-- The walk t over a range from s on, and an entry c of the range or after its last: all full
-- subtrees of c entries in the range are narrower than b, and c is where the range starts; or at
-- its end, and the range is such a full subtree; or left of the middle; or not, and the left half
-- is such a full subtree.
pub data Reach (c : ℕ) : ℕ → ℕ → Walk → Type 0 where
  starting : (r : Range) (b : ℕ) (t : Walk) → Over r t → c ≡ r.start → Reach c r.start b t
  ending : (e q b : ℕ) (t : Walk) → Over (block e q) t → 2 ^ e < b → q * 2 ^ e + 2 ^ e ≡ c → is_full c (block e q) ≡ true → Reach c (q * 2 ^ e) b t
  left : (e q b : ℕ) (r : Range) (x y : Walk) → Over (block e q) x → Over (right_half r) y → c < q * 2 ^ e + 2 ^ e → c ≤ (right_half r).start → is_full c r ≡ false
      → Reach c (q * 2 ^ e) b x → Reach c (q * 2 ^ e) b (parent r x y)
  right : (e q b : ℕ) (r : Range) (x y : Walk) → Over (block e q) x → 2 ^ e < b → q * 2 ^ e + 2 ^ e ≤ c → c < q * 2 ^ e + 2 ^ suc e → is_full c r ≡ false
      → is_full c (block e q) ≡ true → Reach c (q * 2 ^ e + 2 ^ e) (2 ^ e) y → Reach c (q * 2 ^ e) b (parent r x y)

-- every walk over entries of a block of level e, at each c in the block
abbrev Reached : ℕ → ℕ → Type 0
Reached c e = (q w b : ℕ) (t : Walk) → 0 < w → w ≤ 2 ^ e → Over (range (q * 2 ^ e) w) t → Clear c t → q * 2 ^ e ≤ c → c < q * 2 ^ e + 2 ^ e
    → c ≤ q * 2 ^ e + w → 2 ^ e ≤ b → Reach c (q * 2 ^ e) b t

-- A range of more than half of the entries of a block, with c inside of the block, is no block that
-- ends with c or before it.
no_stop : (c e q w : ℕ) (r : Range) (j : ℕ) → r ≡ range (q * 2 ^ suc e) w → 2 ^ e < w → w ≤ 2 ^ suc e → c < q * 2 ^ suc e + 2 ^ suc e
    → r.width ≡ 2 ^ j → r.start + r.width ≤ c → ⊥
no_stop c e q w r j h l u k x y =
    let es : r.start ≡ q * 2 ^ suc e = ap (λ (y : Range). y.start) h in
    let ew : r.width ≡ w = ap (λ (y : Range). y.width) h in
    let z : w ≡ 2 ^ suc e = power_next e j w (omega arith) l u in
    omega arith

-- So the walk splits there.
reach_split : (c e q w b : ℕ) (t : Walk) → Reached c e → 2 ^ e < w → w ≤ 2 ^ suc e → Over (range (q * 2 ^ suc e) w) t → Clear c t → q * 2 ^ suc e < c
    → c < q * 2 ^ suc e + 2 ^ suc e → c ≤ q * 2 ^ suc e + w → 2 ^ suc e ≤ b → Reach c (q * 2 ^ suc e) b t
reach_split c e q w b t ih l u o k s v i d = go t o k
  where
    stop : (r : Range) → r ≡ range (q * 2 ^ suc e) w → Apart c r → ⊥
    stop r h (inl a) = let es : r.start ≡ q * 2 ^ suc e = ap (λ (y : Range). y.start) h in omega arith
    stop r h (inr (j, x, y)) = no_stop c e q w r j h l u v x y

    not_full : (r : Range) → r ≡ range (q * 2 ^ suc e) w → (y : Bool) → is_full c r ≡ y → y ≡ false
    not_full r h true z = let (j, x, y) = block_full c r z in absurd (no_stop c e q w r j h l u v x y)
    not_full r h false z = refl

    split : (r : Range) (x y : Walk) → r ≡ range (q * 2 ^ suc e) w → Over (block e (2 * q)) x → Over (range ((2 * q + 1) * 2 ^ e) (w - 2 ^ e)) y → Over (right_half r) y
        → (right_half r).start ≡ (2 * q + 1) * 2 ^ e → Clear c x → Clear c y → Reach c (2 * q * 2 ^ e) b (parent r x y)
    split r x y h ox oy oz z kx ky =
        let (a, n) = starts_double e q in
        let p = pow-succ' 2 e in
        let f = pow_pos e in
        by_order c (q * 2 ^ suc e + 2 ^ e)
        (λ g. left e (2 * q) b r x y ox oz (omega arith) (omega arith) (not_full r h (is_full c r) refl)
        (ih (2 * q) (2 ^ e) b x f (omega arith) ox kx (omega arith) (omega arith) (omega arith) (omega arith)))
        (λ g. right e (2 * q) b r x y ox (omega arith) (omega arith) (omega arith) (not_full r h (is_full c r) refl) (full_left c e q g v)
        (subst (λ (i : ℕ). Reach c i (2 ^ e) y) (n ∙ ap (λ (i : ℕ). i + 2 ^ e) (sym a))
        (ih (2 * q + 1) (w - 2 ^ e) (2 ^ e) y (omega arith) (omega arith) oy ky (omega arith) (omega arith) (omega arith) (omega arith))))

    go : (t : Walk) → Over (range (q * 2 ^ suc e) w) t → Clear c t → Reach c (q * 2 ^ suc e) b t
    go (retained r) o k = absurd (stop r o k)
    go (given r) o k = absurd (stop r o k)
    go (shown p) o k = let ew : 1 ≡ w = ap (λ (y : Range). y.width) o in absurd (omega (arith, pow_pos e))
    go (parent r x y) (h, _, ox, oy) (kx, ky) =
        let (a, z) = halves_most e q w l u in
        let hr : right_half r ≡ right_half (range (q * 2 ^ suc e) w) = ap right_half h in
        subst (λ (i : ℕ). Reach c i b (parent r x y)) (starts_double e q).0
        (split r x y h (subst (λ (i : Range). Over i x) a ox) (subst (λ (i : Range). Over i y) z oy) (subst (λ (i : Range). Over i y) (sym hr) oy)
        (ap (λ (i : Range). i.start) (hr ∙ z)) kx ky)

-- A walk with no stop across c comes to c.
reached : (c e : ℕ) → Reached c e
reached c zero q w b t p u o k s v i d = starting (range (q * 2 ^ 0) w) b t o (omega arith)
reached c (suc e) q w b t p u o k s v i d = by_order (q * 2 ^ suc e) c
    (λ l. by_order (2 ^ e) w (λ m. reach_split c e q w b t (reached c e) m u o k l v i d) (λ m. lower (reached c e) l m))
    (λ l. starting (range (q * 2 ^ suc e) w) b t o (omega arith))
  where
    lower : Reached c e → q * 2 ^ suc e < c → w ≤ 2 ^ e → Reach c (q * 2 ^ suc e) b t
    lower ih l m =
        let (a, n) = starts_double e q in
        let f = pow-succ' 2 e in
        let x : Over (range (2 * q * 2 ^ e) w) t = subst (λ (i : ℕ). Over (range i w) t) (sym a) o in
        subst (λ (i : ℕ). Reach c i b t) a
        (by_order c (q * 2 ^ suc e + 2 ^ e)
        (λ g. ih (2 * q) w b t p m x k (omega arith) (omega arith) (omega arith) (omega arith))
        (λ g.
        let z : w ≡ 2 ^ e = omega arith in
        ending e (2 * q) b t (subst (λ (i : ℕ). Over (range (2 * q * 2 ^ e) i) t) z x) (omega (arith, pow_pos e)) (omega arith) (full_left c e q g v)))

-- So does one over a log of n entries, from its first entry on.
pub reach_root : (n c : ℕ) (t : Walk) → 0 < n → c ≤ n → Over (range 0 n) t → Clear c t → Reach c 0 (2 ^ n) t
reach_root n c t p h o k =
    let b = below_power n in
    let z : 0 * 2 ^ n ≡ 0 = omega arith in
    subst (λ (i : ℕ). Reach c i (2 ^ n) t) z
    (reached c n 0 n (2 ^ n) t p (omega arith) (subst (λ (i : ℕ). Over (range i n) t) (sym z) o) k (omega arith) (omega arith) (omega arith) (omega arith))

-- ---- entries to which the walk comes

-- Whole blocks before c are clear of it.
pub clear_before : (c : ℕ) (r : Range) (t : Walk) → Over r t → Stops IsBlock IsBlock t → r.start + r.width ≤ c → Clear c t
clear_before c r (retained x) o (j, w) h = inr (j, w, rw o h)
clear_before c r (given x) o (j, w) h = inr (j, w, rw o h)
clear_before c r (shown p) o s h = tt
clear_before c r (parent z x y) (_, w, a, b) (s, t) h =
    let (i, j) = halves_meet r w in
    let (k, l) = left_half_lem r in
    (clear_before c (left_half r) x a s (omega arith), clear_before c (right_half r) y b t (omega arith))

pub or_true : (s : Bool) → (s || true) ≡ true
or_true true = refl
or_true false = refl

-- The walk with the full subtrees of m comes to m: a range with m inside of it holds a full subtree
-- and is none, so that the walk does not stop there; and one that is cut off at n starts after m,
-- if it holds none.
pub clear_kept : (n m : ℕ) → m ≤ n → {ps : List ℕ} {r : Range} {t : Walk} → Walks m ps r t → Subtree n r → Clear m t
clear_kept n m h (keeps {r} a b) s = inr (block_full m r b)
clear_kept n m h (takes {r} a b) s = apart r s b
  where
    apart : (r : Range) → Subtree n r → holds_full m r ≡ false → Apart m r
    apart r (whole e q l) k = by_order (q * 2 ^ e) m
        (λ a. by_order m (q * 2 ^ e + 2 ^ e) (λ b. absurd (false≢true (sym k ∙ held a b))) (λ b. inr (e, refl, b))) (λ a. inl a)
      where
        held : q * 2 ^ e < m → m < q * 2 ^ e + 2 ^ e → holds_full m (block e q) ≡ true
        held a b = holds_block m e q ∙ rw (lt-ltb (q * 2 ^ e) m a, lt-ltb m (q * 2 ^ e + 2 ^ e) b) (or_true (is_full m (block e q)))
    apart r (cut e q w l u t) k = inl (ltb-false (q * 2 ^ suc e) m (sym (holds_cut m n e q w l u t h) ∙ k))
clear_kept n m h (shows w) s = tt
clear_kept n m h (splits {r} w x y) s = let (a, b) = subtree_halves n r s w in (clear_kept n m h x a, clear_kept n m h y b)

-- the last of n entries is shown, or all of them are known
abbrev pub LastKnown : ℕ → ℕ → List ℕ → Type 0
LastKnown n m ps = Memᴰ (n - 1) ps ⊎ (m ≡ n)

-- Then the walk over n entries stops at whole blocks only: what is cut off at n holds the last
-- entry.
pub stops_blocks : {n m : ℕ} {ps : List ℕ} {r : Range} {t : Walk} → LastKnown n m ps → Walks m ps r t → Subtree n r → Stops IsBlock IsBlock t
stops_blocks {n} {m} h (keeps {r} a b) s = go r s b
  where
    go : (r : Range) → Subtree n r → is_full m r ≡ true → IsBlock r
    go r (whole e q l) k = (e, refl)
    go r (cut e q w l u t) k = absurd (false≢true (sym (full_cut m e (q * 2 ^ suc e) w l u) ∙ k))
stops_blocks {n} {m} {ps} h (takes {r} a b) s = go r s h a b
  where
    go : (r : Range) → Subtree n r → LastKnown n m ps → is_shown ps r ≡ false → holds_full m r ≡ false → IsBlock r
    go r (whole e q l) h a b = (e, refl)
    go r (cut e q w l u t) (inl i) a b = absurd (false≢true (sym a ∙ inside_shown ps (range (q * 2 ^ suc e) w) (n - 1) i (omega arith, omega arith)))
    go r (cut e q w l u t) (inr i) a b = absurd (false≢true (sym b ∙ holds_cut m n e q w l u t (omega arith) ∙ lt-ltb (q * 2 ^ suc e) m (omega arith)))
stops_blocks h (shows w) s = tt
stops_blocks {n} h (splits {r} w x y) s = let (a, b) = subtree_halves n r s w in (stops_blocks h x a, stops_blocks h y b)
