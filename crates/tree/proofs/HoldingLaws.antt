-- Which subtrees hold which (specs/LogTree.antt): the full subtree of m entries that holds an
-- entry, and where it lies in the subtrees of a larger log.
use mathlib.Core.Path.{◌≡◌, refl, sym, ap, ap₂, ◌∙◌}
use mathlib.Core.Bool.{true, ◌&&◌}
use mathlib.Core.List.Memᴰ
use mathlib.Core.List.{List, [], ◌∷◌, Memᴰ}
use Prim.Native.Nat.{ℕ, zero, suc, ◌+◌, ◌-◌, ◌*◌, ◌/◌, ◌%◌, ◌^◌, ◌≤◌, ◌<◌}
use native.Mathlib.Nat.{mul-le-mul_right}
use native.Mathlib.Omega.{arith}
use lib.Dec.{leb, ltb}
use lib.Pow.{pow_mono}
use borrow.Author.Tests.{le-leb, lt-ltb}
use Rattle.lists.proofs.ChoiceLaws.{holds_and}
use Rattle.lists.proofs.ListLaws.{at_any}
use Rattle.tree.specs.LogTree.{Range, split_at, left_half, right_half, full_subtrees, is_full, holds_full}
use Rattle.tree.specs.LogTree.{is_shown}
use Rattle.tree.proofs.DigitLaws.{cut_bounds, by_order}
use Rattle.tree.proofs.PowerLaws.{split_full, split_unique, left_half_lem, halves_meet}
use Rattle.tree.proofs.FullLaws.{SideBySide, full_adjoin}
use Rattle.tree.proofs.SubtreeLaws.{Subtree, whole, cut, start_lower, starts_double}
use Rattle.tree.proofs.FullBlockLaws.{full_listed, listed_full, full_is_block, held}

-- ---- ranges

-- p is an entry of r
abbrev pub Inside : Range → ℕ → Type 0
Inside r p = (r.start ≤ p) × (p < r.start + r.width)

-- every entry of r is one of s
abbrev pub LiesIn : Range → Range → Type 0
LiesIn s r = (s.start ≤ r.start) × (r.start + r.width ≤ s.start + s.width)

-- Ranges with one start and one width are equal.
pub range_equal : (r s : Range) → r.start ≡ s.start → r.width ≡ s.width → r ≡ s
range_equal r s e w = ap₂ (λ (a b : ℕ). record { start = a; width = b }) e w

-- A range with a shown entry is shown.
pub inside_shown : (ps : List ℕ) (r : Range) (p : ℕ) → Memᴰ p ps → Inside r p → is_shown ps r ≡ true
unfolding is_shown
inside_shown ps r p i (a, b) =
    at_any (λ (p : ℕ). leb r.start p && ltb p (r.start + r.width)) ps p i
    (holds_and (leb r.start p) (ltb p (r.start + r.width)) (le-leb r.start p a) (lt-ltb p (r.start + r.width) b))

-- ---- the full subtree that holds an entry

-- A range in which a full subtree lies holds one.
pub holds_full_lem : (m : ℕ) (r f : Range) → is_full m f ≡ true → LiesIn r f → holds_full m r ≡ true
holds_full_lem m r f e (a, b) = held m r f (full_listed m f e) a b

-- Of ranges side by side one holds each entry between their ends.
side_holds : (s e p : ℕ) (l : List Range) → SideBySide s e l → s ≤ p → p < e → (f : Range) × Memᴰ f l × Inside f p
side_holds s e p [] h a b = absurd (omega arith)
side_holds s e p (r ∷ l) (h, t) a b = by_order p (s + r.width)
    (λ c. (r, Memᴰ.head refl, (omega arith, omega arith)))
    (λ c. let (f, i, k) = side_holds (s + r.width) e p l t c b in (f, Memᴰ.tail i, k))

-- Ranges side by side start no earlier than the first.
side_from : (s e : ℕ) (l : List Range) (f : Range) → SideBySide s e l → Memᴰ f l → s ≤ f.start
side_from s e [] f h i = absurd (Memᴰ.not-nil i)
side_from s e (r ∷ l) f (h, t) (Memᴰ.head q) = let z : f.start ≡ r.start = ap (λ (x : Range). x.start) q in omega arith
side_from s e (r ∷ l) f (h, t) (Memᴰ.tail i) = let z = side_from (s + r.width) e l f t i in omega arith

-- What the first of ranges side by side holds, no other does.
side_first : (s e p : ℕ) (r : Range) (l : List Range) (f g : Range) → SideBySide s e (r ∷ l) → f ≡ r → Memᴰ g l → Inside f p → Inside g p → ⊥
side_first s e p r l f g (h, t) q j a b =
    let z : f.start ≡ r.start = ap (λ (x : Range). x.start) q in
    let w : f.width ≡ r.width = ap (λ (x : Range). x.width) q in
    let k = side_from (s + r.width) e l g t j in
    omega arith

-- Of ranges side by side only one holds an entry.
side_one : (s e p : ℕ) (l : List Range) (f g : Range) → SideBySide s e l → Memᴰ f l → Memᴰ g l → Inside f p → Inside g p → f ≡ g
side_one s e p [] f g h i j a b = absurd (Memᴰ.not-nil i)
side_one s e p (r ∷ l) f g h (Memᴰ.head q) (Memᴰ.head q') a b = q ∙ sym q'
side_one s e p (r ∷ l) f g h (Memᴰ.head q) (Memᴰ.tail j) a b = absurd (side_first s e p r l f g h q j a b)
side_one s e p (r ∷ l) f g h (Memᴰ.tail i) (Memᴰ.head q) a b = absurd (side_first s e p r l g f h q i b a)
side_one s e p (r ∷ l) f g (h, t) (Memᴰ.tail i) (Memᴰ.tail j) a b = side_one (s + r.width) e p l f g t i j a b

-- Each of the m entries is in a full subtree.
pub entry_in_full : (m p : ℕ) → p < m → (f : Range) × (is_full m f ≡ true) × Inside f p
entry_in_full m p h =
    let (f, i, k) = side_holds 0 m p (full_subtrees m) (full_adjoin m) (omega arith) h in
    (f, listed_full m f i, k)

-- Two full subtrees that hold one entry are equal.
pub full_one : (m p : ℕ) (f g : Range) → is_full m f ≡ true → is_full m g ≡ true → Inside f p → Inside g p → f ≡ g
full_one m p f g a b = side_one 0 m p (full_subtrees m) f g (full_adjoin m) (full_listed m f a) (full_listed m g b)

-- ---- full subtrees as blocks

-- a full subtree of m as a block: the last whole one of its level, and the left one of its pair
pub record FullBlock (m : ℕ) (f : Range) : Type 0 where
  pub level : ℕ
  pub number : ℕ
  pub starts : f.start ≡ number * 2 ^ level
  pub wide : f.width ≡ 2 ^ level
  pub even : number % 2 ≡ 0
  pub ends : number * 2 ^ level + 2 ^ level ≤ m
  pub last : m < number * 2 ^ level + 2 ^ suc level

-- Each full subtree is such a block.
pub full_as_block : (m : ℕ) (f : Range) → is_full m f ≡ true → FullBlock m f
full_as_block m f h =
    let (e, o, q) = full_is_block m f h in
    let c : m / 2 ^ e ≡ m / 2 ^ e - 1 + 1 = omega arith in
    let d : m / 2 ^ e * 2 ^ e ≡ (m / 2 ^ e - 1) * 2 ^ e + 2 ^ e = ap (λ (x : ℕ). x * 2 ^ e) c ∙ omega arith in
    let (a, b) = cut_bounds m e in
    record { level = e; number = m / 2 ^ e - 1; starts = ap (λ (x : Range). x.start) q; wide = ap (λ (x : Range). x.width) q; even = omega arith; ends = omega arith; last = omega arith }

-- A block that holds p lies on one side of each boundary between blocks at least as wide: on that
-- on which p lies.
block_side : (d e i c p : ℕ) → d ≤ e → i * 2 ^ d ≤ p → p < i * 2 ^ d + 2 ^ d
    → (c * 2 ^ e ≤ p → c * 2 ^ e ≤ i * 2 ^ d) × (p < c * 2 ^ e → i * 2 ^ d + 2 ^ d ≤ c * 2 ^ e)
block_side d e i c p h a b =
    let x : ℕ = c * 2 ^ (e - d) in
    let q : x * 2 ^ d ≡ c * 2 ^ e = start_lower e d c h in
    by_order i x
    (λ l. let k : (i + 1) * 2 ^ d ≤ x * 2 ^ d = mul-le-mul_right (2 ^ d) (omega arith) in (λ u. absurd (omega arith), λ u. omega arith))
    (λ l. let k : x * 2 ^ d ≤ i * 2 ^ d = mul-le-mul_right (2 ^ d) l in (λ u. omega arith, λ u. absurd (omega arith)))

-- ---- where a full subtree lies

-- A full subtree ends within the m entries.
pub full_ends : (m : ℕ) (f : Range) → is_full m f ≡ true → f.start + f.width ≤ m
full_ends m f h = let b = full_as_block m f h in omega arith

-- A full subtree of a smaller log lies in the full subtree of a larger one that holds an entry of
-- it: were it wider, the larger log would have more entries than its own full subtree allows.
pub full_grows : (m n p : ℕ) (f g : Range) → m ≤ n → is_full m f ≡ true → is_full n g ≡ true → Inside f p → Inside g p → LiesIn g f
full_grows m n p f g h x y i j =
    let b = full_as_block m f x in
    let c = full_as_block n g y in
    by_order c.level b.level
    (λ l.
    let q : 2 * (c.number / 2) ≡ c.number = omega arith in
    let z : c.number / 2 * 2 ^ suc c.level ≡ c.number * 2 ^ c.level = sym (starts_double c.level (c.number / 2)).0 ∙ ap (λ (x : ℕ). x * 2 ^ c.level) q in
    absurd (omega (arith, (block_side (suc c.level) b.level (c.number / 2) (b.number + 1) p l (omega arith) (omega arith)).1 (omega arith))))
    (λ l. (
      omega (arith, (block_side b.level c.level b.number c.number p l (omega arith) (omega arith)).0 (omega arith)),
      omega (arith, (block_side b.level c.level b.number (c.number + 1) p l (omega arith) (omega arith)).1 (omega arith)),
    ))

-- A subtree of more than one entry splits in the middle of the block of which it is a beginning.
subtree_split : (n : ℕ) (r : Range) → Subtree n r → 1 < r.width
    → (e : ℕ) × (q : ℕ) × (r.start ≡ q * 2 ^ suc e) × (split_at r.width ≡ 2 ^ e) × (r.width ≤ 2 ^ suc e)
subtree_split n r (whole zero q h) w = absurd (omega arith)
subtree_split n r (whole (suc e) q h) w = (e, q, refl, split_full e, omega arith)
subtree_split n r (cut e q w l u t) h = (e, q, refl, split_unique e w l (omega arith), omega arith)

-- a range f that holds p is r, or lies in that half of r in which p is
pub data Lies (r f : Range) (p : ℕ) : Type 0 where
  equal : f ≡ r → Lies r f p
  in_left : p < r.start + split_at r.width → LiesIn (left_half r) f → Lies r f p
  in_right : r.start + split_at r.width ≤ p → LiesIn (right_half r) f → Lies r f p

-- A full subtree that lies in a subtree of a log is that subtree, or lies in one half of it.
pub full_in_half : (m n p : ℕ) (r f : Range) → Subtree n r → 1 < r.width → is_full m f ≡ true → Inside f p → LiesIn r f → Lies r f p
full_in_half m n p r f s h x i j =
    let b = full_as_block m f x in
    let (e, q, rs, sp, ru) = subtree_split n r s h in
    let (ls, lw) = left_half_lem r in
    let (hs, hw) = halves_meet r h in
    by_order e b.level
    (λ l. let k : 2 ^ suc e ≤ 2 ^ b.level = pow_mono l in equal (range_equal f r (omega arith) (omega arith)))
    (λ l.
    let y = starts_double e q in
    let k = block_side b.level e b.number (2 * q + 1) p l (omega arith) (omega arith) in
    by_order p (r.start + split_at r.width)
    (λ u. let v = k.1 (omega arith) in in_left u (omega arith, omega arith))
    (λ u. let v = k.0 (omega arith) in in_right u (omega arith, omega arith)))
