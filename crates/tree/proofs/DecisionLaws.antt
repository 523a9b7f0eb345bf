-- Laws of what the walk decides at a whole block (src/log_tree.rt): full or not, holding a full
-- subtree or not, and where its kept value stands.
use mathlib.Core.Path.{◌≡◌, refl, sym, ap, ap₂, ◌∙◌, subst}
use mathlib.Core.Logic.{inl, inr}
use mathlib.Core.Bool.{Bool, true, false, ◌&&◌, ◌||◌}
use Prim.Native.Nat.{ℕ, suc, ◌+◌, ◌*◌, ◌/◌, ◌%◌, ◌^◌, ◌≤◌, ◌<◌}
use native.Mathlib.Nat.{pow-succ', mod-lt}
use native.Mathlib.Decide.{dec_lt}
use native.Mathlib.Omega.{arith}
use lib.Count.{ones, ones_step, ones_cat, ones-le}
use lib.Dec.{eqb, ltb}
use lib.ListN.{get_or, take, drop}
use lib.Pow.{pow_pos, shl-shr, split}
use borrow.Author.Tests.{lt-ltb, le-ltb, eq-eqb, ne_eqb, eqb-true}
use Rattle.lists.specs.Lists.{Bytes, runs}
use Rattle.lists.proofs.ChoiceLaws.{and_holds}
use Rattle.hash.specs.Sha256.{digest_length}
use Rattle.tree.specs.declared.log_tree.Source.{Source}
use Rattle.tree.specs.declared.log_tree.Source.TheVariants.{Retained, Given, Shown, Parent}
use Rattle.tree.specs.LogTree.{Range, full_subtrees, is_full, holds_full, value_among, kept_value, zeros}
use Rattle.tree.specs.LogHead.{level_limit, known_in}
use Rattle.tree.specs.LogWalk.{range, Whole, Halves, even, uneven, SourceFacts}
use Rattle.tree.proofs.DigitLaws.{halved}
use Rattle.tree.proofs.RunLaws.{runs-at}
use Rattle.tree.proofs.SubtreeLaws.{block}
use Rattle.tree.proofs.FullBlockLaws.{full_block, holds_block, value_among_lem}

-- a number that is not above a power of two has no more ones than the power has zeros
pub ones_limit : (l n : ℕ) → 0 < l → n ≤ 2 ^ l → ones n ≤ l
unfolding ones
ones_limit l n p h = go (dec_lt n (2 ^ l))
  where
    one : ones (1 * 2 ^ l + 0) ≡ 1
    one = ones_cat l 1 0 (pow_pos l)

    go : Dec (n < 2 ^ l) → ones n ≤ l
    go (yes a) = ones-le l n a
    go (no a) = let e : n ≡ 1 * 2 ^ l + 0 = omega arith in omega (arith, ap ones e, one)

-- what is known of a step is known of the one that it is
pub step_told : {a b : Bool} (m : ℕ) (r : Range) {x : Source} (y : Source) → x ≡ y → a ≡ b → SourceFacts a m r x → SourceFacts b m r y
step_told m r y e q f = subst (λ (t : Bool). SourceFacts t m r y) q (subst (SourceFacts _ m r) e f)

-- ---- full subtrees

-- a block has entries
pub whole_some : {s w : ℕ} → Whole s w → 0 < w
whole_some h = rw h.width_is (pow_pos h.level)

module _ (m s w : ℕ) (h : Whole s w) where
  -- its number is its start by its width
  number_is : s / w ≡ h.number
  number_is = rw (h.width_is, h.start_is) (shl-shr h.number h.level)

  -- it is the block of its level and number
  block-is : range s w ≡ block h.level h.number
  block-is = ap₂ range h.start_is h.width_is

  -- whether it is full
  full-test : is_full m (range s w) ≡ (eqb (m / w) (s / w + 1) && eqb (s / w % 2) 0)
  full-test =
      ap (is_full m) block-is ∙ full_block m h.level h.number
      ∙ ap₂ (λ (q v : ℕ). eqb (m / v) (q + 1) && eqb (q % 2) 0) (sym number_is) (sym h.width_is)

  -- where it is the last whole one of its width, it is full if its number is even
  pub full-taken : m / w ≡ s / w + 1 → eqb (s / w % 2) 0 ≡ is_full m (range s w)
  full-taken e = sym (full-test ∙ rw (eq-eqb (m / w) (s / w + 1) e) refl)

  -- where it is not, it is not full
  pub full_left : (m / w ≡ s / w + 1 → ⊥) → false ≡ is_full m (range s w)
  full_left e = sym (full-test ∙ rw (ne_eqb (m / w) (s / w + 1) e) refl)

  -- whether it holds a full subtree
  holds_test : holds_full m (range s w) ≡ (is_full m (range s w) || (ltb s m && ltb m (s + w)))
  holds_test =
      rw (h.width_is, h.start_is) (holds_block m h.level h.number)

  -- ---- the kept value of a full one

  -- its place among the kept values: as many stand before it as size has higher digits that are set
  kept-number : is_full m (range s w) ≡ true → ones (m / (2 * w)) < ones m
  kept-number f =
      let e : ℕ = h.level in
      let (a, b) = and_holds _ _ (sym full-test ∙ f) in
      let x : m / 2 ^ e ≡ s / w + 1 = ap (λ (v : ℕ). m / v) (sym h.width_is) ∙ eqb-true _ _ a in
      let z : s / w % 2 ≡ 0 = eqb-true _ _ b in
      let c : ones m ≡ ones (m / 2 ^ e) + ones (m % 2 ^ e) = ap ones (sym (split m e)) ∙ ones_cat e (m / 2 ^ e) (m % 2 ^ e) (mod-lt m (pow_pos e)) in
      let d : m / (2 * w) ≡ m / 2 ^ e / 2 = ap (λ (v : ℕ). m / v) (rw h.width_is (sym (pow-succ' 2 e))) ∙ halved m e in
      omega (arith, c, ones_step (m / 2 ^ e), ap ones d, x, z)

  -- as many values as there are levels leave room for it
  pub kept-room : (l : ℕ) → 0 < l → m ≤ 2 ^ l → is_full m (range s w) ≡ true → ones (m / (2 * w)) < l
  kept-room l p u f = omega (arith, kept-number f, ones_limit l m p u)

  -- it is the value found among the kept ones
  pub kept-is : (t b : Bytes) → is_full m (range s w) ≡ true → take digest_length (drop (digest_length * ones (m / (2 * w))) b) ≡ kept_value (known_in t m b) (range s w)
  unfolding kept_value known_in
  kept-is t b f =
      let e : ℕ = h.level in
      let d : m / (2 * w) ≡ m / 2 ^ suc e = ap (λ (v : ℕ). m / v) (rw h.width_is (sym (pow-succ' 2 e))) in
      sym (runs-at (ones m) digest_length b (ones (m / (2 * w))) zeros (kept-number f))
      ∙ ap (λ (i : ℕ). get_or (runs (ones m) digest_length b) (ones i) zeros) d
      ∙ sym (ap (value_among (full_subtrees m) (runs (ones m) digest_length b)) block-is
      ∙ value_among_lem m e h.number (runs (ones m) digest_length b) (ap (is_full m) (sym block-is) ∙ f))

  -- ---- the step that it takes, the next shown entry being at a position

  module _ (p : ℕ) where
    -- a single entry that is shown is hashed
    pub step-shown : p < s + w → w ≡ 1 → SourceFacts (ltb p (s + w)) m (range s w) Shown
    step-shown b e = (lt-ltb p (s + w) b, e)

    -- more entries of which one is shown split
    pub step-parent : p < s + w → (w ≡ 1 → ⊥) → SourceFacts (ltb p (s + w)) m (range s w) Parent
    step-parent b e = (omega (arith, whole_some h, e), inl (lt-ltb p (s + w) b))

    -- with nothing shown a full subtree is retained
    pub step-retained : s + w ≤ p → is_full m (range s w) ≡ true → SourceFacts (ltb p (s + w)) m (range s w) Retained
    step-retained b f = (le-ltb p (s + w) b, f)

  -- ---- the step that it takes, something being shown in it or not

  -- those after the m entries are given
  pub step_after : {b : Bool} → b ≡ false → is_full m (range s w) ≡ false → m ≤ s → SourceFacts b m (range s w) Given
  step_after e f l = (e, f, holds_test ∙ rw (f, le-ltb s m l) refl)

  -- those among the m entries that are not full are given
  pub step-before : {b : Bool} → b ≡ false → is_full m (range s w) ≡ false → s < m → s + w ≤ m → SourceFacts b m (range s w) Given
  step-before e f l u = (e, f, holds_test ∙ rw (f, lt-ltb s m l, le-ltb m (s + w) u) refl)

  -- those in which the m entries end split
  pub step-within : {b : Bool} → is_full m (range s w) ≡ false → s < m → m < s + w → SourceFacts b m (range s w) Parent
  step-within f l u = (omega arith, inr (f, holds_test ∙ rw (f, lt-ltb s m l, lt-ltb m (s + w) u) refl))

-- ---- the halves of a parent

-- equal halves are those of a whole block
pub halves_even : (m start half rest : ℕ) → Halves m start half rest → rest ≡ half → Whole start (half + rest)
halves_even m start half rest (even e h) q = h
halves_even m start half rest (uneven l f) q = absurd (omega arith)

-- others are of no full subtree
pub halves_uneven : (m start half rest : ℕ) → Halves m start half rest → (rest ≡ half → ⊥) → is_full m (range start (half + rest)) ≡ false
halves_uneven m start half rest (even e h) q = absurd (q e)
halves_uneven m start half rest (uneven l f) q = f

-- either way they are no more than a log may have
pub halves_small : (m start half rest : ℕ) → Halves m start half rest → rest ≡ half → half + rest ≤ 2 ^ level_limit
halves_small m start half rest h q = let w = halves_even m start half rest h q in omega (arith, w.small)
