-- Laws of a string at an offset of it, and of what stands before and after the first byte k there
-- (specs/Line.antt).
use mathlib.Core.Path.{◌≡◌, refl, sym, ◌∙◌, ap}
use mathlib.Core.Bool.{Bool, true, false}
use mathlib.Core.List.{List, [], ◌∷◌, ◌++◌}
use Prim.Native.Nat.{ℕ, suc, ◌+◌, ◌-◌, ◌≤◌, ◌<◌, max}
use native.Mathlib.Numerals.{add-one}
use native.Mathlib.Decide.{dec_lt}
use native.Mathlib.Omega.{arith}
use lib.Dec.{eqb}
use lib.ListN.{length, take, drop, get_or, drop_of_length-le}
use lib.Seq.{drop-cons, drop-drop}
use borrow.Author.Tests.{eq-eqb, ne_eqb, eqb-true, eqb-false}
use Rattle.lists.specs.Lists.{Bytes}
use Rattle.lists.proofs.ListLaws.{Lacks}
use Rattle.lines.specs.Line.{before, after}

-- ---- an offset

-- the element at an offset, and those after it
pub at_cons : (s : List ℕ) (i : ℕ) → i < length s → drop i s ≡ get_or s i 0 ∷ drop (i + 1) s
at_cons s i h = rw add-one (drop-cons s i 0 h)

-- nothing stands at the end
pub at_end : {A : Type 0} (s : List A) (i : ℕ) → length s ≤ i → drop i s ≡ []
at_end s i h = drop_of_length-le s {i = i} h

-- ---- one step

-- nothing stands before the byte k
pub before_stop : (k b : ℕ) (s : Bytes) → b ≡ k → before k (b ∷ s) ≡ []
unfolding before
before_stop k b s e = rw (eq-eqb b k e) refl

-- any other byte stands before it
pub before_byte : (k b : ℕ) (s : Bytes) → (b ≡ k → ⊥) → before k (b ∷ s) ≡ b ∷ before k s
unfolding before
before_byte k b s n = rw (ne_eqb b k n) refl

-- what follows the byte k stands after it
pub after_stop : (k b : ℕ) (s : Bytes) → b ≡ k → after k (b ∷ s) ≡ s
unfolding after
after_stop k b s e = rw (eq-eqb b k e) refl

-- any other byte is passed over
pub after_byte : (k b : ℕ) (s : Bytes) → (b ≡ k → ⊥) → after k (b ∷ s) ≡ after k s
unfolding after
after_byte k b s n = rw (ne_eqb b k n) refl

module _ (k : ℕ) (s : Bytes) (i : ℕ) where
  -- at a byte k nothing stands before it
  pub span-stop : i < length s → get_or s i 0 ≡ k → length (before k (drop i s)) ≡ 0
  span-stop h e = ap length (ap (before k) (at_cons s i h) ∙ before_stop k (get_or s i 0) (drop (i + 1) s) e)

  -- at any other byte one more stands before it than at the next offset
  pub span_more : i < length s → (get_or s i 0 ≡ k → ⊥)
      → length (before k (drop i s)) ≡ suc (length (before k (drop (i + 1) s)))
  span_more h n = ap length (ap (before k) (at_cons s i h) ∙ before_byte k (get_or s i 0) (drop (i + 1) s) n)

  -- at the end nothing does
  pub span-end : length s ≤ i → length (before k (drop i s)) ≡ 0
  unfolding before
  span-end h = rw (at_end s i h) refl

-- once all is passed, the end is the answer, or an offset beyond it itself
pub span_past : (k : ℕ) (s : Bytes) (at i : ℕ) → (at ≤ length s → i ≤ length s) → length s ≤ i
    → i + length (before k (drop i s)) ≡ at + length (before k (drop at s))
    → max at (length s) ≡ at + length (before k (drop at s))
span_past k s at i f h e = go (dec_lt (length s) at)
  where
    go : Dec (length s < at) → max at (length s) ≡ at + length (before k (drop at s))
    go (yes p) = omega (arith, span-end k s at (omega arith))
    go (no p) = omega (arith, e, f (omega arith), span-end k s i h)

-- ---- parts of a string

-- what stands before the first byte k is the front of the string
pub before_front : (k : ℕ) (s : Bytes) → before k s ≡ take (length (before k s)) s
unfolding before
before_front k [] = refl
before_front k (b ∷ s) = go (eqb b k) refl (before_front k s)
  where
    go : (t : Bool) → eqb b k ≡ t → before k s ≡ take (length (before k s)) s
        → before k (b ∷ s) ≡ take (length (before k (b ∷ s))) (b ∷ s)
    go true e i = rw (before_stop k b s (eqb-true b k e)) refl
    go false e i = rw (before_byte k b s (eqb-false b k e)) (ap (λ (t : Bytes). b ∷ t) i)

-- what stands after it is the rest without that byte
pub after_rest : (k : ℕ) (s : Bytes) → after k s ≡ drop (suc (length (before k s))) s
unfolding before after
after_rest k [] = refl
after_rest k (b ∷ s) = go (eqb b k) refl (after_rest k s)
  where
    go : (t : Bool) → eqb b k ≡ t → after k s ≡ drop (suc (length (before k s))) s
        → after k (b ∷ s) ≡ drop (suc (length (before k (b ∷ s)))) (b ∷ s)
    go true e i = rw (before_stop k b s (eqb-true b k e), after_stop k b s (eqb-true b k e)) refl
    go false e i = rw (before_byte k b s (eqb-false b k e), after_byte k b s (eqb-false b k e)) i

-- what stands between an offset and the first byte k from there on
pub before_at : (k : ℕ) (s : Bytes) (at stop : ℕ) → stop ≡ at + length (before k (drop at s))
    → take (stop - at) (drop at s) ≡ before k (drop at s)
before_at k s at stop e =
    let d : stop - at ≡ length (before k (drop at s)) = omega arith in
    ap (λ (n : ℕ). take n (drop at s)) d ∙ sym (before_front k (drop at s))

-- what stands after that byte
pub after_at : (k : ℕ) (s : Bytes) (at stop : ℕ) → stop ≡ at + length (before k (drop at s))
    → drop (stop + 1) s ≡ after k (drop at s)
after_at k s at stop e =
    let d : stop + 1 ≡ at + suc (length (before k (drop at s))) = omega arith in
    sym (after_rest k (drop at s) ∙ drop-drop (suc (length (before k (drop at s)))) at s
    ∙ ap (λ (n : ℕ). drop n s) (sym d))

-- bytes that lack k stand before the first byte k, which follows them
pub before_lacks : (k : ℕ) (p s : Bytes) → Lacks k p → before k (p ++ k ∷ s) ≡ p
before_lacks k [] s h = before_stop k k s refl
before_lacks k (b ∷ p) s h = before_byte k b (p ++ k ∷ s) h.0 ∙ ap (λ (t : Bytes). b ∷ t) (before_lacks k p s h.1)

-- and what follows it stands after it
pub after_lacks : (k : ℕ) (p s : Bytes) → Lacks k p → after k (p ++ k ∷ s) ≡ s
after_lacks k [] s h = after_stop k k s refl
after_lacks k (b ∷ p) s h = after_byte k b (p ++ k ∷ s) h.0 ∙ after_lacks k p s h.1

-- what the code that looks for a byte is proved by
pub ruleset spans = (span-stop, span_more, span_past)
