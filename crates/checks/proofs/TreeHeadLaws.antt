-- Laws of the text that a log signs: it is compared part by part (src/tree_head.rt).
use mathlib.Core.Path.{◌≡◌, refl, sym, ◌∙◌, ap}
use mathlib.Core.Bool.{true, false}
use mathlib.Core.List.{List, [], ◌∷◌, ◌++◌, append_assoc}
use Prim.Native.Nat.{ℕ}
use lib.ListN.{length, take, drop, take-append-drop}
use lib.Seq.{take_at}
use borrow.Author.Tests.{eq-eqb}
use Rattle.lists.specs.Lists.{Bytes, same}
use lib.Dec.{eqb}
use lib.Pointwise.{pointwise}
use Rattle.lists.proofs.ListLaws.{same_true, differ_same, same_false}
use Rattle.lists.proofs.SameLaws.{slices_same}
use Rattle.hash.specs.Bytes.{big_endian}
use Rattle.rules.specs.Configuration.{tree_head}

-- ---- a text against two parts

-- what both begin with does not count
same_behind : (a s t : List ℕ) → same (a ++ s) (a ++ t) ≡ same s t
unfolding same
same_behind [] s t = refl
same_behind (x ∷ a) s t = rw (eq-eqb x x refl) (same_behind a s t)

module _ (s a t : List ℕ) where
  -- one that does not begin with the first part
  other-front : pointwise eqb (take (length a) s) a ≡ false → false ≡ same s (a ++ t)
  other-front h =
      sym (differ_same s (a ++ t) (λ e. same_false (take (length a) s) a (sym (slices_same (take (length a) s) a) ∙ h) (ap (take (length a)) e ∙ take_at a t (length a) refl)))

  -- one that begins with it
  same-front : pointwise eqb (take (length a) s) a ≡ true → same (drop (length a) s) t ≡ same s (a ++ t)
  same-front h =
      let b : same (take (length a) s) a ≡ true = sym (slices_same (take (length a) s) a) ∙ h in
      let e : a ++ drop (length a) s ≡ s = ap (λ (x : List ℕ). x ++ drop (length a) s) (sym (same_true (take (length a) s) a b)) ∙ take-append-drop (length a) s in
      sym (same_behind a (drop (length a) s) t) ∙ ap (λ (x : List ℕ). same x (a ++ t)) e

-- ---- a text against a tree head

-- the configuration first, then the size and the root
head_parts : (a : Bytes) (n : ℕ) (r : Bytes) → tree_head a n r ≡ a ++ (big_endian 8 n ++ r)
unfolding tree_head
head_parts a n r = append_assoc a (big_endian 8 n) r

module _ (s a : Bytes) (n : ℕ) (r : Bytes) where
  -- another configuration
  pub configuration-other : pointwise eqb (take (length a) s) a ≡ false → false ≡ same s (tree_head a n r)
  configuration-other h = rw (head_parts a n r) (other-front s a (big_endian 8 n ++ r) h)

  module _ {t b : Bytes} (h : pointwise eqb (take (length a) s) a ≡ true) (d : t ≡ drop (length a) s) (e : b ≡ big_endian 8 n) where
    -- what stands after the configuration
    behind : same t (b ++ r) ≡ same s (tree_head a n r)
    behind = rw (head_parts a n r, d, e) (same-front s a (big_endian 8 n ++ r) h)

    -- another size
    pub size-other : pointwise eqb (take (length b) t) b ≡ false → false ≡ same s (tree_head a n r)
    size-other f = other-front t b r f ∙ behind

    -- the same, and the rest is the root
    pub root-left : {u : Bytes} → u ≡ drop (length b) t → pointwise eqb (take (length b) t) b ≡ true → pointwise eqb u r ≡ same s (tree_head a n r)
    root-left q f = slices_same _ r ∙ rw q (same-front t b r f ∙ behind)
