-- The way up from a lookup's place to the root (specs/PrefixTree.antt), one sibling at a time from
-- the deepest.
use mathlib.Core.Path.{◌≡◌, refl, sym, ap, ◌∙◌}
use mathlib.Core.Logic.{◌⊎◌, inl, inr}
use mathlib.Core.List.{List, [], ◌∷◌, ◌++◌}
use Prim.Native.Nat.{ℕ, zero, suc, ◌-◌, min, ◌<◌, ◌≤◌}
use native.Mathlib.Omega.{arith}
use lib.ListN.{length, get_or, take}
use Rattle.lists.specs.Lists.{Bytes}
use Rattle.hash.specs.Sha256.{digest_length, sha256}
use Rattle.tree.specs.LogTree.{zeros}
use Rattle.tree.specs.LogText.{values_in}
use Rattle.tree.specs.PrefixTree.{bits, prefix_parent_string, parent_over, value_above}
use Rattle.tree.specs.Lookups.{output_bits}
use Rattle.tree.proofs.DigitLaws.{by_order}
use Rattle.tree.proofs.BitLaws.{length_bits}

-- Where there are at most n bits or at most n siblings, the first n of each lead to the same value.
pub above_first : (n : ℕ) (bs : List ℕ) (ss : List Bytes) (v : Bytes) → (length bs ≤ n) ⊎ (length ss ≤ n)
    → value_above (take n bs) (take n ss) v ≡ value_above bs ss v
unfolding value_above
above_first zero [] ss v h = refl
above_first zero (b ∷ bs) [] v h = refl
above_first zero (b ∷ bs) (s ∷ ss) v (inl h) = absurd (omega arith)
above_first zero (b ∷ bs) (s ∷ ss) v (inr h) = absurd (omega arith)
above_first (suc n) [] ss v h = refl
above_first (suc n) (b ∷ bs) [] v h = refl
above_first (suc n) (b ∷ bs) (s ∷ ss) v (inl h) = ap (λ (x : Bytes). sha256 (parent_over b x s)) (above_first n bs ss v (inl (omega arith)))
above_first (suc n) (b ∷ bs) (s ∷ ss) v (inr h) = ap (λ (x : Bytes). sha256 (parent_over b x s)) (above_first n bs ss v (inr (omega arith)))

-- The first siblings of a text, as many as there are or as an output has bits, lead to the same
-- value as all of them.
pub climb_start : (o s : Bytes) (v : Bytes) (n : ℕ) → length o ≡ digest_length → n ≡ min (length (values_in s)) output_bits
    → value_above (take n (bits o)) (take n (values_in s)) v ≡ value_above (bits o) (values_in s) v
climb_start o s v n h e =
    let l = length_bits o in
    above_first n (bits o) (values_in s) v (by_order (length (values_in s)) output_bits (λ k. inr (omega arith)) (λ k. inl (omega arith)))

-- The deepest of the siblings is taken first.
pub above_deepest : (i : ℕ) (bs : List ℕ) (ss : List Bytes) (v : Bytes) → i < length bs → i < length ss
    → value_above (take (suc i) bs) (take (suc i) ss) v ≡ value_above (take i bs) (take i ss) (sha256 (parent_over (get_or bs i 0) v (get_or ss i zeros)))
unfolding value_above
above_deepest i [] ss v h k = absurd (omega arith)
above_deepest i (b ∷ bs) [] v h k = absurd (omega arith)
above_deepest zero (b ∷ bs) (s ∷ ss) v h k = refl
above_deepest (suc i) (b ∷ bs) (s ∷ ss) v h k =
    ap (λ (x : Bytes). sha256 (parent_over b x s)) (above_deepest i bs ss v (omega arith) (omega arith))

-- One step up, from d siblings left to one less, keeps the root.
pub climb_step : (d : ℕ) (bs : List ℕ) (ss : List Bytes) (v w x s : Bytes) (b : ℕ) → 0 < d → d ≤ length bs → d ≤ length ss
    → b ≡ get_or bs (d - 1) 0 → s ≡ get_or ss (d - 1) zeros → w ≡ sha256 (parent_over b v s)
    → value_above (take d bs) (take d ss) v ≡ x → value_above (take (d - 1) bs) (take (d - 1) ss) w ≡ x
climb_step zero bs ss v w x s b h k l eb es ew e = absurd (omega arith)
climb_step (suc i) bs ss v w x s b h k l eb es ew e =
    let q : suc i - 1 ≡ i = omega arith in
    rw (ew, eb, es, q) (sym (above_deepest i bs ss v (omega arith) (omega arith)) ∙ e)

-- With no siblings the value is that of the place.
pub above_none : (bs : List ℕ) (ss : List Bytes) (v : Bytes) → value_above (take 0 bs) (take 0 ss) v ≡ v
unfolding value_above
above_none bs ss v = refl

-- A bit 0 leads left.
pub parent_left : (b : ℕ) (v s : Bytes) → b ≡ 0 → parent_over b v s ≡ 0x02 ∷ v ++ s
unfolding parent_over prefix_parent_string
parent_left b v s e = rw e refl

-- A bit that is not 0 leads right.
pub parent_right : (b : ℕ) (v s : Bytes) → 0 < b → parent_over b v s ≡ 0x02 ∷ s ++ v
unfolding parent_over prefix_parent_string
parent_right zero v s h = absurd (omega arith)
parent_right (suc b) v s h = refl
