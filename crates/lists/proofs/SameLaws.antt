-- Two lists of numbers compared element by element (specs/Lists.antt).
use mathlib.Core.Path.{◌≡◌, refl, sym, ap, ◌∙◌}
use mathlib.Core.Bool.{Bool, true, false, ◌&&◌, false≢true, and-true, and_assoc}
use mathlib.Core.List.{List, [], ◌∷◌}
use Prim.Native.Nat.{ℕ, ◌+◌, ◌≤◌, ◌<◌}
use native.Mathlib.Decide.{dec_lt}
use native.Mathlib.Omega.{arith}
use lib.Dec.{eqb, eqb-zero-suc, eqb-suc-suc}
use lib.ListN.{length, get_or, drop, drop_of_length-le}
use lib.Seq.{drop-cons, drop-drop}
use lib.Pointwise.{pointwise}
use Rattle.lists.specs.Lists.{same, begins}

-- the code's equality of slices of numbers
pub slices_same : (a b : List ℕ) → pointwise eqb a b ≡ same a b
unfolding same
slices_same [] [] = refl
slices_same [] (y ∷ b) = refl
slices_same (x ∷ a) [] = refl
slices_same (x ∷ a) (y ∷ b) = ap (λ (t : Bool). eqb x y && t) (slices_same a b)

-- ---- the front of a list

-- every list begins with none
pub begins_none : (ys : List ℕ) → begins [] ys ≡ true
unfolding begins
begins_none ys = refl

-- one number begins what stands at an offset where it is the number there
pub begins_here : (x : ℕ) (ys : List ℕ) (i : ℕ) → i < length ys → eqb x (get_or ys i 0) ≡ begins (x ∷ []) (drop i ys)
unfolding begins
begins_here x ys i h = sym (ap (begins (x ∷ [])) (drop-cons ys i 0 h) ∙ and-true (eqb x (get_or ys i 0)))

-- no list begins with more than it has
pub begins_end : (x : ℕ) (xs ys : List ℕ) (i : ℕ) → length ys ≤ i → begins (x ∷ xs) (drop i ys) ≡ false
unfolding begins
begins_end x xs ys i h = ap (begins (x ∷ xs)) (drop_of_length-le ys h)

-- what begins with something at an offset goes on there
pub begins_within : (x : ℕ) (ys : List ℕ) (i : ℕ) → begins (x ∷ []) (drop i ys) ≡ true → i < length ys
begins_within x ys i e = go (dec_lt i (length ys))
  where
    go : Dec (i < length ys) → i < length ys
    go (yes h) = h
    go (no h) = absurd (false≢true (sym (begins_end x [] ys i (omega arith)) ∙ e))

-- a list begins with a number and others where it begins with the number, and without its first
-- element with the others
begins_first : (x : ℕ) (xs ys : List ℕ) → begins (x ∷ xs) ys ≡ (begins (x ∷ []) ys && begins xs (drop 1 ys))
unfolding begins
begins_first x xs [] = refl
begins_first x xs (y ∷ ys) = ap (λ (b : Bool). b && begins xs ys) (sym (and-true (eqb x y)))

-- what stands at an offset begins with the first number, and what follows it with the others
pub begins_next : (x : ℕ) (xs ys : List ℕ) (i : ℕ)
    → begins (x ∷ xs) (drop i ys) ≡ (begins (x ∷ []) (drop i ys) && begins xs (drop (i + 1) ys))
begins_next x xs ys i =
    begins_first x xs (drop i ys) ∙ ap (λ (l : List ℕ). begins (x ∷ []) (drop i ys) && begins xs l) (drop-drop 1 i ys)

-- a list is the same as one that begins with its first element, and without it is the same as the
-- others
same_first : (x : ℕ) (xs ys : List ℕ) → same (x ∷ xs) ys ≡ (begins (x ∷ []) ys && same xs (drop 1 ys))
unfolding same begins
same_first x xs [] = refl
same_first x xs (y ∷ ys) = ap (λ (b : Bool). b && same xs ys) (sym (and-true (eqb x y)))

-- two lists are the same where the second begins with the first element of the first one, and the
-- rest is the same
pub same_next : (x : ℕ) (xs ys : List ℕ) (i : ℕ) → same (x ∷ xs) (drop i ys) ≡ (begins (x ∷ []) (drop i ys) && same xs (drop (i + 1) ys))
same_next x xs ys i = same_first x xs (drop i ys) ∙ ap (λ (l : List ℕ). begins (x ∷ []) (drop i ys) && same xs l) (drop-drop 1 i ys)

-- a list is the same as another where that begins with it and is as long
pub begins_same : (xs ys : List ℕ) → (begins xs ys && eqb (length xs) (length ys)) ≡ same xs ys
unfolding begins same
begins_same [] [] = refl
begins_same [] (y ∷ ys) = eqb-zero-suc (length ys)
begins_same (x ∷ xs) [] = refl
begins_same (x ∷ xs) (y ∷ ys) =
    rw (eqb-suc-suc (length xs) (length ys))
    (and_assoc (eqb x y) (begins xs ys) (eqb (length xs) (length ys))
    ∙ ap (λ (b : Bool). eqb x y && b) (begins_same xs ys))
