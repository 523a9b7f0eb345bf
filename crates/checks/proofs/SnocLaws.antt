-- Tests of a list with one element more at its end.
use mathlib.Core.Path.{◌≡◌, refl, sym, ◌∙◌, ap}
use mathlib.Core.Bool.{Bool, true, false, ◌&&◌, ◌||◌, and-true, and_assoc, or-false, or_assoc}
use mathlib.Core.List.{List, [], ◌∷◌, ◌++◌}
use mathlib.Core.Option.{some, none-ne-some}
use Prim.Native.Nat.{ℕ}
use lib.Dec.{eqb}
use lib.ListN.{length, drop}
use Rattle.lists.specs.Choice.{choose}
use Rattle.lists.specs.Lists.{all, any, first, begins}
use Rattle.lists.proofs.ChoiceLaws.{or_fails}
use Rattle.lists.proofs.ListLaws.{first_here, first_later}

module _ {A : Type 0} (f : A → Bool) where
  -- all of them
  pub all_snoc : (xs : List A) (x : A) → all f (xs ++ x ∷ []) ≡ (all f xs && f x)
  unfolding all
  all_snoc [] x = and-true (f x)
  all_snoc (y ∷ xs) x = ap (λ (b : Bool). f y && b) (all_snoc xs x) ∙ sym (and_assoc (f y) (all f xs) (f x))

  -- any of them
  pub any_snoc : (xs : List A) (x : A) → any f (xs ++ x ∷ []) ≡ (any f xs || f x)
  unfolding any
  any_snoc [] x = or-false (f x)
  any_snoc (y ∷ xs) x = ap (λ (b : Bool). f y || b) (any_snoc xs x) ∙ sym (or_assoc (f y) (any f xs) (f x))

  -- the first of them stays the first
  pub first-stays : (xs : List A) (x y : A) → first f xs ≡ some y → first f (xs ++ x ∷ []) ≡ some y
  unfolding first choose
  first-stays [] x y e = absurd (none-ne-some y e)
  first-stays (z ∷ xs) x y e = go (f z) e (first-stays xs x y)
    where
      go : (b : Bool) → choose b (λ _. some z) (λ _. first f xs) ≡ some y
          → (first f xs ≡ some y → first f (xs ++ x ∷ []) ≡ some y)
          → choose b (λ _. some z) (λ _. first f (xs ++ x ∷ [])) ≡ some y
      go true e h = e
      go false e h = h e

  -- where there was none, the new one is
  pub first-snoc : (xs : List A) (x : A) → any f xs ≡ false → f x ≡ true → first f (xs ++ x ∷ []) ≡ some x
  unfolding any
  first-snoc [] x n e = first_here f x [] e
  first-snoc (y ∷ xs) x n e =
      let (p, q) = or_fails (f y) (any f xs) n in
      first_later f y (xs ++ x ∷ []) p ∙ first-snoc xs x q e

-- the front of another list
pub begins_snoc : (xs : List ℕ) (x : ℕ) (ys : List ℕ)
    → begins (xs ++ x ∷ []) ys ≡ (begins xs ys && begins (x ∷ []) (drop (length xs) ys))
unfolding begins
begins_snoc [] x ys = refl
begins_snoc (z ∷ xs) x [] = refl
begins_snoc (z ∷ xs) x (y ∷ ys) =
    ap (λ (b : Bool). eqb z y && b) (begins_snoc xs x ys)
    ∙ sym (and_assoc (eqb z y) (begins xs ys) (begins (x ∷ []) (drop (length xs) ys)))
