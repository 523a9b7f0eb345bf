-- Laws of the elements of lists: what holds of each, and where those of mapped and joined lists
-- come from.
use mathlib.Core.Path.{◌≡◌, refl, sym, subst}
use mathlib.Core.Logic.{◌⊎◌, inl, inr, ⊎_elim}
use mathlib.Core.List.Memᴰ
use mathlib.Core.List.{List, [], ◌∷◌, ◌++◌, map, flat_map, Memᴰ}
use Rattle.lists.specs.Lists.{last_or}

-- ---- what holds of each element

module _ {A : Type 0} (P : A → Type 0) where
  -- whatever it is, it holds of each where there are none
  pub each_nil : (x : A) → Memᴰ x [] → P x
  each_nil x m = absurd (Memᴰ.not-nil m)

  -- what holds of the first and of each other holds of each
  pub each-cons : (y : A) (ys : List A) → P y → ((x : A) → Memᴰ x ys → P x) → (x : A) → Memᴰ x (y ∷ ys) → P x
  each-cons y ys p h x m = ⊎_elim (λ e. subst P (sym e) p) (h x) (Memᴰ.cases_cons m)

  -- what holds of each of two lists holds of each of both joined
  pub each_append : (xs ys : List A) → ((x : A) → Memᴰ x xs → P x) → ((x : A) → Memᴰ x ys → P x) → (x : A)
      → Memᴰ x (xs ++ ys) → P x
  each_append xs ys h k x m = ⊎_elim (h x) (k x) (Memᴰ.append_cases xs m)

-- ---- mapped lists

module _ {A B : Type 0} where
  -- an element of a mapped list is made of one of the list
  pub at-mapped : (f : A → B) (xs : List A) (y : B) → Memᴰ y (map f xs) → (x : A) × Memᴰ x xs × (y ≡ f x)
  at-mapped f [] y m = absurd (Memᴰ.not-nil m)
  at-mapped f (a ∷ xs) y m = go (at-mapped f xs y) (Memᴰ.cases_cons m)
    where
      go : (Memᴰ y (map f xs) → (x : A) × Memᴰ x xs × (y ≡ f x)) → (y ≡ f a) ⊎ Memᴰ y (map f xs) → (x : A)
          × Memᴰ x (a ∷ xs) × (y ≡ f x)
      go ih (inl e) = (a, Memᴰ.head refl, e)
      go ih (inr n) = let (x, i, e) = ih n in (x, Memᴰ.tail i, e)

  -- an element of the list that is made of an element stands in those lists joined
  pub flat-listed : (f : A → List B) (xs : List A) (x : A) (y : B) → Memᴰ x xs → Memᴰ y (f x) → Memᴰ y (flat_map f xs)
  unfolding flat_map
  flat-listed f [] x y m n = absurd (Memᴰ.not-nil m)
  flat-listed f (a ∷ xs) x y m n =
      ⊎_elim (λ e. Memᴰ.append_left (flat_map f xs) (subst (λ (z : A). Memᴰ y (f z)) e n))
      (λ k. Memᴰ.append_right (f a) (flat-listed f xs x y k n))
      (Memᴰ.cases_cons m)

  -- and an element of the joined lists stands in one of them
  pub listed-flat : (f : A → List B) (xs : List A) (y : B) → Memᴰ y (flat_map f xs) → (x : A) × Memᴰ x xs × Memᴰ y (f x)
  unfolding flat_map
  listed-flat f [] y m = absurd (Memᴰ.not-nil m)
  listed-flat f (a ∷ xs) y m = go (listed-flat f xs y) (Memᴰ.append_cases (f a) m)
    where
      go : (Memᴰ y (flat_map f xs) → (x : A) × Memᴰ x xs × Memᴰ y (f x)) → Memᴰ y (f a) ⊎ Memᴰ y (flat_map f xs)
          → (x : A) × Memᴰ x (a ∷ xs) × Memᴰ y (f x)
      go ih (inl n) = (a, Memᴰ.head refl, n)
      go ih (inr n) = let (x, i, j) = ih n in (x, Memᴰ.tail i, j)

  -- the last of a mapped list is made of the last of the list
  pub last-mapped : (f : A → B) (d : A) (xs : List A) → last_or (f d) (map f xs) ≡ f (last_or d xs)
  unfolding last_or
  last-mapped f d [] = refl
  last-mapped f d (x ∷ xs) = last-mapped f x xs

-- ---- the last element

-- the last of a list that is not empty is one of its elements
pub last_listed : {A : Type 0} (x : A) (xs : List A) → Memᴰ (last_or x xs) (x ∷ xs)
unfolding last_or
last_listed x [] = Memᴰ.head refl
last_listed x (y ∷ xs) = Memᴰ.tail (last_listed y xs)
