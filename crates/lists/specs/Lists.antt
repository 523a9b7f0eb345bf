-- Tests on lists, and rising lists.
use Rattle.std.specs.Prelude.{Bool, true, false, ◌&&◌, ◌||◌, List, [], ◌∷◌, ◌++◌, ℕ, zero, suc, ◌+◌, max, eqb, leb, ltb}
use Rattle.std.specs.Prelude.{length, take, drop}
use Rattle.std.proofs.Math.Option.{Option, none, some}
use Rattle.lists.specs.Choice.{choose}

-- a string of bytes
abbrev pub Bytes : Type 0
Bytes = List ℕ

-- ---- tests

unfoldable pub all : {A : Type 0} → (A → Bool) → List A → Bool
all f [] = true
all f (x ∷ xs) = f x && all f xs

-- all tests of a list hold
unfoldable pub every : List Bool → Bool
every [] = true
every (b ∷ bs) = b && every bs

unfoldable pub any : {A : Type 0} → (A → Bool) → List A → Bool
any f [] = false
any f (x ∷ xs) = f x || any f xs

-- the elements of which a test holds
unfoldable pub select : {A : Type 0} → (A → Bool) → List A → List A
select f [] = []
select f (x ∷ xs) = choose (f x) (λ _. x ∷ select f xs) (λ _. select f xs)

-- the first element of which a test holds
unfoldable pub first : {A : Type 0} → (A → Bool) → List A → Option A
first f [] = none
first f (x ∷ xs) = choose (f x) (λ _. some x) (λ _. first f xs)

-- the last element, or one given where there is none
unfoldable pub last_or : {A : Type 0} → A → List A → A
last_or d [] = d
last_or d (x ∷ xs) = last_or x xs

-- all but the last element
unfoldable pub all_but_last : {A : Type 0} → List A → List A
all_but_last [] = []
all_but_last (x ∷ []) = []
all_but_last (x ∷ y ∷ ys) = x ∷ all_but_last (y ∷ ys)

-- the first n runs of k elements
unfoldable pub runs : {A : Type 0} → ℕ → ℕ → List A → List (List A)
runs zero k s = []
runs (suc n) k s = take k s ∷ runs n k (drop k s)

-- a list put into another from an offset on, where it fits; all other elements stay
unfoldable pub written : {A : Type 0} → List A → ℕ → List A → List A
written s at t = take at s ++ t ++ drop (at + length t) s

-- ---- numbers

unfoldable pub same : List ℕ → List ℕ → Bool
same [] [] = true
same [] (y ∷ ys) = false
same (x ∷ xs) [] = false
same (x ∷ xs) (y ∷ ys) = eqb x y && same xs ys

-- the second list begins with the first
unfoldable pub begins : List ℕ → List ℕ → Bool
begins [] ys = true
begins (x ∷ xs) [] = false
begins (x ∷ xs) (y ∷ ys) = eqb x y && begins xs ys

-- each is above the one before it
unfoldable pub rising : List ℕ → Bool
rising [] = true
rising (x ∷ []) = true
rising (x ∷ y ∷ ys) = ltb x y && rising (y ∷ ys)

-- none is below the one before it
unfoldable pub unfalling : List ℕ → Bool
unfalling [] = true
unfalling (x ∷ []) = true
unfalling (x ∷ y ∷ ys) = leb x y && unfalling (y ∷ ys)

-- a number put into a rising list; one that is there already is not put twice
unfoldable pub insert : ℕ → List ℕ → List ℕ
insert x [] = x ∷ []
insert x (y ∷ ys) =
    choose (ltb x y) (λ _. x ∷ y ∷ ys) (λ _. choose (eqb x y) (λ _. y ∷ ys) (λ _. y ∷ insert x ys))

-- all numbers of the first list put into the second, a rising one
unfoldable pub insert_all : List ℕ → List ℕ → List ℕ
insert_all [] ys = ys
insert_all (x ∷ xs) ys = insert x (insert_all xs ys)

unfoldable pub largest : List ℕ → ℕ
largest [] = 0
largest (x ∷ xs) = max x (largest xs)
