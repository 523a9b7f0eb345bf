-- Laws of tests, choices and steps that may fail (specs/Choice.antt).
use mathlib.Core.Path.{◌≡◌, refl, sym}
use mathlib.Core.Logic.{◌⊎◌, inl, inr}
use mathlib.Core.Bool.{Bool, true, false, ◌&&◌, ◌||◌, false≢true}
use mathlib.Core.List.{List, [], ◌∷◌}
use mathlib.Core.Option.{Option, none, some, bind, map, some-injective, none-ne-some}
use Rattle.lists.specs.Choice.{choose, provided, ◌>>◌, is_some, or_else}
use Rattle.lists.specs.Lists.{any, first}

-- ---- two tests

-- Tests are equal where each implies the other.
pub same_test : (s t : Bool) → (s ≡ true → t ≡ true) → (t ≡ true → s ≡ true) → s ≡ t
same_test true t f g = sym (f refl)
same_test false true f g = g refl
same_test false false f g = refl

-- if both tests together hold, each does
pub and_holds : (s t : Bool) → (s && t) ≡ true → (s ≡ true) × (t ≡ true)
and_holds true t e = (refl, e)
and_holds false t e = absurd (false≢true e)

-- if each of two tests holds, both together do
pub holds_and : (s t : Bool) → s ≡ true → t ≡ true → (s && t) ≡ true
holds_and s t p q = rw (p, q) refl

-- if one of two tests holds, it is the first or the second
pub or_holds : (s t : Bool) → (s || t) ≡ true → (s ≡ true) ⊎ (t ≡ true)
or_holds true t e = inl refl
or_holds false t e = inr e

-- if neither of two tests holds, each fails
pub or_fails : (s t : Bool) → (s || t) ≡ false → (s ≡ false) × (t ≡ false)
or_fails true t e = absurd (false≢true (sym e))
or_fails false t e = (refl, e)

-- ---- a test

-- a test that cannot hold fails
pub never_holds : (t : Bool) → (t ≡ true → ⊥) → t ≡ false
never_holds true h = absurd (h refl)
never_holds false h = refl

-- a test that cannot fail holds
pub never_fails : (t : Bool) → (t ≡ false → ⊥) → t ≡ true
never_fails true h = refl
never_fails false h = absurd (h refl)

-- ---- choices

-- where the test holds, the first is chosen
pub choose_true : {A : Type 0} (t : Bool) (a b : Unit {0} → A) → t ≡ true → choose t a b ≡ a tt
unfolding choose
choose_true t a b e = rw e refl

-- where it does not, the second is chosen
pub choose_false : {A : Type 0} (t : Bool) (a b : Unit {0} → A) → t ≡ false → choose t a b ≡ b tt
unfolding choose
choose_false t a b e = rw e refl

-- a choice between two things of which something holds, each where it may be chosen
pub choose_by : {A : Type 0} (P : A → Type 0) (t : Bool) (a b : Unit {0} → A) → (t ≡ true → P (a tt))
    → (t ≡ false → P (b tt)) → P (choose t a b)
unfolding choose
choose_by P true a b p q = p refl
choose_by P false a b p q = q refl

-- ---- steps that may fail

-- a value is provided if the test holds
pub provided_true : {A : Type 0} (t : Bool) (a : A) → t ≡ true → provided t a ≡ some a
unfolding provided
provided_true t a e = rw e refl

-- and none if it fails
pub provided_false : {A : Type 0} (t : Bool) (a : A) → t ≡ false → provided t a ≡ none
unfolding provided
provided_false t a e = rw e refl

-- where a value is provided, the test holds, and the value is the one given
pub provided_some : {A : Type 0} (t : Bool) (a b : A) → provided t a ≡ some b → (t ≡ true) × (a ≡ b)
unfolding provided
provided_some true a b e = (refl, some-injective a b e)
provided_some false a b e = absurd (none-ne-some b e)

-- where a value under a test is none, the test fails
pub provided_none : {A : Type 0} (t : Bool) (a : A) → provided t a ≡ none → t ≡ false
unfolding provided
provided_none true a e = absurd (none-ne-some a (sym e))
provided_none false a e = refl

-- a test that holds is passed over
pub test_true : {A : Type 0} (t : Bool) (o : Option A) → t ≡ true → (t >> o) ≡ o
unfolding ◌>>◌
test_true t o e = rw e refl

-- where the steps after a test give a value, the test holds
pub test_some : {A : Type 0} (t : Bool) (o : Option A) (a : A) → (t >> o) ≡ some a → (t ≡ true) × (o ≡ some a)
unfolding ◌>>◌
test_some true o a e = (refl, e)
test_some false o a e = absurd (none-ne-some a e)

-- a step that gives a value hands it to the next
pub bind_at : {A B : Type 0} (o : Option A) (f : A → Option B) (a : A) → o ≡ some a → bind o f ≡ f a
unfolding bind
bind_at o f a e = rw e refl

-- where two steps give a value, the first gave one, from which the second made it
pub bind_some : {A B : Type 0} (o : Option A) (f : A → Option B) (b : B) → bind o f ≡ some b → (a : A) × (o ≡ some a)
    × (f a ≡ some b)
unfolding bind
bind_some none f b e = absurd (none-ne-some b e)
bind_some (some a) f b e = (a, refl, e)

-- what follows from both of two steps that give a value; the value between them stays a variable,
-- so that long chains stay short
pub bind_by : {A B R : Type 0} (o : Option A) (f : A → Option B) (b : B) → bind o f ≡ some b
    → ((a : A) → o ≡ some a → f a ≡ some b → R) → R
bind_by o f b e k = let (a, p, q) = bind_some o f b e in k a p q

-- a step after none gives none
pub bind_none : {A B : Type 0} (o : Option A) (f : A → Option B) → o ≡ none → bind o f ≡ none
unfolding bind
bind_none o f e = rw e refl

-- the steps after a value under a test
pub provided_then : {A B : Type 0} (t : Bool) (a : A) (f : A → Option B) → bind (provided t a) f ≡ (t >> f a)
unfolding bind provided ◌>>◌
provided_then true a f = refl
provided_then false a f = refl

-- and the same where it is written as a step
pub test_then : {A B : Type 0} (t : Bool) (a : A) (f : A → Option B) → bind (t >> some a) f ≡ (t >> f a)
unfolding bind ◌>>◌
test_then true a f = refl
test_then false a f = refl

-- where there is nothing after a test, there is nothing
pub test_none : {A : Type 0} (t : Bool) → ◌≡◌ {A = Option A} (t >> none) none
unfolding ◌>>◌
test_none true = refl
test_none false = refl

-- where a mapped step gives a value, the step gave one of which it is made
pub map_some : {A B : Type 0} (f : A → B) (o : Option A) (b : B) → map f o ≡ some b → (a : A) × (o ≡ some a) × (f a ≡ b)
map_some f none b e = absurd (none-ne-some b e)
map_some f (some a) b e = (a, refl, some-injective (f a) b e)

-- where one of two steps gives a value, the first or the second gave it
pub or_else_some : {A : Type 0} (o p : Option A) (a : A) → or_else o p ≡ some a → (o ≡ some a) ⊎ (p ≡ some a)
unfolding or_else
or_else_some none p a e = inr e
or_else_some (some b) p a e = inl e

-- ---- whether there is a value

-- where there is one, it is some value
pub given_some : {A : Type 0} (o : Option A) → is_some o ≡ true → (a : A) × (o ≡ some a)
unfolding is_some
given_some none e = absurd (false≢true e)
given_some (some a) e = (a, refl)

-- where there is none, it is none
pub given_none : {A : Type 0} (o : Option A) → is_some o ≡ false → o ≡ none
unfolding is_some
given_none none e = refl
given_none (some a) e = absurd (false≢true (sym e))

-- none is not given
pub none_given : {A : Type 0} (o : Option A) → o ≡ none → is_some o ≡ false
unfolding is_some
none_given o e = rw e refl

-- the first or the second is given if one of them is
pub given_or_else : {A : Type 0} (o p : Option A) → is_some (or_else o p) ≡ (is_some o || is_some p)
unfolding is_some or_else
given_or_else none p = refl
given_or_else (some a) p = refl

-- a value under a test is given where the test holds
pub given_provided : {A : Type 0} (t : Bool) (a : A) → is_some (provided t a) ≡ t
unfolding is_some provided
given_provided true a = refl
given_provided false a = refl

-- what is made of a value is given where the value is
pub given_bind : {A B : Type 0} (o : Option A) (f : A → Option B) → ((a : A) → is_some (f a) ≡ true)
    → is_some (bind o f) ≡ is_some o
unfolding is_some bind
given_bind none f h = refl
given_bind (some a) f h = h a

-- the first of which a test holds is given where the test holds of any
pub given_first : {A : Type 0} (f : A → Bool) (xs : List A) → is_some (first f xs) ≡ any f xs
unfolding first any is_some choose
given_first f [] = refl
given_first f (x ∷ xs) = go (f x) (given_first f xs)
  where
    go : (t : Bool) → is_some (first f xs) ≡ any f xs
        → is_some (choose t (λ _. some x) (λ _. first f xs)) ≡ (t || any f xs)
    go true e = refl
    go false e = e
