-- Laws of what a method of an option promises by its cases.
use mathlib.Core.Path.{◌≡◌, refl}
use mathlib.Core.Option.{Option, none, some, map, none-ne-some}
use Rattle.std.specs.Prelude.{MatchOption, Some, None, Option as CodeOption}

-- what follows from either case
pub matched : {A : Type 0} (o : CodeOption A) (N : Type 0) (P : A → Type 0) (G : Type 0) → MatchOption o N P
    → (o ≡ None → N → G) → ((a : A) → o ≡ Some a → P a → G) → G
matched {A} o N P G m n s = go o refl m
  where
    go : (i : CodeOption A) → o ≡ i → MatchOption i N P → G
    go None e m = n e m
    go (Some a) e m = s a e m

-- what is made of nothing is made of no value
pub map_none : {A B : Type 0} (f : A → B) (o : Option A) → none ≡ map f o → o ≡ none
map_none f none e = refl
map_none f (some a) e = absurd (none-ne-some (f a) e)
