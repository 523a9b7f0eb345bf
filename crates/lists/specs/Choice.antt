-- Choices by a test. Steps that may fail are written in `do` blocks, over the library's `bind`.
use Rattle.std.specs.Prelude.{Bool, true, false, Some, None, Option as CodeOption}
use Rattle.std.proofs.Math.Option.{Option, none, some}

-- the first where the test holds, else the second; only the chosen one is worked out
unfoldable pub choose : {A : Type 0} → Bool → (Unit {0} → A) → (Unit {0} → A) → A
choose true a b = a tt
choose false a b = b tt

-- a value, if a test holds
unfoldable pub provided : {A : Type 0} → Bool → A → Option A
provided true a = some a
provided false a = none

infixl 10 ◌>>◌
-- a test among the steps of a `do` block that may fail: what follows, if it holds
unfoldable pub ◌>>◌ : {A : Type 0} → Bool → Option A → Option A
true >> a = a
false >> a = none

-- whether there is a value
unfoldable pub is_some : {A : Type 0} → Option A → Bool
is_some none = false
is_some (some a) = true

-- the first, or the second where the first is none
unfoldable pub or_else : {A : Type 0} → Option A → Option A → Option A
or_else none b = b
or_else (some a) b = some a

-- an answer of the code, as the definitions have it
abbrev pub option_of : {A : Type 0} → CodeOption A → Option A
option_of (Some a) = some a
option_of None = none
