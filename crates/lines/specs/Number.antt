-- Words, and decimal numbers without leading zeros (paper 01, Response lines).
use Rattle.std.specs.Prelude.{Bool, false, ◌&&◌, not, [], ◌∷◌, ◌++◌, ℕ, zero, suc, ◌+◌, ◌-◌, ◌*◌, ◌/◌, ◌%◌, eqb, leb}
use Rattle.std.specs.Prelude.{ltb}
use Rattle.std.proofs.Math.Option.{Option}
use Prim.Native.Char.{code}
use Prim.Native.String.{String, [] as none_left, ◌∷◌ as ◌then◌}
use Rattle.lists.specs.Choice.{choose, provided}
use Rattle.lists.specs.Lists.{Bytes, all}

-- the bytes of a text of ASCII characters
unfoldable pub ascii : String → Bytes
ascii none_left = []
ascii (◌then◌ c s) = code c ∷ ascii s

-- ---- reading

unfoldable pub is_digit : ℕ → Bool
is_digit b = leb 48 b && leb b 57

-- one digit, or digits of which the first is not 0
unfoldable pub is_decimal : Bytes → Bool
is_decimal [] = false
is_decimal (b ∷ []) = is_digit b
is_decimal (b ∷ c ∷ s) = not (eqb b 48) && all is_digit (b ∷ c ∷ s)

-- the number that the digits after those of n encode with them
unfoldable pub digits_after : ℕ → Bytes → ℕ
digits_after n [] = n
digits_after n (b ∷ s) = digits_after (n * 10 + (b - 48)) s

-- a decimal number not above a bound
unfoldable pub read_number : ℕ → Bytes → Option ℕ
read_number bound s = provided (is_decimal s && leb (digits_after 0 s) bound) (digits_after 0 s)

-- ---- writing

unfoldable pub decimal_from : ℕ → ℕ → Bytes
decimal_from zero n = []
decimal_from (suc k) n =
    choose (ltb n 10) (λ _. (48 + n) ∷ []) (λ _. decimal_from k (n / 10) ++ (48 + n % 10) ∷ [])

unfoldable pub decimal : ℕ → Bytes
decimal n = decimal_from (n + 1) n
