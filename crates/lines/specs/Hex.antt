-- Byte strings in lower-case hex; the empty one is `-` (paper 01, Response lines).
use Rattle.std.specs.Prelude.{Bool, ◌&&◌, ◌||◌, cond, [], ◌∷◌, ℕ, ◌+◌, ◌-◌, ◌*◌, ◌/◌, ◌%◌, eqb, leb, ltb, length}
use Rattle.std.proofs.Math.Option.{Option, some, map}
use Rattle.lists.specs.Choice.{provided}
use Rattle.lists.specs.Lists.{Bytes, all, same}
use Rattle.lines.specs.Number.{ascii, is_digit}

-- the field of the empty byte string
unfoldable pub dash : Bytes
dash = ascii "-"

-- ---- reading

unfoldable pub is_hex_digit : ℕ → Bool
is_hex_digit b = is_digit b || (leb 97 b && leb b 102)

unfoldable pub digit_value : ℕ → ℕ
digit_value b = cond (is_digit b) (b - 48) (b - 87)

-- the bytes that pairs of digits encode
unfoldable pub unhex : Bytes → Bytes
unhex [] = []
unhex (a ∷ []) = []
unhex (a ∷ b ∷ s) = (digit_value a * 16 + digit_value b) ∷ unhex s

unfoldable pub is_hex : Bytes → Bool
is_hex s = ltb 0 (length s) && eqb (length s % 2) 0 && all is_hex_digit s

unfoldable pub read_hex : Bytes → Option Bytes
read_hex s = cond (same s dash) (some []) (provided (is_hex s) (unhex s))

-- the length of the byte string that a field encodes
unfoldable pub decoded_length : Bytes → Option ℕ
decoded_length s = map (λ (b : Bytes). length b) (read_hex s)

-- ---- writing

unfoldable pub hex_digit : ℕ → ℕ
hex_digit d = cond (ltb d 10) (48 + d) (87 + d)

unfoldable pub hex : Bytes → Bytes
hex [] = []
hex (b ∷ bs) = hex_digit (b / 16) ∷ hex_digit (b % 16) ∷ hex bs

unfoldable pub hex_field : Bytes → Bytes
hex_field [] = dash
hex_field (b ∷ bs) = hex (b ∷ bs)
