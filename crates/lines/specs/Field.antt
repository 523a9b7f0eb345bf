-- The fields of a line: what each may hold, how it is read and written (paper 01, Response lines).
use Rattle.std.specs.Prelude.{Bool, List, [], ◌∷◌, ℕ, eqb, leb, length}
use Rattle.std.proofs.Math.Option.{Option, none, some, bind as ◌>>=◌}
use Rattle.lists.specs.Choice.{◌>>◌}
use Rattle.lists.specs.Lists.{Bytes}
use Rattle.lines.specs.Number.{read_number, decimal}
use Rattle.lines.specs.Hex.{read_hex, hex_field}

-- a number not above a bound, or a byte string whose length passes a test
pub data Field : Type 0 where
  number : ℕ → Field
  bytes : (ℕ → Bool) → Field

-- a byte string of k bytes, or of at most k
abbrev pub exactly : ℕ → Field
exactly k = bytes (λ (n : ℕ). eqb n k)

abbrev pub up_to : ℕ → Field
up_to k = bytes (λ (n : ℕ). leb n k)

-- what a field, and a list of fields, yields
abbrev pub Value : Field → Type 0
Value (number bound) = ℕ
Value (bytes fits) = Bytes

abbrev pub Values : List Field → Type 0
Values [] = Unit {0}
Values (f ∷ fs) = Value f × Values fs

-- ---- reading

unfoldable pub read_field : (f : Field) → Bytes → Option (Value f)
read_field (number bound) s = read_number bound s
read_field (bytes fits) s = do
  b ← read_hex s
  fits (length b)
  some b

-- each part is a field, and there are no more and no fewer
unfoldable pub read_fields : (fs : List Field) → List Bytes → Option (Values fs)
read_fields [] [] = some tt
read_fields [] (p ∷ ps) = none
read_fields (f ∷ fs) [] = none
read_fields (f ∷ fs) (p ∷ ps) = do
  v ← read_field f p
  vs ← read_fields fs ps
  some (v, vs)

-- ---- writing

unfoldable pub write_field : (f : Field) → Value f → Bytes
write_field (number bound) n = decimal n
write_field (bytes fits) b = hex_field b

unfoldable pub write_fields : (fs : List Field) → Values fs → List Bytes
write_fields [] u = []
write_fields (f ∷ fs) (v, vs) = write_field f v ∷ write_fields fs vs
