-- Reading on from an offset (paper 01, Response lines): what is left of a text and the line that
-- begins there, the field that begins at an offset of a line, and the offset after it.
use Rattle.std.specs.Prelude.{List, [], ℕ, ◌+◌, leb, ltb, length, drop}
use Rattle.std.proofs.Math.Option.{Option, none, some, map, bind as ◌>>=◌}
use Rattle.lists.specs.Choice.{choose, provided, ◌>>◌}
use Rattle.lists.specs.Lists.{Bytes, same}
use Rattle.lines.specs.Line.{tab, newline, parts_at, before}

-- how many bytes of a text are left from an offset on
unfoldable pub left_at : Bytes → ℕ → ℕ
left_at s at = length (drop at s)

-- where the line at an offset stops, if a newline ends it, and where the next one begins
unfoldable pub line_at : Bytes → ℕ → Option (ℕ × ℕ)
line_at s at =
    let stop = at + length (before newline (drop at s)) in
    provided (ltb stop (length s)) (stop, stop + 1)

-- the offset after a line that was read at an offset; that offset, where there was none
unfoldable pub past : Option (ℕ × ℕ) → ℕ → ℕ
past none at = at
past (some (stop, next)) at = next

-- the field at an offset of a line: up to the next tab, or to the line's end
unfoldable pub field_at : Bytes → ℕ → Bytes
field_at l at = before tab (drop at l)

-- the fields from an offset on; beyond the line's end none begins
unfoldable pub fields_from : Bytes → ℕ → List Bytes
fields_from l at = choose (leb at (length l)) (λ _. parts_at tab (drop at l)) (λ _. [])

-- what a reader makes of the field at an offset, and where the next one begins
unfoldable pub read_at : {A : Type 0} → (Bytes → Option A) → Bytes → ℕ → Option (A × ℕ)
read_at read l at = do
  leb at (length l)
  a ← read (field_at l at)
  some (a, at + length (field_at l at) + 1)

-- the offset after a field that is a word
unfoldable pub word_at : Bytes → Bytes → ℕ → Option ℕ
word_at word l at =
    map (λ (x : Unit {0} × ℕ). x.1) (read_at (λ (f : Bytes). provided (same f word) tt) l at)
