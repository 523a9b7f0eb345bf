-- Texts of lines: fields parted by one tab, each line ended by the byte 0x0A (paper 01, Response
-- lines).
use Rattle.std.specs.Prelude.{cond, List, [], ◌∷◌, ◌++◌, ℕ, eqb}
use Rattle.std.proofs.Math.Option.{Option, none, Option-elim}
use Rattle.lists.specs.Choice.{provided, ◌>>◌}
use Rattle.lists.specs.Lists.{Bytes, all_but_last, last_or, same}
use Rattle.lines.specs.Field.{Field, Values, read_fields, write_fields}

abbrev pub tab : ℕ
tab = 0x09

abbrev pub newline : ℕ
newline = 0x0a

-- a line's form: the words that it begins with, then its fields
pub record Form : Type 0 where
  pub words : List Bytes
  pub fields : List Field

abbrev pub Read : Form → Type 0
Read f = Values f.fields

-- ---- reading

unfoldable pub onto_first : ℕ → List Bytes → List Bytes
onto_first b [] = (b ∷ []) ∷ []
onto_first b (p ∷ ps) = (b ∷ p) ∷ ps

-- the parts of a string before, between and after its bytes k
unfoldable pub parts_at : ℕ → Bytes → List Bytes
parts_at k [] = [] ∷ []
parts_at k (b ∷ s) = cond (eqb b k) ([] ∷ parts_at k s) (onto_first b (parts_at k s))

-- the bytes before the first k, all where there is none; the bytes after it, none where there is
-- none
unfoldable pub before : ℕ → Bytes → Bytes
before k [] = []
before k (b ∷ s) = cond (eqb b k) [] (b ∷ before k s)

unfoldable pub after : ℕ → Bytes → Bytes
after k [] = []
after k (b ∷ s) = cond (eqb b k) s (after k s)

-- the lines that a newline ends, each without it, and what stands after the last newline
unfoldable pub ended_lines : Bytes → List Bytes
ended_lines s = all_but_last (parts_at newline s)

unfoldable pub open_rest : Bytes → Bytes
open_rest s = last_or [] (parts_at newline s)

-- the lines of a text, if nothing stands after the last newline
unfoldable pub read_lines : Bytes → Option (List Bytes)
read_lines s = provided (same (open_rest s) []) (ended_lines s)

-- the words, then the fields
unfoldable pub read_after : List Bytes → (fs : List Field) → List Bytes → Option (Values fs)
read_after [] fs ps = read_fields fs ps
read_after (w ∷ ws) fs [] = none
read_after (w ∷ ws) fs (p ∷ ps) = do
  same p w
  read_after ws fs ps

-- a line of a form
unfoldable pub read_line : (f : Form) → Bytes → Option (Read f)
read_line f l = read_after f.words f.fields (parts_at tab l)

-- a value that a reader gave, before those of the lines after it
unfoldable pub and_then : {A : Type 0} → A → List A × List Bytes → List A × List Bytes
and_then a (xs, rest) = (a ∷ xs, rest)

-- the lines that a list begins with, as long as a reader takes them, and the lines after them
unfoldable pub leading : {A : Type 0} → (Bytes → Option A) → List Bytes → List A × List Bytes
leading read [] = ([], [])
leading read (l ∷ ls) = Option-elim (read l) ([], l ∷ ls) (λ a. and_then a (leading read ls))

-- ---- writing

unfoldable pub joined : ℕ → List Bytes → Bytes
joined k [] = []
joined k (p ∷ []) = p
joined k (p ∷ q ∷ ps) = p ++ k ∷ joined k (q ∷ ps)

-- parts as a line
unfoldable pub line : List Bytes → Bytes
line ps = joined tab ps ++ newline ∷ []

unfoldable pub write_line : (f : Form) → Read f → Bytes
write_line f vs = line (f.words ++ write_fields f.fields vs)
