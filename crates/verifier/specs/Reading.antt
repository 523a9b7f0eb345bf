-- Reading a text on from an offset (paper 01, Response lines), line by line.
use Rattle.std.proofs.Math.Option.{Option}
use Rattle.std.specs.Prelude.{ℕ}
use Rattle.lists.specs.Lists.{Bytes}
use Rattle.lines.specs.Cursor.{left_at, line_at, past}
use Rattle.lines.specs.Readings.{read_of}
use Rattle.verifier.specs.declared.reading.ReadOn.{ReadOn as ReadOnBlock}

-- a line, if a newline ends it: where it stops and where the next one begins; the offset after it;
-- how many bytes are left from there on
pub record ReadOn : Type 0 where
  pub line : Option (ℕ × ℕ)
  pub offset : ℕ
  pub left : ℕ

-- what is read at an offset of a text
unfoldable pub read_on : Bytes → ℕ → ReadOn
read_on s at =
    let line = line_at s at in
    let offset = past line at in
    record { line = line; offset = offset; left = left_at s offset }

-- as the struct has it
unfoldable pub read_on_of : ReadOnBlock → ReadOn
read_on_of r = record { line = read_of r.line; offset = r.offset; left = r.left }
