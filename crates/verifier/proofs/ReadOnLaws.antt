-- Reading on (specs/Reading.antt), by whether there is a line.
use mathlib.Core.Path.{◌≡◌, ap, ◌∙◌}
use mathlib.Core.Option.{Option, none, some}
use Prim.Native.Nat.{ℕ}
use lib.ListN.{length, drop}
use Rattle.lists.specs.Lists.{Bytes}
use Rattle.lines.specs.Cursor.{left_at, line_at, past}
use Rattle.lines.specs.Readings.{read_of}
use Rattle.verifier.specs.Reading.{ReadOn, read_on, read_on_of}
use Rattle.verifier.specs.declared.reading.ReadOn.{ReadOn as ReadOnBlock}

module _ (s : Bytes) (at : ℕ) (r : ReadOnBlock) (e : read_on_of r ≡ read_on s at) where
  pub read_line_lem : read_of r.line ≡ line_at s at
  unfolding read_on_of read_on
  read_line_lem = ap (λ (x : ReadOn). x.line) e

  -- a line: the offset is after it
  pub read-offset : (stop next : ℕ) → line_at s at ≡ some (stop, next) → r.offset ≡ next
  unfolding read_on_of read_on past
  read-offset stop next l = ap (λ (x : ReadOn). x.offset) e ∙ ap (λ (x : Option (ℕ × ℕ)). past x at) l

  -- none: it stays, and everything from there on is left
  pub read_stays : line_at s at ≡ none → r.offset ≡ at
  unfolding read_on_of read_on past
  read_stays l = ap (λ (x : ReadOn). x.offset) e ∙ ap (λ (x : Option (ℕ × ℕ)). past x at) l

  pub read_left : line_at s at ≡ none → r.left ≡ length (drop at s)
  unfolding read_on_of read_on past left_at
  read_left l = ap (λ (x : ReadOn). x.left) e ∙ ap (λ (x : Option (ℕ × ℕ)). left_at s (past x at)) l
