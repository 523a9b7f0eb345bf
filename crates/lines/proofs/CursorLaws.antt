-- Laws of the line and the field that begin at an offset (specs/Cursor.antt): one for each way in
-- which they are read.
use mathlib.Core.Path.{◌≡◌, refl}
use mathlib.Core.Bool.{true, false}
use mathlib.Core.Option.{Option, none, some, bind}
use Prim.Native.Nat.{min, ℕ, ◌+◌, ◌≤◌, ◌<◌}
use native.Mathlib.Decide.{dec_lt}
use native.Mathlib.Omega.{arith}
use lib.Dec.{ltb}
use lib.ListN.{length, drop}
use borrow.Author.Tests.{lt-ltb, le-ltb, le-leb, lt-leb}
use Rattle.lists.specs.Choice.{provided, ◌>>◌}
use Rattle.lists.specs.Lists.{Bytes, same}
use Rattle.lists.proofs.ChoiceLaws.{provided_true}
use Rattle.lines.specs.Line.{newline, tab, before}
use Rattle.lines.specs.Cursor.{line_at, field_at, read_at, word_at}
use Rattle.lists.proofs.SameLaws.{slices_same}
use borrow.Author.Tests.{not-true, not-false}
use Rattle.lines.proofs.OffsetLaws.{at_end, before_at}

-- ---- the line at an offset

module _ (s : Bytes) (at stop : ℕ) (e : stop ≡ at + length (before newline (drop at s))) where
  -- a line that a newline ends, and the offset after it
  pub line-ended : stop < length s → line_at s at ≡ some (stop, stop + 1)
  unfolding line_at
  line-ended h = rw (← e) (provided_true (ltb stop (length s)) (stop, stop + 1) (lt-ltb stop (length s) h))

  -- a line that none ends
  pub line-open : length s ≤ stop → line_at s at ≡ none
  unfolding line_at provided
  line-open h = rw (← e, le-ltb stop (length s) h) refl

-- ---- the field at an offset

-- an offset beyond the end is taken back to it: nothing is there either
pub field_within : (l : Bytes) (at i : ℕ) → i ≡ min at (length l) → before tab (drop i l) ≡ field_at l at
unfolding field_at
field_within l at i e = go (dec_lt (length l) at)
  where
    go : Dec (length l < at) → before tab (drop i l) ≡ before tab (drop at l)
    go (yes h) = rw (at_end l i (omega arith), at_end l at (omega arith)) refl
    go (no h) = let q : i ≡ at = omega arith in rw q refl

module _ {A : Type 0} (read : Bytes → Option A) (l : Bytes) (at : ℕ) where
  -- beyond the end of a line nothing is read
  pub read-beyond : length l < at → read_at read l at ≡ none
  unfolding read_at ◌>>◌
  read-beyond h = rw (lt-leb at (length l) h) refl

  -- a field of which a reader makes nothing is not read
  pub read_none : (f : Bytes) → f ≡ field_at l at → at ≤ length l → read f ≡ none → read_at read l at ≡ none
  unfolding read_at ◌>>◌ bind
  read_none f e h r = rw (le-leb at (length l) h, ← e, r) refl

  -- of any other its reader's value is read, and the offset after it is known
  pub read_some : (f : Bytes) → f ≡ field_at l at → at ≤ length l → (a : A) → read f ≡ some a
      → read_at read l at ≡ some (a, at + length f + 1)
  unfolding read_at ◌>>◌ bind
  read_some f e h a r = rw (le-leb at (length l) h, ← e, r) refl

-- the reader that takes one word and no other
abbrev one_word : Bytes → Bytes → Option (Unit {0})
one_word w f = provided (same f w) tt

module _ (w l : Bytes) (at : ℕ) where
  -- beyond the end of a line there is no word
  pub word-beyond : length l < at → word_at w l at ≡ none
  unfolding word_at
  word-beyond h = rw (read-beyond (one_word w) l at h) refl

  -- a field that is not the word
  pub word-other : (f : Bytes) → f ≡ field_at l at → at ≤ length l → same f w ≡ false → word_at w l at ≡ none
  unfolding word_at provided
  word-other f e h d = rw (read_none (one_word w) l at f e h (rw d refl)) refl

  -- a field that is the word, and the offset after it
  pub word_same : (f : Bytes) → f ≡ field_at l at → at ≤ length l → same f w ≡ true
      → word_at w l at ≡ some (at + length f + 1)
  unfolding word_at
  word_same f e h d = rw (read_some (one_word w) l at f e h tt (provided_true (same f w) tt d)) refl

-- what the code at a cursor is proved by
pub ruleset at_cursor = (line-ended, line-open, field_within, before_at, read-beyond, read_none, read_some)

pub ruleset words = (word-beyond, word-other, word_same, slices_same, not-true, not-false)
