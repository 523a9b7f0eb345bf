-- The line of a text at an offset, and what a reader makes of it.
use Rattle.std.specs.Prelude.{◌≡◌, ℕ, ◌-◌, take, drop, None, option_map, Option as CodeOption}
use Rattle.std.proofs.Math.Option.{Option, none, some, bind as ◌>>=◌}
use Rattle.lists.specs.Lists.{Bytes}
use Rattle.lines.specs.Cursor.{line_at}

-- what a reader makes of the line at an offset, and the offset after it
unfoldable pub read_from : {A : Type 0} → (Bytes → Option A) → Bytes → ℕ → Option (A × ℕ)
read_from read s at = do
  (stop, next) ← line_at s at
  a ← read (take (stop - at) (drop at s))
  some (a, next)

-- the line itself, and the offset after it
abbrev pub line_from : Bytes → ℕ → Option (Bytes × ℕ)
line_from s at = read_from some s at

-- what was read is what a reader gave of the line, with the offset after it
abbrev pub LineRead : {T : Type 0} → Option (Bytes × ℕ) → (Bytes → CodeOption T → Type 0) → CodeOption (T × ℕ) → Type 0
LineRead {T} none gives r = r ≡ None
LineRead {T} (some (l, next)) gives r = (o : CodeOption T) × gives l o × (r ≡ option_map (λ a. (a, next)) o)
