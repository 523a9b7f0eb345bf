-- What the readers give back at a cursor, from what is read; and the bytes of a part of a text.
use Rattle.std.specs.Prelude.{ℕ, ◌-◌, take, drop, Some, None, Option as CodeOption}
use Rattle.std.proofs.Math.Option.{Option, none, some}
use Rattle.lists.specs.Lists.{Bytes}
use Rattle.lines.specs.declared.cursor.Cursor.{Cursor}
use Rattle.lines.specs.declared.part.Part.{Part}

-- the bytes of a part of a text
unfoldable pub part_of : Bytes → Part → Bytes
part_of s p = take (p.stop - p.start) (drop p.start s)

-- what was read at a cursor, and the offset after it
abbrev pub read_of : {A : Type 0} → CodeOption (A × Cursor) → Option (A × ℕ)
read_of (Some (a, next)) = some (a, next.at)
read_of None = none

-- the offset after what was passed at a cursor
abbrev pub next_of : CodeOption Cursor → Option ℕ
next_of (Some next) = some next.at
next_of None = none
