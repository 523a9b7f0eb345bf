-- Reading on (specs/Reading.antt), computed: a line that a newline ends, an empty one, what is
-- open, and an offset beyond the end.
use mathlib.Core.Path.{◌≡◌, refl}
use mathlib.Core.List.{[], ◌∷◌}
use mathlib.Core.Option.{none, some}
use Rattle.lists.specs.Choice.{provided}
use Rattle.lists.specs.Lists.{Bytes}
use Rattle.lines.specs.Line.{before}
use Rattle.lines.specs.Cursor.{left_at, line_at, past}
use Rattle.verifier.specs.Reading.{read_on}

-- 0x0a stands at offsets 3 and 4
abbrev text : Bytes
text = 0x6b ∷ 0x74 ∷ 0x31 ∷ 0x0a ∷ 0x0a ∷ 0x65 ∷ 0x6e ∷ []

pub read_on_examples :
    (read_on text 0 ≡ record { line = some (3, 4); offset = 4; left = 3 }) × (read_on text 4 ≡ record { line = some (4, 5); offset = 5; left = 2 })
    × (read_on text 5 ≡ record { line = none; offset = 5; left = 2 }) × (read_on text 9 ≡ record { line = none; offset = 9; left = 0 })
unfolding read_on line_at past left_at before provided
read_on_examples = (refl, refl, refl, refl)
