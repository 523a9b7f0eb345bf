-- What the readers of single lines of a response give back, from what is read. All but `decoded`,
-- `Decodes` and `kind_found` is for contracts of private functions alone.
use Rattle.std.specs.Prelude.{◌≡◌, Bool, true, [], ◌∷◌, ℕ, ◌≤◌, length, Some, None, Option as CodeOption}
use Rattle.std.proofs.Math.Option.{Option, none, some, get_or, bind}
use Rattle.lists.specs.Choice.{provided, is_some}
use Rattle.lists.specs.Lists.{Bytes}
use Rattle.lines.specs.Number.{read_number}
use Rattle.lines.specs.Hex.{read_hex}
use Rattle.lines.specs.Line.{Form, Read}
use Rattle.lines.specs.Cursor.{read_at, word_at}
use Rattle.lines.specs.Readings.{part_of}
use Rattle.lines.specs.declared.part.Part.{Part}
use Rattle.lines.specs.declared.cursor.Cursor.{Cursor}
use Rattle.rules.specs.Response.{Kind, search, monitor}
use Rattle.rules.specs.ResponseText.{version_field, siblings_field, kt_form, head_form, target_form}
use Rattle.inputs.specs.declared.response_lines.Kind.{Kind as KindOfLine}
use Rattle.inputs.specs.declared.response_lines.Kind.TheVariants.{Search, Monitor}
use Rattle.inputs.specs.declared.response_lines.Finding.{Finding}
use Rattle.inputs.specs.declared.response_lines.Finding.TheVariants.{Search as Searched, Monitor as Monitored}
use Rattle.inputs.specs.declared.response_lines.KtLine.{KtLine}
use Rattle.inputs.specs.declared.response_lines.Target.{Target}

-- the byte string that a field encodes
unfoldable pub decoded : Bytes → Bytes
decoded f = get_or (read_hex f) []

-- the bytes of a part encode a byte string
abbrev pub Decodes : Bytes → Part → Type 0
Decodes s p = is_some (read_hex (part_of s p)) ≡ true

-- the form of a lookup that shows no other leaf, by its word
abbrev pub lookup_form : Bytes → Form
lookup_form word = record { words = word ∷ []; fields = version_field ∷ siblings_field ∷ [] }

-- the number that follows the word with which a line begins, and the offset after it
abbrev pub number_after : Bytes → ℕ → Bytes → Option (ℕ × ℕ)
number_after word bound l = bind (word_at word l 0) (read_at (read_number bound) l)

-- the kind that is read
abbrev pub kind_of : KindOfLine → Kind
kind_of Search = search
kind_of Monitor = monitor

-- the kind of the response that found it
abbrev pub kind_found : Finding → KindOfLine
kind_found (Searched t) = Search
kind_found Monitored = Monitor

-- the kind, the identifier and the label
abbrev pub kt_of : Bytes → CodeOption KtLine → Option (Kind × Read (kt_form search))
kt_of l (Some k) =
    some (kind_of k.kind, (decoded (part_of l k.identifier), (decoded (part_of l k.label), tt)))
kt_of l None = none

-- n
abbrev pub head_of : CodeOption ℕ → Option (Read head_form)
head_of (Some n) = some (n, tt)
head_of None = none

-- the version, the opening and the value
abbrev pub target_of : Bytes → CodeOption Target → Option (Read target_form)
target_of l (Some t) =
    some (t.version, (decoded (part_of l t.opening), (decoded (part_of l t.value), tt)))
target_of l None = none

-- a byte string, and the offset after it
abbrev pub next_part_of : Bytes → CodeOption (Part × Cursor) → Option (Bytes × ℕ)
next_part_of l (Some (part, next)) = some (decoded (part_of l part), next.at)
next_part_of l None = none

-- a last byte string, if its length fits
abbrev pub last_bytes_of : Bytes → (ℕ → Bool) → CodeOption (ℕ × Part) → Option (Bytes × Unit {0})
last_bytes_of l fits (Some (length, part)) = provided (fits length) (decoded (part_of l part), tt)
last_bytes_of l fits None = none

-- two last byte strings
abbrev pub last_parts_of : Bytes → CodeOption (Part × Part) → Option (Bytes × (Bytes × Unit {0}))
last_parts_of l (Some (first, second)) = some (decoded (part_of l first), (decoded (part_of l second), tt))
last_parts_of l None = none

-- a part stands in a text, and encodes a byte string
abbrev pub StandsIn : Bytes → Part → Type 0
StandsIn l p = (p.start ≤ p.stop) × (p.stop ≤ length l) × Decodes l p

-- so do the parts that a reader gives back
abbrev pub KtStands : Bytes → CodeOption KtLine → Type 0
KtStands l (Some k) = StandsIn l k.identifier × StandsIn l k.label
KtStands l None = Unit {0}

abbrev pub TargetStands : Bytes → CodeOption Target → Type 0
TargetStands l (Some t) = StandsIn l t.opening × StandsIn l t.value
TargetStands l None = Unit {0}

abbrev pub NextPartStands : Bytes → CodeOption (Part × Cursor) → Type 0
NextPartStands l (Some (part, next)) = StandsIn l part
NextPartStands l None = Unit {0}

abbrev pub LastBytesStand : Bytes → CodeOption (ℕ × Part) → Type 0
LastBytesStand l (Some (n, part)) = StandsIn l part × (length (decoded (part_of l part)) ≡ n)
LastBytesStand l None = Unit {0}

abbrev pub LastPartsStand : Bytes → CodeOption (Part × Part) → Type 0
LastPartsStand l (Some (first, second)) = StandsIn l first × StandsIn l second
LastPartsStand l None = Unit {0}
