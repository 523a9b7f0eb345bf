-- The lines of a response's sections, one after the other, once the response has been read: for
-- contracts of private functions alone.
use Rattle.std.specs.Prelude.{◌≡◌, Bool, List, [], ◌∷◌, ℕ, ◌+◌, ◌-◌, ◌≤◌, ◌<◌, length, take, drop}
use Rattle.std.specs.Prelude.{Some, None, Option as CodeOption, is_some as is_given, unwrap_or}
use Rattle.std.proofs.Math.Option.{Option, none, some}
use Rattle.lists.specs.Choice.{is_some, or_else}
use Rattle.lists.specs.Lists.{Bytes}
use Rattle.lines.specs.Layout.{entry_fields, value_digits}
use Rattle.tree.specs.LogText.{value_in, entry_in}
use Rattle.rules.specs.Response.{Step, Lookup, Entry, log_entry}
use Rattle.rules.specs.ResponseText.{read_step, read_in, read_no, read_nl, read_item}
use Rattle.inputs.specs.Response.{steps_in, entries_in, AllRead, loose_in}
use Rattle.checks.specs.declared.sections.NextStep.{NextStep}

-- a text of step lines, and one of entry lines with their lookups
abbrev pub StepLines : Bytes → Type 0
StepLines s = AllRead read_step s

abbrev pub EntryLines : Bytes → Type 0
EntryLines s = AllRead read_item s

-- ---- steps

-- the commitment of a step stands at an offset, if there is one
abbrev pub CommitmentAt : Bytes → ℕ → Option Bytes → Type 0
CommitmentAt s offset none = Unit {0}
CommitmentAt s offset (some c) = value_in (take value_digits (drop offset s)) ≡ c

-- whether a step has a commitment
abbrev pub has_commitment : NextStep → Bool
has_commitment n = is_given n.commitment

-- the offset that is noted of a step: 0 where it has no commitment
abbrev pub noted_of : NextStep → ℕ
noted_of n = unwrap_or n.commitment 0

-- the step at an offset: its version, and where its commitment stands if it has one; the offset after
-- it
abbrev pub IsNextStep : Bytes → ℕ → CodeOption NextStep → Type 0
IsNextStep s at (Some n) =
    (x : Step) × (steps_in (drop at s) ≡ x ∷ steps_in (drop n.next s)) × (x.version ≡ n.version)
    × (is_some x.commitment ≡ has_commitment n)
    × CommitmentAt s (noted_of n) x.commitment × StepLines (drop n.next s) × (at < n.next) × (n.next ≤ length s)
    × (noted_of n ≤ length s)
IsNextStep s at None = steps_in (drop at s) ≡ []

-- ---- entries

unfoldable pub with_lookups : Entry → List Lookup → Entry
with_lookups e ls =
    record { position = e.position; timestamp = e.timestamp; prefix_root = e.prefix_root; lookups = ls }

-- the entry at an offset, and the offset after its line, where its lookups stand
abbrev pub IsNextEntry : Bytes → ℕ → CodeOption ℕ → Type 0
IsNextEntry s at (Some next) =
    (e : Entry) × (entries_in (drop at s) ≡ with_lookups e (loose_in (drop next s)) ∷ entries_in (drop next s))
    × (entry_in (drop (at + entry_fields) s) ≡ log_entry e)
    × EntryLines (drop next s) × (at + entry_fields < next) × (next ≤ length s)
IsNextEntry s at None = entries_in (drop at s) ≡ []

-- ---- lookups

unfoldable pub read_lookup : Bytes → Option Lookup
read_lookup l = or_else (read_in l) (or_else (read_no l) (read_nl l))

-- the lookup at an offset: where its line stops, and the offset after it
abbrev pub IsNextLookup : Bytes → ℕ → CodeOption (ℕ × ℕ) → Type 0
IsNextLookup s at (Some (stop, next)) =
    (l : Lookup) × (read_lookup (take (stop - at) (drop at s)) ≡ some l)
    × (loose_in (drop at s) ≡ l ∷ loose_in (drop next s))
    × (entries_in (drop at s) ≡ entries_in (drop next s)) × EntryLines (drop next s) × (at ≤ stop)
    × (stop < next) × (next ≤ length s)
IsNextLookup s at None = loose_in (drop at s) ≡ []

-- the offset after the lookups at an offset, where an entry stands or the lines end
pub record AfterLookups (s : Bytes) (from next : ℕ) : Type 0 where
  pub entries : entries_in (drop next s) ≡ entries_in (drop from s)
  pub loose : loose_in (drop next s) ≡ []
  pub lines : EntryLines (drop next s)
  pub forward : from ≤ next
  pub within : next ≤ length s

-- what is told of a lookup line
abbrev pub OfLookup : {A : Type 0} → Bytes → (Lookup → A) → A → Type 0
OfLookup line f r = (l : Lookup) → read_lookup line ≡ some l → r ≡ f l
