-- What the readers of a response's sections give back, from what is read: for contracts of private
-- functions alone.
use Rattle.std.specs.Prelude.{◌≡◌, Bool, true, false, List, ℕ, ◌≤◌, length, drop, Some, None, Option as CodeOption}
use Rattle.std.proofs.Math.Option.{Option, none, some, map}
use Rattle.lists.specs.Lists.{Bytes}
use Rattle.lines.specs.Line.{Read as ReadForm, ended_lines, open_rest, read_line, leading}
use Rattle.lines.specs.Readings.{part_of}
use Rattle.rules.specs.Response.{Step}
use Rattle.rules.specs.ResponseText.{end_form, read_step, read_node}
use Rattle.rules.specs.ResponseText.{Item, entry_item, lookup_item, read_item, grouped}
use Rattle.inputs.specs.declared.response.Section.{Section}
use Rattle.inputs.specs.declared.response.Sort.{Sort}
use Rattle.inputs.specs.declared.response.Sort.TheVariants.{Steps, Entries, Nodes, Ends}
use Rattle.inputs.specs.declared.response.Role.{Role}
use Rattle.inputs.specs.declared.response.Role.TheVariants.{Begins, Continues}
use Rattle.inputs.specs.Response.{AllRead}

-- what its lines read as
abbrev pub Element : Sort → Type 0
Element Steps = Step
Element Entries = Item
Element Nodes = Bytes
Element Ends = ReadForm end_form

-- how they are read
abbrev pub read_element : (sort : Sort) → Bytes → Option (Element sort)
read_element Steps = read_step
read_element Entries = read_item
read_element Nodes = read_node
read_element Ends = read_line end_form

-- an entry begins with its line, and its lookups continue it; every other line begins something
abbrev pub begins_element : (sort : Sort) → Element sort → Bool
begins_element Steps x = true
begins_element Entries (entry_item e) = true
begins_element Entries (lookup_item l) = false
begins_element Nodes x = true
begins_element Ends x = true

-- whether a line begins something, if it belongs to the section
abbrev pub read_role : Sort → Bytes → Option Bool
read_role sort l = map (begins_element sort) (read_element sort l)

-- whether a line of a role begins something
abbrev pub begins : Role → Bool
begins Begins = true
begins Continues = false

-- the role that was found
abbrev pub role_of : CodeOption Role → Option Bool
role_of (Some role) = some (begins role)
role_of None = none

-- the same with the offset after the line
abbrev pub role_from_of : CodeOption (Role × ℕ) → Option (Bool × ℕ)
role_from_of (Some (role, next)) = some (begins role, next)
role_from_of None = none

-- how many steps, entries, nodes or ends there are
abbrev pub count_of : (sort : Sort) → List (Element sort) → ℕ
count_of Steps xs = length xs
count_of Entries xs = length (grouped xs).1
count_of Nodes xs = length xs
count_of Ends xs = length xs

-- the section at an offset has all lines of its sort that lead there
pub record SectionOf (sort : Sort) (s : Bytes) (from : ℕ) (r : Section) : Type 0 where
  pub starts : r.part.start ≡ from
  pub forward : from ≤ r.part.stop
  pub within : r.part.stop ≤ length s
  pub lines : leading (read_element sort) (ended_lines (drop from s))
      ≡ ((leading (read_element sort) (ended_lines (part_of s r.part))).0, ended_lines (drop r.part.stop s))
  pub rest : open_rest (drop from s) ≡ open_rest (drop r.part.stop s)
  pub whole : AllRead (read_element sort) (part_of s r.part)
  pub counted : r.count ≡ count_of sort (leading (read_element sort) (ended_lines (part_of s r.part))).0
