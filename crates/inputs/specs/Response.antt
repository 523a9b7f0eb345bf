-- How the offsets of a response that was read stand for its parts of the rules.
use Rattle.std.specs.Prelude.{◌≡◌, List, [], ◌≤◌, length, Some, None, Option as CodeOption}
use Rattle.std.proofs.Math.Option.{Option, none, some}
use Rattle.lists.specs.Lists.{Bytes}
use Rattle.lines.specs.Line.{ended_lines, open_rest, leading}
use Rattle.lines.specs.Readings.{part_of}
use Rattle.rules.specs.Response.{Finding, searched, monitored, Step, Lookup, Entry, Parts}
use Rattle.rules.specs.ResponseText.{read_step, read_node}
use Rattle.rules.specs.ResponseText.{read_item, grouped}
use Rattle.inputs.specs.declared.response_lines.Finding.{Finding as FindingBlock}
use Rattle.inputs.specs.declared.response_lines.Finding.TheVariants.{Search, Monitor}
use Rattle.inputs.specs.ResponseLines.{decoded, Decodes}
use Rattle.inputs.specs.declared.response.Response.{Response}

-- ---- the sections of a response, from the text that they fill

unfoldable pub steps_in : Bytes → List Step
steps_in s = (leading read_step (ended_lines s)).0

-- lookups that follow no entry, and the entries
unfoldable pub loose_in : Bytes → List Lookup
loose_in s = (grouped (leading read_item (ended_lines s)).0).0

unfoldable pub entries_in : Bytes → List Entry
entries_in s = (grouped (leading read_item (ended_lines s)).0).1

unfoldable pub nodes_in : Bytes → List Bytes
nodes_in s = (leading read_node (ended_lines s)).0

-- ---- the whole

-- what was found: of a search its target
unfoldable pub finding_in : Bytes → FindingBlock → Finding
finding_in s (Search t) =
    searched (record {
      version = t.version;
      opening = decoded (part_of s t.opening);
      value = decoded (part_of s t.value);
    })
finding_in s Monitor = monitored

-- each field and each section is what its part of the text says
unfoldable pub parts_in : Bytes → Response → Parts
parts_in s r =
    record {
      identifier = decoded (part_of s r.identifier);
      label = decoded (part_of s r.label);
      tree_size = r.tree_size;
      finding = finding_in s r.finding;
      steps = steps_in (part_of s r.steps.part);
      entries = entries_in (part_of s r.entries.part);
      nodes = nodes_in (part_of s r.nodes.part);
    }

-- what was read; bytes that do not read are refused with 5
abbrev pub parts_of : Bytes → CodeOption Response → Option Parts
parts_of s (Some r) = some (parts_in s r)
parts_of s None = none

-- the counts of the sections are right
pub record Counted (s : Bytes) (r : Response) : Type 0 where
  pub steps : r.steps.count ≡ length (steps_in (part_of s r.steps.part))
  pub entries : r.entries.count ≡ length (entries_in (part_of s r.entries.part))
  pub nodes : r.nodes.count ≡ length (nodes_in (part_of s r.nodes.part))

-- the sections follow each other in the text
pub record Ordered (s : Bytes) (r : Response) : Type 0 where
  pub entries_follow : r.steps.part.stop ≡ r.entries.part.start
  pub nodes_follow : r.entries.part.stop ≡ r.nodes.part.start
  pub steps_forward : r.steps.part.start ≤ r.steps.part.stop
  pub entries_forward : r.entries.part.start ≤ r.entries.part.stop
  pub nodes_forward : r.nodes.part.start ≤ r.nodes.part.stop
  pub within : r.nodes.part.stop ≤ length s

-- a text is lines that all read, and nothing else
abbrev pub AllRead : {A : Type 0} → (Bytes → Option A) → Bytes → Type 0
AllRead read s = ((leading read (ended_lines s)).1 ≡ []) × (open_rest s ≡ [])

-- and so is the text of each section, in which each lookup follows an entry
pub record Filled (s : Bytes) (r : Response) : Type 0 where
  pub steps : AllRead read_step (part_of s r.steps.part)
  pub entries : AllRead read_item (part_of s r.entries.part)
  pub none_loose : loose_in (part_of s r.entries.part) ≡ []
  pub nodes : AllRead read_node (part_of s r.nodes.part)

-- opening and value of a search are parts that encode byte strings
abbrev pub TargetDecodes : Bytes → FindingBlock → Type 0
TargetDecodes s (Search t) = Decodes s t.opening × Decodes s t.value
TargetDecodes s Monitor = Unit {0}

-- and so are all parts that are handed on
pub record Fields (s : Bytes) (r : Response) : Type 0 where
  pub identifier : Decodes s r.identifier
  pub label : Decodes s r.label
  pub target : TargetDecodes s r.finding

-- what is promised of the offsets
abbrev pub Offsets : Bytes → CodeOption Response → Type 0
Offsets s (Some r) = Fields s r × Counted s r × Ordered s r × Filled s r
Offsets s None = Unit {0}
