-- What the readers of the lines before a response's sections give back, from what is read: for
-- contracts of private functions alone.
use Rattle.std.specs.Prelude.{[], ℕ, ◌+◌, ◌≤◌, length, drop, Some, None, Option as CodeOption}
use Rattle.std.proofs.Math.Option.{Option, none, some, bind as ◌>>=◌}
use Rattle.lists.specs.Choice.{or_else, ◌>>◌}
use Rattle.lists.specs.Lists.{Bytes, same}
use Rattle.lines.specs.Line.{Read as ReadForm, ended_lines, open_rest, read_line}
use Rattle.lines.specs.Readings.{part_of}
use Rattle.lines.specs.declared.part.Part.{Part}
use Rattle.rules.specs.Response.{Kind, search, monitor, Finding, searched, monitored, Parts}
use Rattle.rules.specs.ResponseText.{kt_form, head_form, target_form, read_kind_line, read_body}
use Rattle.inputs.specs.declared.response_lines.KtLine.{KtLine}
use Rattle.inputs.specs.declared.response_lines.Finding.{Finding as FindingBlock}
use Rattle.inputs.specs.TextLine.{read_from}
use Rattle.inputs.specs.ResponseLines.{decoded, Decodes, kind_of}
use Rattle.inputs.specs.declared.response_header.Header.{Header}
use Rattle.inputs.specs.Response.{finding_in, TargetDecodes}

-- the kind, the identifier and the label of a first line
abbrev pub read_kt : Bytes → Option (Kind × ReadForm (kt_form search))
read_kt l = or_else (read_kind_line search l) (read_kind_line monitor l)

-- what a response of a kind found: a search has its target line at an offset
unfoldable pub read_finding : Kind → Bytes → ℕ → Option (Finding × ℕ)
read_finding search s at = do
  ((t, (opening, (value, _))), next) ← read_from (read_line target_form) s at
  some (searched (record { version = t; opening = opening; value = value }), next)
read_finding monitor s at = some (monitored, at)

-- a part of a line that begins at an offset, as a part of the text
abbrev pub shifted : ℕ → Part → Part
shifted at p = record { start = at + p.start; stop = at + p.stop }

-- the first line that was read, if it could be
abbrev pub opened_of : Bytes → CodeOption (KtLine × ℕ) → Option ((Kind × ReadForm (kt_form search)) × ℕ)
opened_of s (Some (k, next)) =
    some ((kind_of k.kind, (decoded (part_of s k.identifier), (decoded (part_of s k.label), tt))), next)
opened_of s None = none

-- the same of the `head` line
abbrev pub size_of : CodeOption (ℕ × ℕ) → Option (ReadForm head_form × ℕ)
size_of (Some (size, next)) = some ((size, tt), next)
size_of None = none

-- and of what was found
abbrev pub finding_of : Bytes → CodeOption (FindingBlock × ℕ) → Option (Finding × ℕ)
finding_of s (Some (finding, next)) = some (finding_in s finding, next)
finding_of s None = none

-- the parts that the lines after a header make with it, if nothing stands after the last newline
unfoldable pub parts_after : Bytes → Header → Option Parts
parts_after s h = do
  same (open_rest (drop h.next s)) []
  read_body (decoded (part_of s h.identifier)) (decoded (part_of s h.label)) h.tree_size
      (finding_in s h.finding) (ended_lines (drop h.next s))

-- the response that begins with what was read, if it could be
abbrev pub headed_of : Bytes → CodeOption Header → Option Parts
headed_of s (Some h) = parts_after s h
headed_of s None = none

-- the fields of a first line encode byte strings
abbrev pub OpenedDecodes : Bytes → CodeOption (KtLine × ℕ) → Type 0
OpenedDecodes s (Some (k, next)) = Decodes s k.identifier × Decodes s k.label
OpenedDecodes s None = Unit {0}

-- so do those of a target line
abbrev pub FoundDecodes : Bytes → CodeOption (FindingBlock × ℕ) → Type 0
FoundDecodes s (Some (finding, next)) = TargetDecodes s finding
FoundDecodes s None = Unit {0}

-- and those of a header
abbrev pub HeaderDecodes : Bytes → Header → Type 0
HeaderDecodes s h = Decodes s h.identifier × Decodes s h.label × TargetDecodes s h.finding

-- the sections begin within the text
abbrev pub HeaderStands : Bytes → CodeOption Header → Type 0
HeaderStands s (Some h) = (h.next ≤ length s) × HeaderDecodes s h
HeaderStands s None = Unit {0}
