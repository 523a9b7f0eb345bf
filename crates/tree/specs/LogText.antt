-- Log entries and values where they stand in a text (paper 01, Response lines). Of lines that keep
-- the rules these are the entries, nodes and siblings that the lines say; of other bytes they are
-- some entry and some values, so that whoever reads them there has nothing to check first.
use Rattle.std.specs.Prelude.{Bool, List, [], ◌∷◌, map, ℕ, ◌+◌, ◌-◌, ◌/◌, ◌^◌, eqb, length, get_or, take, drop}
use Rattle.std.proofs.Math.Option
use Rattle.lists.specs.Choice.{choose}
use Rattle.lists.specs.Lists.{Bytes, runs}
use Rattle.hash.specs.Sha256.{digest_length}
use Rattle.lines.specs.Number.{read_number}
use Rattle.lines.specs.Field.{exactly, read_field}
use Rattle.lines.specs.Layout.{entry_fields, entry_letter, node_fields, node_line, value_digits}
use Rattle.lines.specs.Line.{tab, newline, parts_at, before, after}
use Rattle.tree.specs.LogTree.{LogEntry, zeros}

-- the number of 64 bits that a field encodes, or 0
unfoldable pub number_in : Bytes → ℕ
number_in s = Option.get_or (read_number (2 ^ 64 - 1) s) 0

-- the value that a field encodes, or zeros
unfoldable pub value_in : Bytes → Bytes
value_in s = Option.get_or (read_field (exactly digest_length) s) zeros

-- siblings: values with their digits joined
unfoldable pub values_in : Bytes → List Bytes
values_in s = map value_in (runs (length s / value_digits) value_digits s)

-- the entry whose position, time and prefix root stand at the front of s, parted by tabs
unfoldable pub entry_in : Bytes → LogEntry
entry_in s =
    record {
      position = number_in (before tab s);
      timestamp = number_in (before tab (after tab s));
      prefix_root = value_in (take value_digits (after tab (after tab s)));
    }

-- ---- the entries that a text shows

-- a line is an entry line by the letter that it begins with, as no lookup line does
unfoldable pub is_entry_line : Bytes → Bool
is_entry_line l = eqb (get_or l 0 0) entry_letter

-- where the line after that at an offset of a text begins
abbrev pub next_line : Bytes → ℕ → ℕ
next_line text at = at + length (before newline (drop at text)) + 1

-- where the entry lines begin among lines that follow each other from an offset on
unfoldable pub offsets_from : ℕ → List Bytes → List ℕ
offsets_from at [] = []
offsets_from at (l ∷ ls) =
    choose (is_entry_line l) (λ _. at ∷ offsets_from (at + length l + 1) ls)
    (λ _. offsets_from (at + length l + 1) ls)

-- where they begin in a text, from the start of a line on; what no newline ends is a line too
unfoldable pub entry_offsets : Bytes → ℕ → List ℕ
entry_offsets text start = offsets_from start (parts_at newline (drop start text))

-- the entries whose lines begin at some offsets of a text
unfoldable pub entries_at : Bytes → List ℕ → List LogEntry
entries_at text offsets = map (λ (p : ℕ). entry_in (drop (p + entry_fields) text)) offsets

-- the entries of all entry lines of a text
unfoldable pub shown_in : Bytes → List LogEntry
shown_in text = entries_at text (entry_offsets text 0)

-- ---- nodes

-- the values of the node lines that follow each other in s
unfoldable pub nodes_in : Bytes → List Bytes
nodes_in s =
    map (λ (l : Bytes). value_in (take value_digits (drop node_fields l)))
    (runs (length s / node_line) node_line s)
