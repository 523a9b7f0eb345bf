-- What the readers of a state's text give back, from what is read (paper 01, What a call is given):
-- for contracts of private functions alone.
use Rattle.std.specs.Prelude.{◌≡◌, ℕ, ◌+◌, ◌≤◌, eqb, length, take, drop, set, Some, None, Option as CodeOption}
use mathlib.Core.List.{List, [], ◌∷◌, flatten, Memᴰ}
use Rattle.std.proofs.Math.Option.{Option, none, some, Option-elim, bind as ◌>>=◌}
use Rattle.lists.specs.Choice.{◌>>◌}
use Rattle.lists.specs.Lists.{Bytes}
use Rattle.hash.specs.Bytes.{padded}
use Rattle.lines.specs.Field.{up_to, Values}
use Rattle.lines.specs.Line.{Read, ended_lines, open_rest, read_lines, leading}
use Rattle.rules.specs.Limits.{label_limit, map_limit, hash_length, values_block_length}
use Rattle.rules.specs.State.{MapEntry, State, positions, versions, is_valid, empty_state, NumberedState}
use Rattle.rules.specs.StateText.{size_form, read_keep, read_pair}
use Rattle.inputs.specs.declared.state.Label.{Label}
use Rattle.inputs.specs.declared.state.MonitoringMap.{MonitoringMap}
use Rattle.inputs.specs.declared.state_reader.SizeLine.{SizeLine}
use Rattle.inputs.specs.declared.state_reader.Keeps.{Keeps}
use Rattle.inputs.specs.declared.state_reader.Pairs.{Pairs}
use Rattle.inputs.specs.State.{label_block}

-- ---- single lines

-- a label that is read, as a struct
abbrev pub label_read : Values (up_to label_limit ∷ []) → Label
label_read (label, _) = label_block label

-- what a `size` line says, as a struct
abbrev pub size_read : Read size_form → SizeLine
size_read (m, (t, vs)) = record { size = m; timestamp = t; label = label_read vs }

-- a pair, if there is one
abbrev pub pair_of : CodeOption (ℕ × ℕ) → Option MapEntry
pair_of (Some (position, version)) = some (record { position = position; version = version })
pair_of None = none

-- the same with the offset after the line
abbrev pub pair_from_of : CodeOption ((ℕ × ℕ) × ℕ) → Option (MapEntry × ℕ)
pair_from_of (Some ((position, version), next)) = some (record { position = position; version = version }, next)
pair_from_of None = none

-- ---- leading lines

-- the first elements of a list, as many as there is room for, and zeros after them
unfoldable pub front : ℕ → List ℕ → List ℕ
front n s = padded n (take n s)

-- the `keep` lines from an offset on: their number, the block of the first of their values, and the
-- offset of the lines after them
pub record KeepsFrom (s : Bytes) (from : ℕ) (r : Keeps) : Type 0 where
  pub taken : List Bytes
  pub lines : leading read_keep (ended_lines (drop from s)) ≡ (taken, ended_lines (drop r.next s))
  pub rest : open_rest (drop from s) ≡ open_rest (drop r.next s)
  pub within : r.next ≤ length s
  pub counted : r.count ≡ length taken
  pub stored : r.values ≡ front values_block_length (flatten taken)

-- a map with one pair more, which is stored where there is room for it
unfoldable pub with_pair : MonitoringMap → ℕ → ℕ → MonitoringMap
with_pair m position version =
    record {
      positions = set m.positions m.count position;
      versions = set m.versions m.count version;
      count = m.count + 1;
    }

-- the `pair` lines from an offset on, in the same way
pub record PairsFrom (s : Bytes) (from : ℕ) (r : Pairs) : Type 0 where
  pub taken : List MapEntry
  pub lines : leading read_pair (ended_lines (drop from s)) ≡ (taken, ended_lines (drop r.next s))
  pub rest : open_rest (drop from s) ≡ open_rest (drop r.next s)
  pub within : r.next ≤ length s
  pub counted : r.map.count ≡ length taken
  pub firsts : r.map.positions ≡ front map_limit (positions taken)
  pub seconds : r.map.versions ≡ front map_limit (versions taken)

-- ---- the state

-- what was read stands for a state, the values and pairs for which there is no room apart
pub record ReadAs (first : SizeLine) (keeps : Keeps) (pairs : Pairs) (st : State) : Type 0 where
  pub label : first.label ≡ label_block st.label
  pub size : first.size ≡ st.log.size
  pub timestamp : first.timestamp ≡ st.log.timestamp
  pub value_count : keeps.count ≡ length st.log.values
  pub values : keeps.values ≡ front values_block_length (flatten st.log.values)
  pub value_length : (v : Bytes) → Memᴰ v st.log.values → length v ≡ hash_length
  pub pair_count : pairs.map.count ≡ length st.monitoring_map
  pub firsts : pairs.map.positions ≡ front map_limit (positions st.monitoring_map)
  pub seconds : pairs.map.versions ≡ front map_limit (versions st.monitoring_map)

-- what was read, as a state
abbrev pub gathered : Read size_form → List Bytes → List MapEntry → State
gathered (m, (t, (label, _))) values entries =
    record {
      label = label;
      log = record { size = m; timestamp = t; values = values };
      monitoring_map = entries;
    }

-- a state, if it is valid
unfoldable pub if_valid : State → Option State
if_valid st = is_valid st >> some st

-- the state that a `size` line and the text after it give
unfoldable pub read_after_size : Read size_form → Bytes → Option State
read_after_size x s = do
  ls ← read_lines s
  let (values, ls1) = leading read_keep ls
  let (entries, ls2) = leading read_pair ls1
  eqb (length ls2) 0
  if_valid (gathered x values entries)

-- refused with a number: the state of the empty label
abbrev pub refused_by : ℕ → NumberedState
refused_by k = record { number = k; state = empty_state [] }

-- a state that was read, or the refusal of a text that says no valid state
unfoldable pub or_refused : Option State → NumberedState
or_refused o = Option-elim o (refused_by 3) (λ st. record { number = 0; state = st })
