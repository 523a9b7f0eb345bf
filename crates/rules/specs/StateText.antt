-- A state as text: a `size` line, a `keep` line for each value, a `pair` line for each pair of the
-- map (paper 01, What a call is given).
use mathlib.Core.List.{List, [], ◌∷◌, ◌++◌, flat_map}
use Rattle.std.proofs.Math.Option.{Option, none, some, Option-elim, bind as ◌>>=◌}
use Rattle.std.specs.Prelude.{eqb, leb, length}
use Rattle.lists.specs.Choice.{choose, ◌>>◌}
use Rattle.lists.specs.Lists.{Bytes}
use Rattle.lines.specs.Number.{ascii}
use Rattle.lines.specs.Field.{number, exactly, up_to}
use Rattle.lines.specs.Line.{Form, read_lines, read_line, leading, write_line}
use Rattle.rules.specs.Limits.{label_limit, hash_length, state_text_limit, number_bound, version_bound}
use Rattle.rules.specs.State.{MapEntry, State, is_valid, empty_state, NumberedState}

-- m, time, label
abbrev pub size_form : Form
size_form =
    record {
      words = ascii "size" ∷ [];
      fields = number number_bound ∷ number number_bound ∷ up_to label_limit ∷ [];
    }

abbrev pub keep_form : Form
keep_form = record { words = ascii "keep" ∷ []; fields = exactly hash_length ∷ [] }

-- position, version
abbrev pub pair_form : Form
pair_form = record { words = ascii "pair" ∷ []; fields = number number_bound ∷ number version_bound ∷ [] }

-- ---- reading

unfoldable pub read_keep : Bytes → Option Bytes
read_keep l = do
  (v, _) ← read_line keep_form l
  some v

unfoldable pub read_pair : Bytes → Option MapEntry
read_pair l = do
  (p, (v, _)) ← read_line pair_form l
  some (record { position = p; version = v })

unfoldable pub read_state_lines : List Bytes → Option State
read_state_lines [] = none
read_state_lines (l ∷ ls) = do
  (m, (t, (label, _))) ← read_line size_form l
  let (values, ls1) = leading read_keep ls
  let (entries, ls2) = leading read_pair ls1
  eqb (length ls2) 0
  some (record {
    label = label;
    log = record { size = m; timestamp = t; values = values };
    monitoring_map = entries;
  })

-- a text of this form that gives a valid state
unfoldable pub read_state : Bytes → Option State
read_state s = do
  ls ← read_lines s
  st ← read_state_lines ls
  is_valid st
  some st

-- reading, with the number of the refusal: both refusals give the state of the empty label
unfoldable pub read_state_text : Bytes → NumberedState
read_state_text s =
    choose (leb (length s) state_text_limit)
    (λ _.
    Option-elim (read_state s) (record { number = 3; state = empty_state [] })
    (λ st. record { number = 0; state = st }))
    (λ _. record { number = 1; state = empty_state [] })

-- ---- writing

unfoldable pub write_keep : Bytes → Bytes
write_keep v = write_line keep_form (v, tt)

unfoldable pub write_pair : MapEntry → Bytes
write_pair e = write_line pair_form (e.position, (e.version, tt))

unfoldable pub write_state : State → Bytes
write_state s =
    write_line size_form (s.log.size, (s.log.timestamp, (s.label, tt)))
    ++ flat_map write_keep s.log.values
    ++ flat_map write_pair s.monitoring_map
