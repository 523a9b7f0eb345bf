-- `inputs::state_writer::put_keep` meets its contract: the word, the value, a newline, each after
-- what is written before it.
use mathlib.Core.List.{[], ◌∷◌}
use Rattle.lines.specs.Number.{ascii}
use Rattle.lines.specs.Hex.{hex_field}
use Rattle.lines.specs.Line.{tab, newline}
use Rattle.inputs.proofs.StateWriterLaws.{room-then, wrote_then, keep_pieces, keep_rooms}
use Rattle.inputs.proofs.state_writer.put_keep.Goals as goal

pub put_all-value_at-requires : goal.put_all-value_at-requires
unfolding ascii
put_all-value_at-requires c = (keep_rooms c.args.value.now c.requires).first

pub put_field-end-requires : goal.put_field-end-requires
unfolding ascii
put_field-end-requires c =
    let v = c.args.value.now in
    room-then (tab ∷ hex_field v) c.put_all-value_at.ensures (keep_rooms v c.requires).two

pub put_all-requires : goal.put_all-requires
unfolding ascii
put_all-requires c =
    let v = c.args.value.now in
    let two = wrote_then (tab ∷ hex_field v) c.put_all-value_at.ensures c.put_field-end.ensures in
    room-then (newline ∷ []) two (keep_rooms v c.requires).all

pub returns : goal.returns
unfolding ascii
returns c =
    let v = c.args.value.now in
    let two = wrote_then (tab ∷ hex_field v) c.put_all-value_at.ensures c.put_field-end.ensures in
    rw (keep_pieces v) (wrote_then (newline ∷ []) two c.put_all.ensures)
