-- `inputs::state_writer::put_size` meets its contract: the word and the two numbers, the label, a
-- newline, each after what is written before it.
use mathlib.Core.List.{[], ◌∷◌}
use Rattle.lines.specs.Number.{ascii}
use Rattle.lines.specs.Hex.{hex_field}
use Rattle.lines.specs.Line.{tab, newline}
use Rattle.inputs.proofs.StateWriterLaws.{room-then, wrote_then, size_pieces, size_rooms}
use Rattle.inputs.proofs.state_writer.put_size.Goals as goal

pub put_numbers-label_at-requires : goal.put_numbers-label_at-requires
unfolding ascii
put_numbers-label_at-requires c = let a = c.args in (size_rooms a.size a.timestamp a.label.now c.requires).first

pub put_field-end-requires : goal.put_field-end-requires
unfolding ascii
put_field-end-requires c =
    let a = c.args in
    let r = size_rooms a.size a.timestamp a.label.now c.requires in
    room-then (tab ∷ hex_field a.label.now) c.put_numbers-label_at.ensures r.two

pub put_all-requires : goal.put_all-requires
unfolding ascii
put_all-requires c =
    let a = c.args in
    let two = wrote_then (tab ∷ hex_field a.label.now) c.put_numbers-label_at.ensures c.put_field-end.ensures in
    room-then (newline ∷ []) two (size_rooms a.size a.timestamp a.label.now c.requires).all

pub returns : goal.returns
unfolding ascii
returns c =
    let a = c.args in
    let two = wrote_then (tab ∷ hex_field a.label.now) c.put_numbers-label_at.ensures c.put_field-end.ensures in
    rw (size_pieces a.size a.timestamp a.label.now) (wrote_then (newline ∷ []) two c.put_all.ensures)
