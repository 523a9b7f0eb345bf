-- `inputs::state_writer::put_pair` meets its contract: the word and the two numbers, and a newline
-- after them.
use mathlib.Core.List.{[], ◌∷◌, ◌++◌}
use Rattle.lines.specs.Number.{ascii, decimal}
use Rattle.lines.specs.Line.{tab, newline}
use Rattle.inputs.proofs.StateWriterLaws.{room_first, room-then, wrote_then, pair_pieces, pair_room}
use Rattle.inputs.proofs.state_writer.put_pair.Goals as goal

pub put_numbers-end-requires : goal.put_numbers-end-requires
unfolding ascii
put_numbers-end-requires c =
    let a = c.args in
    room_first (ascii "pair" ++ (tab ∷ decimal a.position) ++ (tab ∷ decimal a.version)) (newline ∷ []) _ _
    (pair_room (record { position = a.position; version = a.version }) a.at _ c.requires)

pub put_all-requires : goal.put_all-requires
unfolding ascii
put_all-requires c =
    let a = c.args in
    let r = pair_room (record { position = a.position; version = a.version }) a.at _ c.requires in
    room-then (newline ∷ []) c.put_numbers-end.ensures r

pub returns : goal.returns
unfolding ascii
returns c =
    let a = c.args in
    rw (pair_pieces (record { position = a.position; version = a.version }))
    (wrote_then (newline ∷ []) c.put_numbers-end.ensures c.put_all.ensures)
