-- `inputs::state_writer::put_numbers` meets its contract: the word, the first number, the second,
-- each after what is written before it.
use mathlib.Core.List.{◌∷◌}
use Rattle.lines.specs.Number.{decimal}
use Rattle.lines.specs.Line.{tab}
use Rattle.inputs.proofs.StateWriterLaws.{wrote_then}
use Rattle.inputs.proofs.state_writer.put_numbers.Goals as goal

pub returns : goal.returns
returns c =
    let a = c.args in
    let two = wrote_then (tab ∷ decimal a.first) c.put_all-first_at.ensures c.put_number-second_at.ensures in
    wrote_then (tab ∷ decimal a.second) two c.put_number.ensures
