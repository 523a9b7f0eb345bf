-- `inputs::state_writer::put_number` meets its contract: a tab, and the digits of the number after
-- it.
use mathlib.Core.Path.{◌∙◌}
use Rattle.lines.specs.Number.{decimal}
use Rattle.inputs.proofs.StateWriterLaws.{unwrapped, then-put}
use Rattle.inputs.proofs.state_writer.put_number.Goals as goal

pub returns : goal.returns
returns c =
    let t = decimal c.args.n in
    let w = c.put_all-offset.ensures in
    then-put t w _ c.requires (c.put_decimal.ensures.offset, c.put_decimal.ensures.bytes) (c.unwrap_or.ensures
    ∙ unwrapped c.put_decimal.result c.put_all-offset.result)
