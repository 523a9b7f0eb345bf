-- `inputs::state_writer::put_field` meets its contract: a tab, and the field that encodes the byte
-- string after it.
use mathlib.Core.Path.{◌∙◌}
use Rattle.lines.specs.Hex.{hex_field}
use Rattle.inputs.proofs.StateWriterLaws.{unwrapped, then-put}
use Rattle.inputs.proofs.state_writer.put_field.Goals as goal

pub returns : goal.returns
returns c =
    let t = hex_field c.args.s.now in
    let w = c.put_all-offset.ensures in
    then-put t w _ c.requires (c.put_hex.ensures.offset, c.put_hex.ensures.bytes) (c.unwrap_or.ensures
    ∙ unwrapped c.put_hex.result c.put_all-offset.result)
