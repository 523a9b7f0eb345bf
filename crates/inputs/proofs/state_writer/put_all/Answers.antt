-- `inputs::state_writer::put_all` meets its contract: there is room for the bytes, so they are put.
use mathlib.Core.Path.{◌∙◌}
use Rattle.inputs.proofs.StateWriterLaws.{unwrapped, wrote_put}
use Rattle.inputs.proofs.state_writer.put_all.Goals as goal

pub returns : goal.returns
returns c =
    wrote_put c.args.s.now _ c.requires (c.put_bytes.ensures.offset, c.put_bytes.ensures.bytes) (c.unwrap_or.ensures
    ∙ unwrapped c.put_bytes.result c.args.at)
