-- `verifier::reading::read_on` meets its contract: what the functions of the reader answer, put
-- together.
use Rattle.std.proofs.Common.{refl}
use Rattle.verifier.specs.Reading.{read_on, read_on_of}
use Rattle.verifier.proofs.reading.read_on.Goals as goal

pub returns : goal.returns
unfolding read_on read_on_of
returns c =
    rw (
      c.left.ensures,
      c.offset.ensures,
      c.line-line.ensures,
      c.past-after.ensures.0,
      c.past-after.ensures.1,
      c.line-line.ensures,
      c.new-reader.ensures.0,
      c.new-reader.ensures.1,
    ) refl
