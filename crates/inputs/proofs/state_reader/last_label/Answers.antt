-- `inputs::state_reader::last_label` meets its contract: the label is the last field; each test
-- that fails is a way in which it is not read.
use mathlib.Core.Path.{ap}
use mathlib.Core.Option.{map}
use Rattle.inputs.specs.StateReader.{label_read}
use Rattle.inputs.proofs.StateLineLaws.{label-none, label-long, label-read}
use Rattle.inputs.proofs.state_reader.last_label.Goals as goal

pub returns-in_err-length : goal.returns-in_err-length
returns-in_err-length c =
    rw c.from_residual.ensures (ap (map label_read) (label-none _ _ _ c.last_bytes.ensures.read c.in_err-length.was))

pub returns-then-length-gt-LABEL : goal.returns-then-length-gt-LABEL
returns-then-length-gt-LABEL c =
    ap (map label_read) (label-long _ _ _ c.last_bytes.ensures.read _ _ c.in_ok-length.was c.if-length-gt-LABEL.true)

pub returns : goal.returns
returns c =
    let stands = c.in_ok-length.ensures.stands in
    label-read _ _ _ c.last_bytes.ensures.read _ _ c.in_ok-length.was c.if-length-gt-LABEL.false
    stands.0.2 stands.1 _ _ c.of.ensures c.put_decoded.ensures.bytes
