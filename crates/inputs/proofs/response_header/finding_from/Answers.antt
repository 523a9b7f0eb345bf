-- `inputs::response_header::finding_from` meets its contract: the kind says whether a target line
-- is read.
use mathlib.Core.Path.{refl}
use Rattle.inputs.specs.Response.{finding_in}
use Rattle.inputs.specs.ResponseHeader.{read_finding}
use Rattle.inputs.proofs.response_header.finding_from.Goals as goal

pub returns-in-Monitor-clause-read : goal.returns-in-Monitor-clause-read
unfolding finding_in read_finding
returns-in-Monitor-clause-read c = rw c.in-Monitor.is refl
