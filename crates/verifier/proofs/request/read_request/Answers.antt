-- `verifier::request::read_request` meets its contract: what a broken text stands for is the
-- definitions' broken request.
use Rattle.std.specs.Prelude.{Some, None}
use Rattle.rules.specs.Program.{broken_request}
use Rattle.checks.specs.Calls.{asked_kind}
use Rattle.verifier.specs.Request.{request_in}
use Rattle.verifier.proofs.RequestLaws.{said_read}
use Rattle.verifier.proofs.request.read_request.Goals as goal

pub returns-in-Some-clause-request : goal.returns-in-Some-clause-request
returns-in-Some-clause-request c = said_read _ (Some _) c.in-Some.ensures.request

pub returns-in-None-clause-request : goal.returns-in-None-clause-request
unfolding request_in asked_kind broken_request
returns-in-None-clause-request c = said_read _ None c.in-None.ensures.request
