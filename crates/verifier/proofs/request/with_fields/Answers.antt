-- `verifier::request::with_fields` meets its contract: after the identifier and the clock the line
-- ends; each test that fails is a way in which they are not read.
use mathlib.Core.Path.{sym, subst}
use native.Mathlib.Omega.{arith}
use Rattle.verifier.specs.Request.{IsFields}
use Rattle.verifier.proofs.RequestLaws.{read_is, fields-no-identifier, identifier-within, fields-no-clock}
use Rattle.verifier.proofs.RequestLaws.{fields-more, fields_read}
use Rattle.verifier.proofs.request.with_fields.Goals as goal

pub returns-in_err-length-clause-request : goal.returns-in_err-length-clause-request
returns-in_err-length-clause-request c =
    subst (IsFields _ _ _) (sym c.from_residual.ensures)
    (fields-no-identifier _ _ _ (read_is c.bytes.ensures c.in_err-length.was))

pub returns-in_err-clock-clause-request : goal.returns-in_err-clock-clause-request
returns-in_err-clock-clause-request c =
    subst (IsFields _ _ _) (sym c.from_residual-in_err-clock.ensures)
    (fields-no-clock _ _ _ _ _ (read_is c.bytes.ensures c.in_ok-length.was)
    (read_is c.number.ensures c.in_err-clock.was))

pub returns-then-next-line-clause-request : goal.returns-then-next-line-clause-request
returns-then-next-line-clause-request c =
    fields-more _ _ _ _ _ (read_is c.bytes.ensures c.in_ok-length.was) _ _
    (read_is c.number.ensures c.in_ok-clock.was) (omega arith)

pub returns-clause-request : goal.returns-clause-request
returns-clause-request c =
    fields_read _ _ _ _ _ (read_is c.bytes.ensures c.in_ok-length.was) _ _ (read_is c.number.ensures c.in_ok-clock.was)
    _ _ (omega arith) c.requires c.field.ensures c.put_decoded.ensures.bytes

pub returns-clause-within : goal.returns-clause-within
returns-clause-within c = identifier-within _ _ _ _ (read_is c.bytes.ensures c.in_ok-length.was) c.requires
