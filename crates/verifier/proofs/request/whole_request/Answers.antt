-- `verifier::request::whole_request` meets its contract: there is one line; its word tells the kind,
-- and the other fields are left to `with_fields`.
use mathlib.Core.Path.{sym, subst}
use borrow.Author.Rules.{rules}
use Rattle.lines.specs.Number.{ascii}
use Rattle.lines.proofs.SectionLaws.{line_here}
use Rattle.verifier.specs.Request.{IsRequest}
use Rattle.verifier.proofs.RequestLaws.{read_is, next_is, request_no_line, request-longer, request-search}
use Rattle.verifier.proofs.RequestLaws.{request-monitor, request-neither}
use Rattle.verifier.proofs.request.whole_request.Goals as goal

pub returns-in_err-stop-clause-request : goal.returns-in_err-stop-clause-request
returns-in_err-stop-clause-request c =
    subst (IsRequest _) (sym c.from_residual.ensures) (request_no_line _ (read_is c.line.ensures c.in_err-stop.was))

pub returns-then-next-text-clause-request : goal.returns-then-next-text-clause-request
returns-then-next-text-clause-request c =
    request-longer _ _ _ (line_here _ _ _ _ (read_is c.line.ensures c.in_ok-stop.was)) c.if-next-text.true

pub slice_bounds-line-end : goal.slice_bounds-line-end
slice_bounds-line-end c = let h = line_here _ _ _ _ (read_is c.line.ensures c.in_ok-stop.was) in search rules

pub returns-in-Some-clause-request : goal.returns-in-Some-clause-request
unfolding ascii
returns-in-Some-clause-request c =
    request-search _ _ _ (line_here _ _ _ _ (read_is c.line.ensures c.in_ok-stop.was)) c.if-next-text.false _ _
    (next_is c.word.ensures c.in-Some.is) c.with_fields.ensures.request

pub returns-in_err-next-clause-request : goal.returns-in_err-next-clause-request
unfolding ascii
returns-in_err-next-clause-request c =
    subst (IsRequest _) (sym c.from_residual-in_err-next.ensures)
    (request-neither _ _ _ (line_here _ _ _ _ (read_is c.line.ensures c.in_ok-stop.was)) c.if-next-text.false
    (next_is c.word.ensures c.in_default.is) (next_is c.word-2.ensures c.in_err-next.was))

pub returns-clause-request : goal.returns-clause-request
unfolding ascii
returns-clause-request c =
    request-monitor _ _ _ (line_here _ _ _ _ (read_is c.line.ensures c.in_ok-stop.was)) c.if-next-text.false
    (next_is c.word.ensures c.in_default.is) _ _ (next_is c.word-2.ensures c.in_ok-next.was)
    c.with_fields-2.ensures.request
