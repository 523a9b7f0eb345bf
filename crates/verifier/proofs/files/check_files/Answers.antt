-- `verifier::files::check_files` meets its contract: files that were not read or are too long are
-- refused, and else the call that the request asks for is made.
use mathlib.Core.Path.{sym, ◌∙◌}
use Rattle.verifier.proofs.FilesLaws.{unread-refused, over-refused, refusal-told, request_within}
use Rattle.verifier.proofs.FilesLaws.{call-told}
use Rattle.verifier.proofs.files.check_files.Goals as goal

pub returns-then-unread : goal.returns-then-unread
returns-then-unread c =
    let a = c.args in
    let it =
    refusal-told a.unread _ _ _ _ _ _ (unread-refused a.unread _ _ _ _ _ _ c.if-unread.true)
    _ _ _ _ _ c.refused.ensures in
    record { outcome = it.0; line = it.1.0; value = it.1.1.0; text = it.1.1.1 }

pub returns-then-not-files_fit : goal.returns-then-not-files_fit
returns-then-not-files_fit c =
    let a = c.args in
    let it = refusal-told a.unread _ _ _ _ _ _
    (over-refused a.unread _ _ _ _ _ _ c.if-unread.false (sym c.files_fit.ensures ∙ c.if-not-files_fit.true))
    _ _ _ _ _ c.refused-then-not-files_fit.ensures in
    record { outcome = it.0; line = it.1.0; value = it.1.1.0; text = it.1.1.1 }

pub read_request-asked-requires : goal.read_request-asked-requires
read_request-asked-requires c =
    let a = c.args in
    request_within a.request.now a.response.now a.configuration.now a.state.now a.outputs.now a.signed.now
    (sym c.files_fit.ensures ∙ c.if-not-files_fit.false)

pub returns : goal.returns
returns c =
    let a = c.args in
    let it =
    call-told a.unread a.request.now a.response.now a.configuration.now a.state.now a.outputs.now a.signed.now
    c.if-unread.false (sym c.files_fit.ensures ∙ c.if-not-files_fit.false) _ c.read_request-asked.ensures.request
    _ c.state_in-held.ensures _ _ _ _ _ _ _ c.judged.ensures in
    record { outcome = it.0; line = it.1.0; value = it.1.1.0; text = it.1.1.1 }
