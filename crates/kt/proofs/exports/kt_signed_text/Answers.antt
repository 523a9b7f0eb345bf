-- `kt::exports::kt_signed_text` meets its contract: the state is read, and the signed text placed.
use Rattle.std.proofs.Common.{◌∙◌, sym, ap, arith}
use Rattle.checks.specs.Calls.{asked_kind, arguments_of, length_in}
use Rattle.kt.proofs.SignedTextExportLaws.{signed-text-over, signed-text-answered}
use Rattle.kt.proofs.exports.kt_signed_text.Goals as goal

pub returns-then-state-gt-TEXT : goal.returns-then-state-gt-TEXT
returns-then-state-gt-TEXT c =
    let a = c.args in
    let given = arguments_of a.response.now a.configuration.now a.identifier.now a.clock a.vrf_outputs.now in
    let it = signed-text-over a.kind a.state.now given a.buffer.now a.offset (omega arith) in
    record { answer = c.number.ensures ∙ it.0; bytes = it.1 }

pub returns-in-Ok : goal.returns-in-Ok
unfolding length_in
returns-in-Ok c =
    let a = c.args in
    let t = c.signed_text in
    let given = arguments_of a.response.now a.configuration.now a.identifier.now a.clock a.vrf_outputs.now in
    let it =
    signed-text-answered a.kind a.state.now given a.buffer.now a.offset (omega arith)
    c.state_in-held.result c.state_in-held.ensures (asked_kind c.kind_numbered.result)
    c.kind_numbered.ensures _ t.new.buffer
    (ap length_in (sym c.in-Ok.is) ∙ t.ensures.answer, t.ensures.bytes) in
    record { answer = it.0; bytes = it.1 }

pub returns-in-Err : goal.returns-in-Err
unfolding length_in
returns-in-Err c =
    let a = c.args in
    let t = c.signed_text in
    let given = arguments_of a.response.now a.configuration.now a.identifier.now a.clock a.vrf_outputs.now in
    let it =
    signed-text-answered a.kind a.state.now given a.buffer.now a.offset (omega arith)
    c.state_in-held.result c.state_in-held.ensures (asked_kind c.kind_numbered.result)
    c.kind_numbered.ensures _ t.new.buffer
    (c.number-in-Err.ensures ∙ ap length_in (sym c.in-Err.is) ∙ t.ensures.answer, t.ensures.bytes) in
    record { answer = it.0; bytes = it.1 }
