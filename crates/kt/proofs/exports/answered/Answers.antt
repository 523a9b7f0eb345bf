-- `kt::exports::answered` meets its contract: the state is read, the call judged, the new state
-- written.
use Rattle.std.proofs.Common.{◌∙◌, ap, ℕ, ◌+◌, ◌*◌, ◌^◌, length, arith}
use Rattle.checks.specs.Calls.{asked_kind, arguments_of}
use Rattle.kt.proofs.CallExportLaws.{text_short, answer_short, call-over, call-unplaced, call-refused}
use Rattle.kt.proofs.CallExportLaws.{call-answered}
use Rattle.kt.proofs.exports.answered.Goals as goal

-- ---- a refusal

-- the text of the state is too long
pub returns-then-state-gt-TEXT : goal.returns-then-state-gt-TEXT
returns-then-state-gt-TEXT c =
    let a = c.args in
    let given = arguments_of a.response.now a.configuration.now a.identifier.now a.clock a.vrf_outputs.now in
    let it =
    call-over (asked_kind a.asked) a.state.now given a.signed_text.now a.output.now a.new_state.now (omega arith) in
    record { answer = c.number.ensures ∙ it.0; output = it.1.0; state = it.1.1 }

-- there is too little room for the new one
pub returns-then-new_state-lt-TEXT : goal.returns-then-new_state-lt-TEXT
returns-then-new_state-lt-TEXT c =
    let a = c.args in
    let given = arguments_of a.response.now a.configuration.now a.identifier.now a.clock a.vrf_outputs.now in
    let it =
    call-unplaced (asked_kind a.asked) a.state.now given a.signed_text.now a.output.now a.new_state.now
    (omega arith) (omega arith) in
    record { answer = c.number-then-new_state-lt-TEXT.ensures ∙ it.0; output = it.1.0; state = it.1.1 }

-- the call is refused
pub returns-in-Err : goal.returns-in-Err
returns-in-Err c =
    let a = c.args in
    let r = c.judge in
    let given = arguments_of a.response.now a.configuration.now a.identifier.now a.clock a.vrf_outputs.now in
    let it =
    call-refused (asked_kind a.asked) a.state.now given a.signed_text.now a.output.now a.new_state.now
    (omega arith) (omega arith) c.state_in-held.result c.state_in-held.ensures
    r.result r.new.output r.ensures.answer r.ensures.bytes _ c.in-Err.is in
    record { answer = c.number-in-Err.ensures ∙ it.0; output = it.1.0; state = it.1.1 }

-- ---- the lengths in the answer are not too large

pub overflow_mul-result : goal.overflow_mul-result
overflow_mul-result c =
    let a = c.args in
    let given = arguments_of a.response.now a.configuration.now a.identifier.now a.clock a.vrf_outputs.now in
    let value =
    answer_short (asked_kind a.asked) given a.signed_text.now (length a.output.now) c.state_in-held.result
    c.judge.result c.judge.ensures.answer _ c.in-Ok.is in
    omega (arith, value, c.length_found-value.ensures)

pub overflow_mul-result-in-Ok : goal.overflow_mul-result-in-Ok
overflow_mul-result-in-Ok c =
    let w = c.write_state-text in
    let text = text_short c.in-Ok.accepted.state c.args.new_state.now w.result w.ensures.answer in
    omega (arith, text)

pub overflow_add-result : goal.overflow_add-result
overflow_add-result c =
    let a = c.args in
    let w = c.write_state-text in
    let given = arguments_of a.response.now a.configuration.now a.identifier.now a.clock a.vrf_outputs.now in
    let value =
    answer_short (asked_kind a.asked) given a.signed_text.now (length a.output.now) c.state_in-held.result
    c.judge.result c.judge.ensures.answer _ c.in-Ok.is in
    let text = text_short c.in-Ok.accepted.state a.new_state.now w.result w.ensures.answer in
    omega (arith, value, text, c.length_found-value.ensures)

-- ---- the call is accepted

pub returns-in-Ok : goal.returns-in-Ok
returns-in-Ok c =
    let a = c.args in
    let r = c.judge in
    let w = c.write_state-text in
    let given = arguments_of a.response.now a.configuration.now a.identifier.now a.clock a.vrf_outputs.now in
    let it =
    call-answered (asked_kind a.asked) a.state.now given a.signed_text.now a.output.now a.new_state.now
    (omega arith) (omega arith) c.state_in-held.result c.state_in-held.ensures
    r.result r.new.output r.ensures.answer r.ensures.bytes _ c.in-Ok.is
    w.result w.new.lent w.ensures.answer w.ensures.bytes in
    let n = ap (λ (k : ℕ). k * 2 ^ 8 + w.result * 2 ^ 32) c.length_found-value.ensures in
    record { answer = n ∙ it.0; output = it.1.0; state = it.1.1 }
