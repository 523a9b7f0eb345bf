-- `verifier::files::judged` meets its contract: the call asked for is judged with the request's own
-- identifier, the line and the new state's text are written.
use native.Mathlib.Omega.{arith}
use Rattle.rules.specs.Program.{requested}
use Rattle.checks.specs.Calls.{arguments_of}
use Rattle.verifier.specs.Request.{request_in}
use Rattle.verifier.proofs.FilesLaws.{call-refused, call-accepted}
use Rattle.verifier.proofs.files.judged.Goals as goal

pub returns-in-Err : goal.returns-in-Err
unfolding arguments_of requested request_in
returns-in-Err c =
    let r = c.judge.ensures in
    call-refused _ _ _ _ _ (omega arith) _ _ r.answer r.bytes _ c.in-Err.is _ _ _ _ c.refused.ensures

pub returns-in-Ok : goal.returns-in-Ok
unfolding arguments_of requested request_in
returns-in-Ok c =
    let w = c.write_state.ensures in
    let r = c.judge.ensures in
    rw c.length_found.ensures
    (call-accepted _ _ _ _ _ (omega arith) _ _ r.answer r.bytes _ c.in-Ok.is _ _ _ _ _ _
    c.put_accepted.ensures (omega arith) w.answer w.bytes)
