-- `inputs::state_writer::write_state` meets its contract: each refusal leaves the bytes, and a
-- valid state's text is put from byte 0 on.
use mathlib.Core.Path.{◌≡◌, sym, ◌∙◌}
use mathlib.Core.Bool.{true}
use native.Mathlib.Omega.{arith}
use Rattle.lists.specs.Choice.{is_some}
use Rattle.rules.specs.Refusals.{valid_state}
use Rattle.rules.specs.StateText.{write_state}
use Rattle.inputs.specs.State.{contents, state_of}
use Rattle.inputs.specs.StateWriter.{text_for}
use Rattle.inputs.proofs.StateWriterLaws.{text_no_room, text_invalid, text_valid, none_written}
use Rattle.inputs.proofs.StateWriterLaws.{first_written}
use Rattle.inputs.proofs.state_writer.write_state.Goals as goal

pub returns-then-lent-lt-TEXT : goal.returns-then-lent-lt-TEXT
returns-then-lent-lt-TEXT c =
    let a = c.args in
    let it = none_written a.lent.now (text_for a.state a.lent.now) (text_no_room a.state a.lent.now (omega arith)) in
    record { answer = it.0; bytes = it.1 }

pub returns-then-not-is_valid : goal.returns-then-not-is_valid
returns-then-not-is_valid c =
    let a = c.args in
    let e = text_invalid a.state a.lent.now (sym c.is_valid.ensures ∙ c.if-not-is_valid.true) in
    let it = none_written a.lent.now (text_for a.state a.lent.now) e in
    record { answer = it.0; bytes = it.1 }

pub returns : goal.returns
returns c =
    let a = c.args in
    let valid : is_some (valid_state (state_of a.state)) ≡ true = sym c.is_valid.ensures ∙ c.if-not-is_valid.false in
    let e = text_valid a.state a.lent.now valid (omega arith) in
    let it = first_written (text_for a.state a.lent.now) (write_state (contents a.state)) e c.put_state.ensures in
    record { answer = it.0; bytes = it.1 }
