-- `checks::call::answered` meets its contract: 1 to 14 are tried, then 15 and 16.
use mathlib.Core.Path.{◌≡◌}
use mathlib.Core.List.{[]}
use borrow.Author.Rules.{rules}
use Rattle.std.specs.Prelude.{Err}
use Rattle.checks.proofs.ReadCallLaws.{checks-refused, head-refused, accept-told}
use Rattle.checks.proofs.call.answered.Goals as goal

pub returns-in_err-passed : goal.returns-in_err-passed
returns-in_err-passed c =
    let a = c.args in
    let e : c.from_residual.result ≡ Err c.in_err-passed.field-0.0 = search rules in
    let it =
    checks-refused a.asked a.response.now a.configuration.now a.state.now a.identifier.now a.clock a.outputs.now
    a.signed.now [] a.output.now _ c.in_err-passed.ensures in
    rw e (record { answer = it.0; bytes = it.1 })

pub returns-then-not-is_tree_head : goal.returns-then-not-is_tree_head
returns-then-not-is_tree_head c =
    let a = c.args in
    let it =
    head-refused a.asked a.response.now a.configuration.now a.state.now a.identifier.now a.clock a.outputs.now
    a.signed.now _ a.output.now _ c.in_ok-passed.ensures _ c.is_tree_head.ensures c.if-not-is_tree_head.true in
    record { answer = it.0; bytes = it.1 }

pub accepted-requires : goal.accepted-requires
accepted-requires c = record { sized = c.requires; valid = c.in_ok-passed.ensures.0.valid }

pub returns : goal.returns
returns c =
    let a = c.args in
    let it =
    accept-told a.asked a.response.now a.configuration.now a.state.now a.identifier.now a.clock a.outputs.now
    a.signed.now _ a.output.now _ c.in_ok-passed.ensures _ c.is_tree_head.ensures _ _ c.if-not-is_tree_head.false
    c.accepted.ensures.answer c.accepted.ensures.bytes in
    record { answer = it.0; bytes = it.1 }
