-- `checks::trial::try_1_to_14` meets its contract: what is given is read, then 6 to 13 are tried, then
-- 14.
use mathlib.Core.Path.{◌≡◌}
use mathlib.Core.List.{[]}
use borrow.Author.Rules.{rules}
use Rattle.std.specs.Prelude.{Err}
use Rattle.checks.proofs.ReadingsLaws.{log_kept}
use Rattle.checks.proofs.StateStructLaws.{struct_checkable}
use Rattle.checks.proofs.ReadCallLaws.{reading-refused, state-refused, walk-refused, walk-passed}
use Rattle.checks.proofs.trial.try_1_to_14.Goals as goal

pub returns-in_err-call : goal.returns-in_err-call
returns-in_err-call c =
    let a = c.args in
    let e : c.from_residual.result ≡ Err c.in_err-call.field-0.0 = search rules in
    rw e
    (reading-refused a.asked a.response.now a.configuration.now a.state.now a.identifier.now a.clock a.outputs.now
    a.signed.now [] _ (c.in_err-call.ensures _ c.is_valid.ensures (log_kept _)))

pub try_6_to_13-requires : goal.try_6_to_13-requires
try_6_to_13-requires c =
    let s = c.args.state.now in
    struct_checkable s c.requires _ _ _ _ (c.in_ok-call.ensures _ c.is_valid.ensures (log_kept _)).0

pub returns-in_err-tried : goal.returns-in_err-tried
returns-in_err-tried c =
    let a = c.args in
    let s = a.state.now in
    let e : c.from_residual-in_err-tried.result ≡ Err c.in_err-tried.field-0.0 = search rules in
    rw e
    (state-refused a.asked a.response.now a.configuration.now s a.identifier.now a.clock a.outputs.now
    a.signed.now [] _ (c.in_ok-call.ensures _ c.is_valid.ensures (log_kept _)) (struct_checkable s c.requires _ _ _ _ (c.in_ok-call.ensures _ c.is_valid.ensures (log_kept _)).0) _ c.in_err-tried.ensures)

pub returns-in_err-checked : goal.returns-in_err-checked
returns-in_err-checked c =
    let a = c.args in
    let s = a.state.now in
    let e : c.from_residual-in_err-checked.result ≡ Err c.in_err-checked.field-0.0 = search rules in
    rw e
    (walk-refused a.asked a.response.now a.configuration.now s a.identifier.now a.clock a.outputs.now
    a.signed.now c.try_14.new.values _ (c.in_ok-call.ensures _ c.is_valid.ensures (log_kept _)) (struct_checkable s c.requires _ _ _ _ (c.in_ok-call.ensures _ c.is_valid.ensures (log_kept _)).0) _ c.in_ok-tried.ensures _ c.in_err-checked.ensures)

pub returns : goal.returns
returns c =
    let a = c.args in
    let s = a.state.now in
    walk-passed a.asked a.response.now a.configuration.now s a.identifier.now a.clock a.outputs.now
    a.signed.now _ _ (c.in_ok-call.ensures _ c.is_valid.ensures (log_kept _)) (struct_checkable s c.requires _ _ _ _ (c.in_ok-call.ensures _ c.is_valid.ensures (log_kept _)).0) _ c.in_ok-tried.ensures _ c.in_ok-checked.ensures
