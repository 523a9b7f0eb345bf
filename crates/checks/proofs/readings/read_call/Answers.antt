-- `checks::readings::read_call` meets its contract: what a call is given is read in the order of
-- the refusals.
use mathlib.Core.Path.{◌≡◌, sym, ◌∙◌, ap, subst}
use borrow.Author.Rules.{rules}
use Rattle.std.specs.Prelude.{Err}
use Rattle.inputs.specs.Configuration.{configuration_in, configuration_of}
use Rattle.inputs.specs.Response.{parts_of, Offsets}
use Rattle.checks.proofs.ReadingsLaws.{ok_given, err_given, inputs_long, inputs-unconfigured, inputs-invalid}
use Rattle.checks.proofs.ReadingsLaws.{inputs-outputless, inputs-broken, inputs_read}
use Rattle.checks.proofs.readings.read_call.Goals as goal

pub returns-then-not-lengths_fit : goal.returns-then-not-lengths_fit
returns-then-not-lengths_fit c = inputs_long _ _ _ _ _ _ _ _ _ _ (sym c.if-not-lengths_fit.true ∙ c.lengths_fit.ensures)

pub returns-in_err-settings : goal.returns-in_err-settings
returns-in_err-settings c =
    let e : c.from_residual.result ≡ Err c.in_err-settings.field-0.0 = search rules in
    let (none, is) = err_given _ _ _ (sym c.ok_or.ensures.value ∙ c.in_err-settings.was) in
    rw (e, is)
    (inputs-unconfigured _ _ _ _ _ _ _ _ _ _ (sym c.if-not-lengths_fit.false ∙ c.lengths_fit.ensures)
    (sym c.read_configuration.ensures ∙ ap (configuration_of _) none))

pub returns-then-not-valid : goal.returns-then-not-valid
returns-then-not-valid c =
    let read = ok_given _ _ _ (sym c.ok_or.ensures.value ∙ c.in_ok-settings.was) in
    inputs-invalid _ _ _ _ _ _ _ _ _ _ (sym c.if-not-lengths_fit.false ∙ c.lengths_fit.ensures) _
    (sym c.read_configuration.ensures ∙ ap (configuration_of _) read) c.if-not-valid.true

pub returns-then-not-outputs_rise : goal.returns-then-not-outputs_rise
returns-then-not-outputs_rise c =
    let read = ok_given _ _ _ (sym c.ok_or.ensures.value ∙ c.in_ok-settings.was) in
    inputs-outputless _ _ _ _ _ _ _ _ _ _ (sym c.if-not-lengths_fit.false ∙ c.lengths_fit.ensures) _
    (sym c.read_configuration.ensures ∙ ap (configuration_of _) read) c.if-not-valid.false
    (sym c.if-not-outputs_rise.true ∙ c.outputs_rise.ensures)

pub returns-in_err-response : goal.returns-in_err-response
returns-in_err-response c =
    let e : c.from_residual-in_err-response.result ≡ Err c.in_err-response.field-0.0 = search rules in
    let read = ok_given _ _ _ (sym c.ok_or.ensures.value ∙ c.in_ok-settings.was) in
    let (none, is) = err_given _ _ _ (sym c.ok_or-2.ensures.value ∙ c.in_err-response.was) in
    rw (e, is)
    (inputs-broken _ _ _ _ _ _ _ _ _ _ (sym c.if-not-lengths_fit.false ∙ c.lengths_fit.ensures) _
    (sym c.read_configuration.ensures ∙ ap (configuration_of _) read) c.if-not-valid.false
    (sym c.if-not-outputs_rise.false ∙ c.outputs_rise.ensures)
    (sym c.read_response.ensures.parts ∙ ap (parts_of _) none))

pub returns : goal.returns
unfolding configuration_in
returns c =
    let e = c.read_response.ensures in
    let read = ok_given _ _ _ (sym c.ok_or.ensures.value ∙ c.in_ok-settings.was) in
    let some = ok_given _ _ _ (sym c.ok_or-2.ensures.value ∙ c.in_ok-response.was) in
    inputs_read _ _ _ _ _ _ _ _ _ _ (sym c.if-not-lengths_fit.false ∙ c.lengths_fit.ensures) _
    (sym c.read_configuration.ensures ∙ ap (configuration_of _) read) c.if-not-valid.false
    (sym c.if-not-outputs_rise.false ∙ c.outputs_rise.ensures) c.requires _
    (subst (Offsets _) some e.offsets) (sym e.parts ∙ ap (parts_of _) some)
