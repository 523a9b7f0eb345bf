-- `inputs::configuration::read_configuration` meets its contract: both groups of fields are read,
-- nothing follows them, and suite and mode are those that are taken.
use mathlib.Core.Path.{sym, ◌∙◌, ap}
use native.Mathlib.Omega.{arith}
use Rattle.inputs.specs.Configuration.{configuration_in, configuration_of}
use Rattle.inputs.proofs.ConfigurationReadingLaws.{no_front, no-times, more-after, other-suite}
use Rattle.inputs.proofs.ConfigurationReadingLaws.{other-mode, configuration-there}
use Rattle.inputs.proofs.configuration.read_configuration.Goals as goal

pub returns-in_err-front : goal.returns-in_err-front
returns-in_err-front c =
    let s = c.args.s.now in
    ap (configuration_of s) c.from_residual.ensures ∙ sym (no_front s (sym c.in_err-front.ensures))

pub returns-in_err-times : goal.returns-in_err-times
returns-in_err-times c =
    let s = c.args.s.now in
    ap (configuration_of s) c.from_residual-in_err-times.ensures
    ∙ sym (no-times s _ _ _ _ _ (sym c.in_ok-front.ensures) (sym c.in_err-times.ensures))

pub returns-then-times-s : goal.returns-then-times-s
returns-then-times-s c =
    sym (more-after c.args.s.now _ _ _ _ _ (sym c.in_ok-front.ensures) _ _ _ _ _ (sym c.in_ok-times.ensures)
    (omega arith))

pub returns-then-front-ne-P256_SUITE : goal.returns-then-front-ne-P256_SUITE
returns-then-front-ne-P256_SUITE c =
    sym (other-suite c.args.s.now _ _ _ _ _ (sym c.in_ok-front.ensures) _ _ _ _ _ (sym c.in_ok-times.ensures)
    (omega arith) c.if-front-ne-P256_SUITE.true)

pub returns-then-front-ne-CONTACT_MONITORING : goal.returns-then-front-ne-CONTACT_MONITORING
returns-then-front-ne-CONTACT_MONITORING c =
    sym (other-mode c.args.s.now _ _ _ _ _ (sym c.in_ok-front.ensures) _ _ _ _ _ (sym c.in_ok-times.ensures)
    (omega arith) c.if-front-ne-P256_SUITE.false c.if-front-ne-CONTACT_MONITORING.true)

pub returns : goal.returns
unfolding configuration_in
returns c =
    sym (configuration-there c.args.s.now _ _ _ _ _ (sym c.in_ok-front.ensures) _ _ _ _ _ (sym c.in_ok-times.ensures)
    (omega arith) c.if-front-ne-P256_SUITE.false c.if-front-ne-CONTACT_MONITORING.false)
