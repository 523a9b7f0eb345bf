-- `inputs::configuration::opaque_at` meets its contract: the bytes that the length counts follow
-- it, or there is no byte string.
use mathlib.Core.Path.{refl, sym}
use mathlib.Core.Option.{bind}
use native.Mathlib.Omega.{arith}
use Rattle.rules.specs.Encoding.{read_opaque}
use Rattle.inputs.specs.Configuration.{uint16}
use Rattle.inputs.proofs.ConfigurationReadingLaws.{no-opaque, opaque-there}
use Rattle.inputs.proofs.configuration.opaque_at.Goals as goal

pub returns-in_err-length : goal.returns-in_err-length
unfolding read_opaque bind
returns-in_err-length c = rw (c.from_residual.ensures, ← c.in_err-length.ensures.result_value) refl

pub returns-then-s-start : goal.returns-then-s-start
returns-then-s-start c =
    let a = c.args in
    sym (no-opaque uint16 a.s.now a.at _ _ (sym c.in_ok-length.ensures.result_value) (omega arith))

pub returns : goal.returns
returns c =
    let a = c.args in
    sym (opaque-there uint16 a.s.now a.at _ _ (sym c.in_ok-length.ensures.result_value) _ refl refl
    (omega (arith, c.in_ok-length.ensures.within)))
