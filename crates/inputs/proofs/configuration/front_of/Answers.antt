-- `inputs::configuration::front_of` meets its contract: each field is read where the one before it
-- ends.
use mathlib.Core.Path.{refl}
use mathlib.Core.Option.{bind}
use Rattle.inputs.specs.Configuration.{read_front}
use Rattle.inputs.proofs.configuration.front_of.Goals as goal

pub returns-in_err-suite : goal.returns-in_err-suite
unfolding read_front bind
returns-in_err-suite c = rw (c.from_residual.ensures, ← c.in_err-suite.ensures.result_value) refl

pub returns-in_err-mode : goal.returns-in_err-mode
unfolding read_front bind
returns-in_err-mode c =
    rw (
      c.from_residual-in_err-mode.ensures,
      ← c.in_ok-suite.ensures.result_value,
      ← c.in_err-mode.ensures.result_value,
    ) refl

pub returns-in_err-signature : goal.returns-in_err-signature
unfolding read_front bind
returns-in_err-signature c =
    rw (
      c.from_residual-in_err-signature.ensures,
      ← c.in_ok-suite.ensures.result_value,
      ← c.in_ok-mode.ensures.result_value,
      ← c.in_err-signature.ensures,
    ) refl

pub returns-in_err-vrf : goal.returns-in_err-vrf
unfolding read_front bind
returns-in_err-vrf c =
    rw (
      c.from_residual-in_err-vrf.ensures,
      ← c.in_ok-suite.ensures.result_value,
      ← c.in_ok-mode.ensures.result_value,
      ← c.in_ok-signature.ensures,
      ← c.in_err-vrf.ensures,
    ) refl

pub returns : goal.returns
unfolding read_front bind
returns c =
    rw (
      ← c.in_ok-suite.ensures.result_value,
      ← c.in_ok-mode.ensures.result_value,
      ← c.in_ok-signature.ensures,
      ← c.in_ok-vrf.ensures,
    ) refl
