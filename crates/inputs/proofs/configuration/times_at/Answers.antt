-- `inputs::configuration::times_at` meets its contract: each field is read where the one before it
-- ends.
use mathlib.Core.Path.{refl}
use mathlib.Core.Option.{bind}
use Rattle.inputs.specs.Configuration.{read_times}
use Rattle.inputs.proofs.configuration.times_at.Goals as goal

pub returns-in_err-ahead : goal.returns-in_err-ahead
unfolding read_times bind
returns-in_err-ahead c = rw (c.from_residual.ensures, ← c.in_err-ahead.ensures.result_value) refl

pub returns-in_err-behind : goal.returns-in_err-behind
unfolding read_times bind
returns-in_err-behind c =
    rw (
      c.from_residual-in_err-behind.ensures,
      ← c.in_ok-ahead.ensures.result_value,
      ← c.in_err-behind.ensures.result_value,
    ) refl

pub returns-in_err-window : goal.returns-in_err-window
unfolding read_times bind
returns-in_err-window c =
    rw (
      c.from_residual-in_err-window.ensures,
      ← c.in_ok-ahead.ensures.result_value,
      ← c.in_ok-behind.ensures.result_value,
      ← c.in_err-window.ensures.result_value,
    ) refl

pub returns-in_err-lifetime : goal.returns-in_err-lifetime
unfolding read_times bind
returns-in_err-lifetime c =
    rw (
      c.from_residual-in_err-lifetime.ensures,
      ← c.in_ok-ahead.ensures.result_value,
      ← c.in_ok-behind.ensures.result_value,
      ← c.in_ok-window.ensures.result_value,
      ← c.in_err-lifetime.ensures,
    ) refl

pub returns : goal.returns
unfolding read_times bind
returns c =
    rw (
      ← c.in_ok-ahead.ensures.result_value,
      ← c.in_ok-behind.ensures.result_value,
      ← c.in_ok-window.ensures.result_value,
      ← c.in_ok-lifetime.ensures,
    ) refl
