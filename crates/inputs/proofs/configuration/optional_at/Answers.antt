-- `inputs::configuration::optional_at` meets its contract: a byte says whether a number follows it.
use mathlib.Core.Path.{refl, sym}
use mathlib.Core.Option.{bind}
use Rattle.rules.specs.Configuration.{read_optional, read_present}
use Rattle.inputs.proofs.ConfigurationReadingLaws.{no-present}
use Rattle.inputs.proofs.configuration.optional_at.Goals as goal

pub returns-in_err-present : goal.returns-in_err-present
unfolding read_optional bind
returns-in_err-present c = rw (c.from_residual.ensures, ← c.in_err-present.ensures.result_value) refl

pub returns-then-present-eq-ABSENT : goal.returns-then-present-eq-ABSENT
unfolding read_optional read_present bind
returns-then-present-eq-ABSENT c = rw (← c.in_ok-present.ensures.result_value, c.if-present-eq-ABSENT.true) refl

pub returns-then-present-ne-PRESENT : goal.returns-then-present-ne-PRESENT
unfolding read_optional bind
returns-then-present-ne-PRESENT c =
    rw (← c.in_ok-present.ensures.result_value)
    (sym (no-present _ _ c.if-present-eq-ABSENT.false c.if-present-ne-PRESENT.true))

pub returns-in_err-value : goal.returns-in_err-value
unfolding read_optional read_present bind
returns-in_err-value c =
    rw (
      c.from_residual-in_err-value.ensures,
      ← c.in_ok-present.ensures.result_value,
      c.if-present-ne-PRESENT.false,
      ← c.in_err-value.ensures.result_value,
    ) refl

pub returns : goal.returns
unfolding read_optional read_present bind
returns c =
    rw (
      ← c.in_ok-present.ensures.result_value,
      c.if-present-ne-PRESENT.false,
      ← c.in_ok-value.ensures.result_value,
    ) refl
