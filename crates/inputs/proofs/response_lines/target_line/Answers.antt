-- `inputs::response_lines::target_line` meets its contract: the word and the version are read, then
-- the two parts.
use mathlib.Core.Path.{refl, sym, ◌∙◌}
use mathlib.Core.List.{[], ◌∷◌}
use mathlib.Core.Option.{bind}
use native.Mathlib.Omega.{arith}
use Rattle.lines.specs.Number.{ascii}
use Rattle.lines.specs.Field.{exactly, up_to}
use Rattle.rules.specs.Limits.{version_bound, opening_length, value_limit}
use Rattle.inputs.proofs.ResponseLineLaws.{number-off, number-below, target-parts}
use Rattle.inputs.proofs.response_lines.target_line.Goals as goal

pub returns-in_err-version-clause-read : goal.returns-in_err-version-clause-read
unfolding ascii
returns-in_err-version-clause-read c =
    rw c.from_residual.ensures
    (sym (number-off _ _ _ (exactly opening_length ∷ up_to value_limit ∷ []) (sym c.in_err-version.ensures)))

pub returns-in_err-opening-clause-read : goal.returns-in_err-opening-clause-read
unfolding bind ascii
returns-in_err-opening-clause-read c =
    let e = sym c.in_ok-version.ensures in
    rw c.from_residual-in_err-opening.ensures (sym (target-parts _ _ _ e _ c.last_parts.ensures.read ∙ rw c.in_err-opening.was refl))

pub overflow_cast-result : goal.overflow_cast-result
unfolding ascii
overflow_cast-result c =
    let h = number-below _ _ version_bound _ _ (sym c.in_ok-version.ensures) in omega arith

pub returns-clause-read : goal.returns-clause-read
unfolding bind ascii
returns-clause-read c =
    let e = sym c.in_ok-version.ensures in
    sym (target-parts _ _ _ e _ c.last_parts.ensures.read ∙ rw c.in_ok-opening.was refl)
