-- `checks::sections::next_step` meets its contract: the version is read after the word of the line,
-- and the line's length tells whether a commitment follows.
use mathlib.Core.Path.{sym}
use native.Mathlib.Omega.{arith}
use Rattle.lines.proofs.SectionLaws.{line_here}
use Rattle.rules.specs.Limits.{version_bound}
use Rattle.inputs.proofs.StateLineLaws.{number_within}
use Rattle.checks.proofs.LineStepLaws.{step-next, step-number, no_step}
use borrow.Author.Rules.{rules}
use Rattle.checks.proofs.sections.next_step.Goals as goal

pub returns-in_err-stop : goal.returns-in_err-stop
returns-in_err-stop c = rw c.from_residual.ensures (no_step _ _ c.requires.lines (sym c.in_err-stop.ensures))

pub slice_bounds-line-count : goal.slice_bounds-line-count
slice_bounds-line-count c = let h = line_here _ _ _ _ (sym c.in_ok-stop.ensures) in omega arith

pub slice_bounds-line-start : goal.slice_bounds-line-start
slice_bounds-line-start c = let h = line_here _ _ _ _ (sym c.in_ok-stop.ensures) in omega arith

pub slice_bounds-line-end : goal.slice_bounds-line-end
slice_bounds-line-end c = let h = line_here _ _ _ _ (sym c.in_ok-stop.ensures) in omega arith

pub returns-in_err-value : goal.returns-in_err-value
returns-in_err-value c =
    absurd (step-number _ _ c.requires.lines _ _ (sym c.in_ok-stop.ensures) (sym c.in_err-value.ensures))

pub overflow_cast-result : goal.overflow_cast-result
overflow_cast-result c = let b = number_within version_bound _ _ _ _ (sym c.in_ok-value.ensures) in search rules

pub overflow_add-committed : goal.overflow_add-committed
overflow_add-committed c =
    let h = step-next _ _ c.requires.lines _ _ (sym c.in_ok-stop.ensures) _ _ (sym c.in_ok-value.ensures) in
    omega (arith, h.1)

pub overflow_add-at : goal.overflow_add-at
overflow_add-at c =
    let h = step-next _ _ c.requires.lines _ _ (sym c.in_ok-stop.ensures) _ _ (sym c.in_ok-value.ensures) in
    omega (arith, h.1)

pub returns : goal.returns
returns c =
    rw c.then_some.ensures
    (step-next _ _ c.requires.lines _ _ (sym c.in_ok-stop.ensures) _ _ (sym c.in_ok-value.ensures)).0
