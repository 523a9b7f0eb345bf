-- `inputs::state_reader::pair_line` meets its contract: the word, the position and the version are
-- read one after the other, and nothing may follow.
use mathlib.Core.Path.{sym}
use native.Mathlib.Omega.{arith}
use borrow.Author.Rules.{rules}
use Rattle.lines.specs.Number.{ascii}
use Rattle.rules.specs.Limits.{version_bound}
use Rattle.inputs.proofs.StateLineLaws.{number_within, pair-no-word, pair-no-position, pair-no-version}
use Rattle.inputs.proofs.StateLineLaws.{pair-more, pair_read}
use Rattle.inputs.proofs.state_reader.pair_line.Goals as goal

pub returns-in_err-at_position : goal.returns-in_err-at_position
unfolding ascii
returns-in_err-at_position c = rw c.from_residual.ensures (sym (pair-no-word _ (sym c.in_err-at_position.ensures)))

pub returns-in_err-position : goal.returns-in_err-position
unfolding ascii
returns-in_err-position c =
    rw c.from_residual-in_err-position.ensures (sym (pair-no-position _ _ (sym c.in_ok-at_position.ensures) (sym c.in_err-position.ensures)))

pub returns-in_err-version : goal.returns-in_err-version
unfolding ascii
returns-in_err-version c =
    let e = sym c.in_ok-at_position.ensures in
    rw c.from_residual-in_err-version.ensures (sym (pair-no-version _ _ e _ _ (sym c.in_ok-position.ensures) (sym c.in_err-version.ensures)))

pub returns-then-next-l : goal.returns-then-next-l
unfolding ascii
returns-then-next-l c =
    sym (pair-more _ _ (sym c.in_ok-at_position.ensures) _ _ (sym c.in_ok-position.ensures) _ _ (sym c.in_ok-version.ensures) (omega arith))

pub overflow_cast-result : goal.overflow_cast-result
overflow_cast-result c =
    let b = number_within version_bound _ _ _ _ (sym c.in_ok-version.ensures) in
    search rules

pub returns : goal.returns
unfolding ascii
returns c = sym (pair_read _ _ (sym c.in_ok-at_position.ensures) _ _ (sym c.in_ok-position.ensures) _ _ (sym c.in_ok-version.ensures) (omega arith))
