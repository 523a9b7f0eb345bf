-- `checks::trial::try_9_to_13` meets its contract: 9 to 11 are tried, 12 and 13 on what they let
-- pass.
use mathlib.Core.Path.{◌≡◌}
use borrow.Author.Rules.{rules}
use Rattle.std.specs.Prelude.{Err}
use Rattle.checks.proofs.Trial6to14Laws.{tried-refused, judged-refused, judged-passed}
use Rattle.checks.proofs.trial.try_9_to_13.Goals as goal

pub returns-in_err-timestamp : goal.returns-in_err-timestamp
returns-in_err-timestamp c =
    let e : c.from_residual.result ≡ Err c.in_err-timestamp.field-0.0 = search rules in
    rw e (tried-refused _ _ _ _ _ _ _ (λ x i m. (c.in_err-timestamp.ensures x i m).0))

pub returns-in_err-position : goal.returns-in_err-position
returns-in_err-position c =
    let e : c.from_residual-in_err-position.result ≡ Err c.in_err-position.field-0.0 = search rules in
    rw e (judged-refused _ _ _ _ _ _ _ _ c.in_ok-timestamp.ensures _ c.in_err-position.ensures)

pub returns : goal.returns
returns c =
    judged-passed _ _ _ _ _ _ _ _ c.in_ok-timestamp.ensures _ c.in_ok-position.ensures
