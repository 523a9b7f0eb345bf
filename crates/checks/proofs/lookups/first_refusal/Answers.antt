-- `checks::lookups::first_refusal` meets its contract: 12 is tried before 13.
use mathlib.Core.Path.{◌≡◌, refl, ◌∙◌}
use mathlib.Core.Bool.{true, false}
use Rattle.checks.specs.Lookups.{judged_by}
use Rattle.checks.proofs.JudgedCallLaws.{judged_shown}
use Rattle.checks.proofs.lookups.first_refusal.Goals as goal

pub returns-then-not-reached : goal.returns-then-not-reached
unfolding judged_by
returns-then-not-reached c = let r : c.args.reached ≡ false = c.if-not-reached.true in rw r refl

pub returns : goal.returns
returns c =
    let r : c.args.reached ≡ true = c.if-not-reached.false in
    c.ok_or.ensures.value ∙ judged_shown c.args.reached c.args.shown r
