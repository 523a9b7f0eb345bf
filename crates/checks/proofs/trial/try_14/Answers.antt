-- `checks::trial::try_14` meets its contract: the head says whether the kept values were met.
use borrow.Author.Tests.{not-true, not-false}
use Rattle.checks.proofs.Trial6to14Laws.{head-refused, head_passed}
use Rattle.checks.proofs.trial.try_14.Goals as goal

pub returns-then-not-head : goal.returns-then-not-head
returns-then-not-head c =
    head-refused _ _ _ _ _ _ c.of.ensures c.of-2.ensures _ _
    c.log_head-head.ensures.result_after (not-true _ c.if-not-head.true)

pub returns : goal.returns
returns c =
    head_passed _ _ _ _ _ _ c.of.ensures c.of-2.ensures _ _
    c.log_head-head.ensures.result_after (not-false _ c.if-not-head.false)
