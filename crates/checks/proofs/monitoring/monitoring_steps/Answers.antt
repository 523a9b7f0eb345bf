-- `checks::monitoring::monitoring_steps` meets its contract: the steps read so far are the versions
-- looked up below one, and their commitments are placed.
use native.Mathlib.Omega.{arith}
use borrow.Author.Rules.{rules}
use Rattle.checks.proofs.MonitoringStepLaws.{stepping_start}
use Rattle.checks.proofs.MonitoringStepLaws.{stepping-end, stepping-other, stepping-next}
use Rattle.checks.proofs.monitoring.monitoring_steps.Goals as goal

pub loop-at-init : goal.loop-at-init
loop-at-init c = (omega arith, stepping_start _ _ _ _ _ c.requires.marks (search rules) c.requires.lines)

pub returns-then-wanted : goal.returns-then-wanted
returns-then-wanted c =
    rw c.then_some.ensures
    (stepping-end c.requires.marks c.loop-at.invariant.1 c.smallest_of-wanted.ensures c.if-wanted.true
    c.loop-at.invariant.0)

pub returns-in_err-output : goal.returns-in_err-output
returns-in_err-output c =
    rw c.from_residual.ensures
    (stepping-other c.requires.marks c.loop-at.invariant.1 c.smallest_of-wanted.ensures c.if-wanted.false
    c.wanted_step.new.offsets
    c.in_err-output.ensures)

pub loop-at-preserved : goal.loop-at-preserved
loop-at-preserved c =
    let k = c.in_ok-output.ensures in (
      rw (← k.4) k.1.7,
      stepping-next c.requires.marks c.loop-at.invariant.1 c.smallest_of-wanted.ensures c.if-wanted.false
          c.wanted_step.new.offsets c.requires.outputs k (search rules) c.step_on.ensures,
    )
