-- `checks::search::search_steps` meets its contract: the steps read so far are as asked, and their
-- commitments are placed.
use native.Mathlib.Omega.{arith}
use borrow.Author.Rules.{rules}
use Rattle.checks.proofs.SearchStepLaws.{ladder_start, ladder-other, ladder-next, ladder-end}
use Rattle.checks.proofs.search.search_steps.Goals as goal

pub loop-v-init : goal.loop-v-init
loop-v-init c = (omega arith, ladder_start _ _ _ _ _ c.requires.ladder (search rules) c.requires.lines)

pub returns-in_err-output : goal.returns-in_err-output
returns-in_err-output c =
    rw c.from_residual.ensures
    (ladder-other _ c.args.wanted.now c.loop-v.v-index c.loop-v.invariant.1 (omega arith) c.wanted_step.new.offsets
    c.in_err-output.ensures)

pub loop-v-preserved : goal.loop-v-preserved
loop-v-preserved c =
    let k = c.in_ok-output.ensures in (
      rw (← k.4) k.1.7,
      ladder-next _ c.args.wanted.now c.loop-v.v-index c.loop-v.invariant.1 (omega arith) c.wanted_step.new.offsets
          c.requires.outputs k (search rules),
    )

pub returns : goal.returns
returns c =
    rw c.then_some.ensures
    (ladder-end _ c.args.wanted.now c.loop-v.v-index c.loop-v.invariant.1 (omega arith) c.loop-v.invariant.0)
