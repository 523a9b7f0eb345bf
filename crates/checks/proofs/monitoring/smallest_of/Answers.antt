-- `checks::monitoring::smallest_of` meets its contract: the smallest is the smaller of `least` and of
-- the smallest of those left.
use mathlib.Core.Path.{sym, ◌∙◌}
use native.Mathlib.Omega.{arith}
use Rattle.checks.proofs.NextVersionLaws.{smallest_start, smallest_next, smallest_end}
use Rattle.checks.proofs.monitoring.smallest_of.Goals as goal

pub loop-version-init : goal.loop-version-init
loop-version-init c = (omega arith, smallest_start c.args.versions.now)

pub loop-version-preserved : goal.loop-version-preserved
loop-version-preserved c =
    let l = c.loop-version in (
      omega (arith, l.invariant.0, c.min-least.ensures),
      rw c.min-least.ensures
          (smallest_next _ l.version-index l.least (omega arith) ∙ l.invariant.1),
    )

pub returns : goal.returns
returns c =
    let l = c.loop-version in
    sym (smallest_end c.args.versions.now l.version-index l.least (omega arith) l.invariant.0) ∙ l.invariant.1
