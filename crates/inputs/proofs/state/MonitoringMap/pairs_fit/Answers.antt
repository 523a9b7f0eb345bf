-- `inputs::state::MonitoringMap::pairs_fit` meets its contract: the pairs so far fit, so those that
-- are left decide, from the position after the last on.
use mathlib.Core.Path.{◌≡◌, ◌∙◌}
use lib.ListN.{length}
use Rattle.std.proofs.Common.{inl, inr}
use Rattle.inputs.proofs.PairLaws.{pairs_end, pairs-low, pairs-high, pairs-great, pairs_next}
use Rattle.inputs.proofs.state.MonitoringMap.pairs_fit.Goals.{then-position-least-via-then-position-least}
use Rattle.inputs.proofs.state.MonitoringMap.pairs_fit.Goals.{then-position-least-via-else-position-least+then-size-position}
use Rattle.inputs.proofs.state.MonitoringMap.pairs_fit.Goals.{then-position-least-via-else-position-least+else-size-position+then-version-gt-GREATEST_VERSION}
use Rattle.inputs.proofs.state.MonitoringMap.pairs_fit.Goals as goal

pub returns-then-position-least : goal.returns-then-position-least
returns-then-position-least c =
    let s = c.in-Some.ensures.steps in
    let left = rw (s.0, s.1) at c.loop-position.invariant in
    elim c.then-position-least.branch [
      | then-position-least-via-then-position-least w ↦ pairs-low _ _ _ _ _ _ _ _ left w.if-position-least.true
      | then-position-least-via-else-position-least+then-size-position w ↦
          pairs-high _ _ _ _ _ _ _ _ left w.if-size-position.true
      | then-position-least-via-else-position-least+else-size-position+then-version-gt-GREATEST_VERSION w ↦
          pairs-great _ _ _ _ _ _ _ _ left w.if-version-gt-GREATEST_VERSION.true
    ]

pub loop-position-preserved : goal.loop-position-preserved
loop-position-preserved c =
    let s = c.in-Some.ensures.steps in
    pairs_next _ _ _ _ _ _ _ _
    (rw (
      s.0,
      s.1,
    ) at c.loop-position.invariant) c.if-position-least.false c.if-size-position.false
    c.if-version-gt-GREATEST_VERSION.false

pub returns : goal.returns
returns c =
    let n = c.loop-position.invariant.as_many in
    let e : length c.loop-position.position-iterator.a.rest.now ≡ 0 =
    elim c.in-None.ensures.steps [ inl x ↦ x.1.0 | inr x ↦ n ∙ x.1.0 ] in
    pairs_end _ _ _ _ _ _ c.loop-position.invariant e
