-- `inputs::state::MonitoringMap::pairs_fit` meets its contract: the pairs so far fit, so those that
-- are left decide, from the position after the last on.
use lib.ListN.{take}
use Rattle.inputs.proofs.PairLaws.{PairsLeft}
use Rattle.inputs.proofs.state.MonitoringMap.pairs_fit.Given as goal

abbrev pub invariant-loop-position : goal.invariant-loop-position
invariant-loop-position l =
    let m = l.fn.self in
    PairsLeft l.size (take m.count m.positions)
    (take m.count m.versions) l.least l.position-iterator.a.rest.now l.position-iterator.b.rest.now
