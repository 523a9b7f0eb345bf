-- `inputs::state::MonitoringMap::fits` meets its contract: one test after the other.
use mathlib.Core.Path.{refl, sym, ◌∙◌}
use borrow.Author.Tests.{lt-leb, le-leb}
use Rattle.rules.specs.Limits.{map_limit}
use Rattle.inputs.specs.State.{map_fits}
use Rattle.inputs.proofs.state.MonitoringMap.fits.Goals as goal

pub returns-then-self-gt-PAIRS : goal.returns-then-self-gt-PAIRS
unfolding map_fits
returns-then-self-gt-PAIRS c = rw (lt-leb c.args.self.count map_limit c.if-self-gt-PAIRS.true) refl

pub returns-then-not-zeros_follow : goal.returns-then-not-zeros_follow
unfolding map_fits
returns-then-not-zeros_follow c =
    let b = c.args.self in
    rw (le-leb b.count map_limit c.if-self-gt-PAIRS.false, sym c.zeros_follow.ensures ∙ c.if-not-zeros_follow.true) refl

pub returns : goal.returns
unfolding map_fits
returns c =
    let b = c.args.self in
    let z = sym c.zeros_follow.ensures ∙ c.if-not-zeros_follow.false in
    rw (le-leb b.count map_limit c.if-self-gt-PAIRS.false, z) c.pairs_fit.ensures
