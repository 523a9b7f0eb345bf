-- `inputs::state::Label::fits` meets its contract: a label that is too long decides, and else what
-- follows it.
use mathlib.Core.Path.{refl}
use borrow.Author.Tests.{lt-leb, le-leb}
use Rattle.rules.specs.Limits.{label_limit}
use Rattle.inputs.specs.State.{label_fits}
use Rattle.inputs.proofs.state.Label.fits.Goals as goal

pub returns-then-self-gt-LABEL : goal.returns-then-self-gt-LABEL
unfolding label_fits
returns-then-self-gt-LABEL c = rw (lt-leb c.args.self.length label_limit c.if-self-gt-LABEL.true) refl

pub returns : goal.returns
unfolding label_fits
returns c =
    let b = c.args.self in
    rw (le-leb b.length label_limit c.if-self-gt-LABEL.false) c.zeros_from.ensures
