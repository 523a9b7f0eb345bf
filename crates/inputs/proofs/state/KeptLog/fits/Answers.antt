-- `inputs::state::KeptLog::fits` meets its contract: one test after the other.
use mathlib.Core.Path.{refl, sym, ◌∙◌}
use borrow.Author.Tests.{lt-leb, le-leb}
use Rattle.rules.specs.Limits.{tree_size_limit}
use Rattle.inputs.specs.State.{log_fits}
use Rattle.inputs.proofs.state.KeptLog.fits.Goals as goal

pub returns-then-size-gt-LARGEST_SIZE : goal.returns-then-size-gt-LARGEST_SIZE
unfolding log_fits
returns-then-size-gt-LARGEST_SIZE c = rw (lt-leb c.args.self.size tree_size_limit c.if-size-gt-LARGEST_SIZE.true) refl

pub returns-then-not-timestamp_fits : goal.returns-then-not-timestamp_fits
unfolding log_fits
returns-then-not-timestamp_fits c =
    let b = c.args.self in
    rw (
      le-leb b.size tree_size_limit c.if-size-gt-LARGEST_SIZE.false,
      sym c.timestamp_fits.ensures
          ∙ c.if-not-timestamp_fits.true,
    ) refl

pub returns : goal.returns
unfolding log_fits
returns c =
    let b = c.args.self in
    let t = sym c.timestamp_fits.ensures ∙ c.if-not-timestamp_fits.false in
    rw (le-leb b.size tree_size_limit c.if-size-gt-LARGEST_SIZE.false, t) c.zeros_from.ensures
