-- `inputs::state::State::new` meets its contract: the length of the label decides.
use mathlib.Core.Path.{refl}
use lib.ListN.{length}
use borrow.Author.Tests.{lt-leb, le-leb}
use Rattle.lists.specs.Choice.{choose}
use Rattle.rules.specs.Limits.{label_limit}
use Rattle.rules.specs.State.{new_state}
use Rattle.inputs.specs.State.{numbered_block}
use Rattle.inputs.proofs.state.State.new.Goals as goal

pub returns-then-label-gt-LABEL : goal.returns-then-label-gt-LABEL
unfolding new_state numbered_block choose
returns-then-label-gt-LABEL c =
    rw (lt-leb (length c.args.label.now) label_limit c.if-label-gt-LABEL.true, c.with_empty_state.ensures) refl

pub returns : goal.returns
unfolding new_state numbered_block choose
returns c = rw (le-leb (length c.args.label.now) label_limit c.if-label-gt-LABEL.false, c.empty.ensures) refl
