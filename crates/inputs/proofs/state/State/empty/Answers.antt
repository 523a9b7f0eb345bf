-- `inputs::state::State::empty` meets its contract: the label, and zeros in all other room.
use Rattle.inputs.proofs.StateBlockLaws.{empty_block}
use Rattle.inputs.proofs.state.State.empty.Goals as goal

pub returns : goal.returns
returns c = empty_block c.args.label.now c.of.result c.of.ensures
