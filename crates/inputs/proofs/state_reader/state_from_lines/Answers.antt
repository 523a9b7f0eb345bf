-- `inputs::state_reader::state_from_lines` meets its contract: with too many values or pairs, or
-- another number of values than the size tells, no state is valid; else the struct is that of the
-- state, and is valid where the state is.
use mathlib.Core.Path.{◌∙◌, ap}
use Rattle.lists.specs.Choice.{option_of}
use Rattle.inputs.proofs.StateReaderLaws.{invalid-count, invalid-values, invalid-pairs, state-tested}
use Rattle.inputs.proofs.state_reader.state_from_lines.Goals as goal

pub returns-then-keeps-first : goal.returns-then-keeps-first
returns-then-keeps-first c st g = invalid-count _ _ _ st g c.if-keeps-first.true

pub returns-then-keeps : goal.returns-then-keeps
returns-then-keeps c st g = invalid-values _ _ _ st g c.if-keeps.true

pub returns-then-pairs-gt-PAIRS : goal.returns-then-pairs-gt-PAIRS
returns-then-pairs-gt-PAIRS c st g = invalid-pairs _ _ _ st g c.if-pairs-gt-PAIRS.true

pub returns : goal.returns
returns c st g =
    ap option_of c.then_some.ensures
    ∙ state-tested _ _ _ st g c.if-keeps-first.false c.if-keeps.false c.if-pairs-gt-PAIRS.false _ c.is_valid.ensures
