-- `inputs::response_lines::Kind::second_word` meets its contract: the bytes are those of the word.
use mathlib.Core.Path.{refl}
use Rattle.lines.specs.Number.{ascii}
use Rattle.inputs.proofs.response_lines.Kind.second_word.Goals as goal

pub returns-in-Search : goal.returns-in-Search
unfolding ascii
returns-in-Search c = rw c.in-Search.is refl

pub returns-in-Monitor : goal.returns-in-Monitor
unfolding ascii
returns-in-Monitor c = rw c.in-Monitor.is refl
