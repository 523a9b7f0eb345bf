-- `inputs::response_lines::number_after` meets its contract: the word is passed over, and the
-- number read after it.
use mathlib.Core.Path.{sym, ◌∙◌, ap}
use Rattle.lists.proofs.ChoiceLaws.{bind_at, bind_none}
use Rattle.lines.specs.Readings.{read_of}
use Rattle.inputs.proofs.response_lines.number_after.Goals as goal

pub returns-in_err-after_word : goal.returns-in_err-after_word
returns-in_err-after_word c = ap read_of c.from_residual.ensures ∙ sym (bind_none _ _ (sym c.in_err-after_word.ensures))

pub returns : goal.returns
returns c = c.number.ensures ∙ sym (bind_at _ _ _ (sym c.in_ok-after_word.ensures))
