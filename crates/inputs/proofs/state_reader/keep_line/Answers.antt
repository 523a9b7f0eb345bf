-- `inputs::state_reader::keep_line` meets its contract: the word is read, then the only field after
-- it.
use mathlib.Core.Path.{sym, ◌∙◌}
use native.Mathlib.Omega.{arith}
use Rattle.lines.specs.Number.{ascii}
use Rattle.inputs.proofs.StateLineLaws.{keep-no-word, keep-beyond, keep-more, keep-read}
use Rattle.inputs.proofs.state_reader.keep_line.Goals as goal

pub returns-in_err-next : goal.returns-in_err-next
unfolding ascii
returns-in_err-next c = rw c.from_residual.ensures (sym (keep-no-word _ (sym c.in_err-next.ensures)))

pub returns-then-l-next : goal.returns-then-l-next
unfolding ascii
returns-then-l-next c = sym (keep-beyond _ _ (sym c.in_ok-next.ensures) (omega arith))

pub returns-then-field-l : goal.returns-then-field-l
unfolding ascii
returns-then-field-l c = sym (keep-more _ _ (sym c.in_ok-next.ensures) _ c.field-field.ensures (omega arith) (omega arith))

pub returns : goal.returns
unfolding ascii
returns c = c.read_digest.ensures ∙ keep-read _ _ (sym c.in_ok-next.ensures) _ c.field-field.ensures (omega arith) (omega arith)
