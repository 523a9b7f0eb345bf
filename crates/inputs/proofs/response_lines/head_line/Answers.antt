-- `inputs::response_lines::head_line` meets its contract: the line is its word and a number.
use mathlib.Core.Path.{sym, ◌∙◌, ap}
use mathlib.Core.List.{[]}
use Rattle.lines.specs.Number.{ascii}
use Rattle.inputs.specs.ResponseLines.{head_of}
use Rattle.inputs.proofs.ResponseLineLaws.{number-off, head-alone}
use Rattle.inputs.proofs.response_lines.head_line.Goals as goal

pub returns-in_err-size : goal.returns-in_err-size
unfolding ascii
returns-in_err-size c = rw c.from_residual.ensures (sym (number-off _ _ _ [] (sym c.in_err-size.ensures)))

pub returns : goal.returns
unfolding ascii
returns c =
    ap head_of c.then_some.ensures ∙ sym (head-alone _ _ _ (sym c.in_ok-size.ensures))
