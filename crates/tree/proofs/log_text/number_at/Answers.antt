-- `tree::log_text::number_at` meets its contract: the part up to the tab is read.
use mathlib.Core.Path.{sym, ◌∙◌}
use native.Mathlib.Omega.{arith}
use Rattle.lists.specs.Choice.{option_of}
use Rattle.lines.specs.Line.{tab}
use Rattle.lines.proofs.OffsetLaws.{span-end}
use Rattle.tree.proofs.LogTextLaws.{unwrapped, number_between, number_none}
use Rattle.tree.proofs.log_text.number_at.Goals as goal

pub returns-then-text-at : goal.returns-then-text-at
returns-then-text-at c = let a = c.args in sym (number_none _ (span-end tab a.text.now a.at (omega arith)))

pub returns : goal.returns
returns c =
    let a = c.args in
    c.unwrap_or.ensures ∙ unwrapped c.read_number.result 0
    ∙ sym (number_between a.text.now a.at c.span-stop.result (option_of c.read_number.result) c.span-stop.ensures.value c.read_number.ensures)
