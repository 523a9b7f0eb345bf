-- `tree::log_text::after_tab` meets its contract: the tab found is the first.
use mathlib.Core.Path.{sym, ◌∙◌}
use Prim.Native.Nat.{◌+◌}
use native.Mathlib.Omega.{arith}
use lib.ListN.{length}
use Rattle.lines.specs.Line.{tab}
use Rattle.lines.proofs.OffsetLaws.{at_end, after_at}
use Rattle.tree.proofs.log_text.after_tab.Goals as goal

pub returns-then-stop-text : goal.returns-then-stop-text
returns-then-stop-text c = let a = c.args in after_at tab a.text.now a.at c.span-stop.result c.span-stop.ensures.value

pub returns-else-stop-text : goal.returns-else-stop-text
returns-else-stop-text c =
    let a = c.args in
    let s = a.text.now in
    let k = c.span-stop.result in
    at_end s (length s) (omega arith) ∙ sym (at_end s (k + 1) (omega arith)) ∙ after_at tab s a.at k c.span-stop.ensures.value
