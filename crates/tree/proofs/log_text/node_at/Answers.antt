-- `tree::log_text::node_at` meets its contract: the value stands where its number says, or beyond
-- the last.
use mathlib.Core.Path.{sym, ◌∙◌}
use Prim.Native.Nat.{◌/◌}
use lib.ListN.{length}
use Rattle.lines.specs.Layout.{node_line}
use Rattle.tree.proofs.DigitLaws.{by_order}
use Rattle.tree.proofs.LogTextLaws.{node_some, node_none}
use Rattle.tree.proofs.log_text.node_at.Goals as goal

pub returns : goal.returns
returns c =
    let s = c.args.nodes.now in
    let i = c.args.i in
    let v = c.value_in_line.ensures in
    by_order i (length s / node_line) (λ h. v.some h ∙ sym (node_some s i h)) (λ h. v.none h ∙ sym (node_none s i h))
