-- `tree::prefix_tree::lookup_root` meets its contract: from the siblings that are left the value
-- leads to the root.
use mathlib.Core.Path.{◌≡◌, sym, ◌∙◌, ap}
use native.Mathlib.Omega.{arith}
use Rattle.tree.specs.LogText.{values_in}
use Rattle.tree.specs.PrefixTree.{bits, value_above, lookup_root}
use Rattle.tree.proofs.BitLaws.{length_bits}
use Rattle.tree.proofs.ClimbLaws.{above_none, climb_start, climb_step}
use Rattle.tree.proofs.prefix_tree.lookup_root.Goals as goal

pub loop-depth-init : goal.loop-depth-init
loop-depth-init c =
    let n = c.sibling_count-depth in
    climb_start c.args.output c.args.siblings.now c.terminal_value-value.result n.result c.well_formed.0.1.0.1 n.ensures

pub loop-depth-preserved : goal.loop-depth-preserved
loop-depth-preserved c =
    let l = c.loop-depth in
    let e = length_bits c.args.output in
    let n = c.sibling_count-depth.ensures in
    climb_step l.depth (bits c.args.output) (values_in c.args.siblings.now) l.value c.parent_value-parent.result _ c.sibling_at-sibling.result c.bit_at.result
    (omega arith) (omega (arith, n, c.well_formed.0.1.0.1)) (omega (arith, n)) c.bit_at.ensures c.sibling_at-sibling.ensures c.parent_value-parent.ensures l.invariant

pub returns : goal.returns
unfolding lookup_root
returns c =
    let l = c.loop-depth in
    let s = c.args in
    let e : l.depth ≡ 0 = omega arith in
    sym (above_none (bits s.output) (values_in s.siblings.now) l.value)
    ∙ rw e at l.invariant
    ∙ ap (value_above (bits s.output) (values_in s.siblings.now)) c.terminal_value-value.ensures
