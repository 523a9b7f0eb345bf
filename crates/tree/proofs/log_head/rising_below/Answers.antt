-- `tree::log_head::rising_below` meets its contract: what is left from the entry line at hand on
-- decides, from the position after the last on.
use mathlib.Core.Path.{ap, ◌∙◌}
use native.Mathlib.Omega.{arith}
use Rattle.tree.proofs.EntryLineLaws.{first_offset, first_onward}
use Rattle.tree.proofs.RisingBelowLaws.{decides-start, decides-end, decides-low, decides-high}
use Rattle.tree.proofs.RisingBelowLaws.{decides-next}
use Rattle.tree.proofs.log_head.rising_below.Goals as goal

pub loop-at-init : goal.loop-at-init
loop-at-init c = let a = c.args in decides-start a.text.now a.tree_size _ c.entry_from-at.ensures

pub returns-then-position-least : goal.returns-then-position-least
returns-then-position-least c =
    let a = c.args in
    let l = c.loop-at in
    decides-low a.text.now a.tree_size l.least l.at _ l.invariant c.loop-at-test.true c.position_at-position.ensures c.if-position-least.true

pub returns-then-tree_size-position : goal.returns-then-tree_size-position
returns-then-tree_size-position c =
    let a = c.args in
    let l = c.loop-at in
    decides-high a.text.now a.tree_size l.least l.at _ l.invariant c.loop-at-test.true c.position_at-position.ensures c.if-position-least.false c.if-tree_size-position.true

pub loop-at-smaller : goal.loop-at-smaller
loop-at-smaller c =
    let t = c.args.text.now in
    omega (arith, c.entry_from-at-in-loop-at.ensures, c.next_line.ensures, first_onward t c.next_line.result, c.loop-at-test.true)

pub loop-at-preserved : goal.loop-at-preserved
loop-at-preserved c =
    let a = c.args in
    let t = a.text.now in
    let l = c.loop-at in
    decides-next t a.tree_size l.least l.at _ l.invariant c.loop-at-test.true c.position_at-position.ensures c.if-position-least.false c.if-tree_size-position.false
    _ (c.entry_from-at-in-loop-at.ensures ∙ ap (first_offset t) c.next_line.ensures)

pub returns : goal.returns
returns c =
    let a = c.args in
    let l = c.loop-at in
    decides-end a.text.now a.tree_size l.least l.at l.invariant c.loop-at-test.false
