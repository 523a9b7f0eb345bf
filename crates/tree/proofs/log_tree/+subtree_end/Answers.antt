-- `tree::log_tree::subtree_end` meets its contract, by its width: each step ends where the walk
-- does there.
use mathlib.Core.Path.{◌∙◌}
use mathlib.Core.List.{[]}
use native.Mathlib.Omega.{arith}
use Rattle.tree.specs.declared.log_tree.Source.TheVariants.{Retained, Given, Shown, Parent}
use Rattle.tree.specs.LogHead.{known_in}
use Rattle.tree.proofs.DecisionLaws.{step_told}
use Rattle.tree.proofs.WalkLaws.{entry-room, whole-left, whole-right, block-entry}
use Rattle.tree.proofs.EndLaws.{ready-half, end-retained, end-given, end_shown, end-parent}
use Rattle.tree.proofs.log_tree.+subtree_end.Goals as goal

pub past_entry-requires : goal.past_entry-requires
past_entry-requires t c =
    let text = c.args.text.now in
    let (b, l) = block-entry [] text [] c.requires.0 c.requires.1 (step_told _ _ Shown c.in-Shown.is c.is_before.ensures c.source_at.ensures) in
    entry-room text c.requires.1 b l

pub subtree_end-middle-requires : goal.subtree_end-middle-requires
subtree_end-middle-requires t c =
    let f = step_told _ _ Parent c.in-Parent.is c.is_before.ensures c.source_at.ensures in
    (omega (arith, c.decreases, f.0), (whole-left c.requires.0 f.0, c.requires.1))

pub subtree_end-requires : goal.subtree_end-requires
unfolding known_in
subtree_end-requires t c =
    let text = c.args.text.now in
    let f = step_told _ _ Parent c.in-Parent.is c.is_before.ensures c.source_at.ensures in
    let r = ready-half text c.requires.0 c.requires.1 _ f.0 c.subtree_end-middle.ensures in
    (omega (arith, c.decreases, f.0), (whole-right c.requires.0 f.0, r))

pub returns-in-Retained : goal.returns-in-Retained
unfolding known_in
returns-in-Retained t c =
    let text = c.args.text.now in
    end-retained text c.requires.0 c.requires.1 (step_told _ _ Retained c.in-Retained.is c.is_before.ensures c.source_at.ensures)

pub returns-in-Given : goal.returns-in-Given
unfolding known_in
returns-in-Given t c =
    let text = c.args.text.now in
    c.past_node.ensures ∙ end-given text c.requires.0 c.requires.1 (step_told _ _ Given c.in-Given.is c.is_before.ensures c.source_at.ensures)

pub returns-in-Shown : goal.returns-in-Shown
unfolding known_in
returns-in-Shown t c = end_shown c.args.text.now c.requires.0 c.requires.1 (step_told _ _ Shown c.in-Shown.is c.is_before.ensures c.source_at.ensures) _ c.past_entry.ensures

pub returns-in-Parent : goal.returns-in-Parent
unfolding known_in
returns-in-Parent t c =
    let text = c.args.text.now in
    let f = step_told _ _ Parent c.in-Parent.is c.is_before.ensures c.source_at.ensures in
    end-parent text c.requires.0 c.requires.1 _ _ f c.subtree_end-middle.ensures c.subtree_end.ensures
