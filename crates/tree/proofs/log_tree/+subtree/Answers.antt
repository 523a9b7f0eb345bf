-- `tree::log_tree::subtree` meets its contract, by its width: each step yields what the walk does
-- there, a parent from what its halves yield.
use mathlib.Core.Path.{◌∙◌}
use native.Mathlib.Omega.{arith}
use Rattle.tree.specs.declared.log_tree.Source.TheVariants.{Retained, Given, Shown, Parent}
use Rattle.tree.specs.LogText.{nodes_in}
use Rattle.tree.specs.LogHead.{known_in}
use Rattle.tree.proofs.DecisionLaws.{step_told}
use Rattle.tree.proofs.WalkLaws.{whole-left, whole-right, whole-halves, ready-right, block-retained}
use Rattle.tree.proofs.WalkLaws.{block-given, block-shown-entry, block-parent}
use Rattle.tree.proofs.log_tree.+subtree.Goals as goal

pub subtree-left-requires : goal.subtree-left-requires
subtree-left-requires t c =
    let f = step_told _ _ Parent c.in-Parent.is c.is_before.ensures c.source_at.ensures in
    (omega (arith, c.decreases, f.0), (whole-left c.requires.0 f.0, c.requires.1))

pub subtree-right-requires : goal.subtree-right-requires
unfolding known_in
subtree-right-requires t c =
    let text = c.args.log.now.text.now in
    let ns = nodes_in c.args.log.now.nodes.now in
    let f = step_told _ _ Parent c.in-Parent.is c.is_before.ensures c.source_at.ensures in
    let r = ready-right _ text ns c.requires.0 c.requires.1 _ f.0 c.subtree-left.ensures in
    (omega (arith, c.decreases, f.0), (whole-right c.requires.0 f.0, r))

pub joined-requires : goal.joined-requires
joined-requires t c =
    let f = step_told _ _ Parent c.in-Parent.is c.is_before.ensures c.source_at.ensures in
    whole-halves c.requires.0 f.0 _

pub returns-in-Retained : goal.returns-in-Retained
unfolding known_in
returns-in-Retained t c =
    let text = c.args.log.now.text.now in
    let ns = nodes_in c.args.log.now.nodes.now in
    block-retained _ text ns c.requires.0 c.requires.1 _ _
    (step_told _ _ Retained c.in-Retained.is c.is_before.ensures c.source_at.ensures) c.kept_value-value.ensures

pub returns-in-Given : goal.returns-in-Given
unfolding known_in
returns-in-Given t c =
    let text = c.args.log.now.text.now in
    let ns = nodes_in c.args.log.now.nodes.now in
    c.next_node.ensures ∙ block-given _ text ns c.requires.0 c.requires.1 (step_told _ _ Given c.in-Given.is c.is_before.ensures c.source_at.ensures)

pub returns-in-Shown : goal.returns-in-Shown
unfolding known_in
returns-in-Shown t c =
    let text = c.args.log.now.text.now in
    let ns = nodes_in c.args.log.now.nodes.now in
    c.shown_entry.ensures ∙ block-shown-entry _ text ns c.requires.0 c.requires.1 (step_told _ _ Shown c.in-Shown.is c.is_before.ensures c.source_at.ensures)

pub returns-in-Parent : goal.returns-in-Parent
unfolding known_in
returns-in-Parent t c =
    let text = c.args.log.now.text.now in
    let ns = nodes_in c.args.log.now.nodes.now in
    let f = step_told _ _ Parent c.in-Parent.is c.is_before.ensures c.source_at.ensures in
    block-parent _ text ns c.requires.0 c.requires.1 _ _ _ _ f c.subtree-left.ensures c.subtree-right.ensures
    c.joined.ensures
