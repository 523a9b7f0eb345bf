-- `checks::trial::try_9_to_11` meets its contract: the shape, the number of nodes, the outputs and
-- the times are tried in this order.
use mathlib.Core.Path.{◌≡◌, ◌∙◌, ap, subst}
use borrow.Author.Rules.{rules}
use borrow.Author.Tests.{not-true, not-false}
use Rattle.std.specs.Prelude.{Ok, Err, Option as CodeOption, Result}
use Rattle.std.specs.Option.{ok_or}
use Rattle.inputs.specs.declared.refusal.Refusal.{Refusal}
use Rattle.inputs.specs.declared.refusal.Refusal.TheVariants.{Shape}
use Rattle.checks.specs.declared.trial.Shape.{Shape as ShapeBlock}
use Rattle.checks.specs.Calls.{IsShape}
use Rattle.checks.proofs.ShapeTrialLaws.{shape-refused, nodes-refused, outputs-refused}
use Rattle.checks.proofs.ShapeTrialLaws.{timestamps-refused, clock-refused, tried_passed}
use Rattle.checks.proofs.trial.try_9_to_11.Goals as goal

-- the refusal of an answer that is one
abbrev refusal_of : Result ShapeBlock Refusal → Refusal
refusal_of (Ok x) = Shape
refusal_of (Err e) = e

pub returns-in_err-shape : goal.returns-in_err-shape
returns-in_err-shape c =
    let a = c.args in
    let none = c.in_err-shape.ensures.ok_part in
    let r : c.from_residual.result ≡ Err c.in_err-shape.field-0.0 = search rules in
    let refused : c.in_err-shape.field-0.0 ≡ Shape =
    ap refusal_of (c.in_err-shape.ensures.value ∙ ap (λ (o : CodeOption ShapeBlock). ok_or o Shape) none) in
    rw (r ∙ ap Err refused)
    (shape-refused c.requires.possible c.asked_by_kind.new.commitments
    (subst (λ (o : CodeOption ShapeBlock). IsShape a.text.now a.call a.positions.now a.versions.now a.outputs.now o
    c.asked_by_kind.new.commitments) none c.asked_by_kind.ensures))

pub returns-then-nodes-call : goal.returns-then-nodes-call
returns-then-nodes-call c =
    nodes-refused c.requires.possible _ (subst (λ (o : CodeOption ShapeBlock). IsShape c.args.text.now c.args.call c.args.positions.now c.args.versions.now
    c.args.outputs.now o c.asked_by_kind.new.commitments) c.in_ok-shape.ensures.ok_part c.asked_by_kind.ensures) c.of.ensures c.nodes_asked-nodes.ensures
    c.if-nodes-call.true

pub returns-then-not-shape : goal.returns-then-not-shape
returns-then-not-shape c =
    outputs-refused c.requires.possible _ (subst (λ (o : CodeOption ShapeBlock). IsShape c.args.text.now c.args.call c.args.positions.now c.args.versions.now
    c.args.outputs.now o c.asked_by_kind.new.commitments) c.in_ok-shape.ensures.ok_part c.asked_by_kind.ensures) c.of.ensures c.nodes_asked-nodes.ensures
    c.if-nodes-call.false (not-true _ c.if-not-shape.true)

pub returns-then-not-shape-2 : goal.returns-then-not-shape-2
returns-then-not-shape-2 c =
    timestamps-refused c.requires.possible _ (subst (λ (o : CodeOption ShapeBlock). IsShape c.args.text.now c.args.call c.args.positions.now c.args.versions.now
    c.args.outputs.now o c.asked_by_kind.new.commitments) c.in_ok-shape.ensures.ok_part c.asked_by_kind.ensures) c.of.ensures c.nodes_asked-nodes.ensures
    c.if-nodes-call.false (not-false _ c.if-not-shape.false) (not-true _ c.if-not-shape-2.true)

pub returns-then-not-near_clock : goal.returns-then-not-near_clock
returns-then-not-near_clock c =
    clock-refused c.requires.possible _ (subst (λ (o : CodeOption ShapeBlock). IsShape c.args.text.now c.args.call c.args.positions.now c.args.versions.now
    c.args.outputs.now o c.asked_by_kind.new.commitments) c.in_ok-shape.ensures.ok_part c.asked_by_kind.ensures) c.of.ensures c.nodes_asked-nodes.ensures
    c.if-nodes-call.false (not-false _ c.if-not-shape.false) (not-false _ c.if-not-shape-2.false)
    c.near_clock.ensures c.if-not-near_clock.true

pub returns : goal.returns
returns c =
    tried_passed c.requires.possible _ (subst (λ (o : CodeOption ShapeBlock). IsShape c.args.text.now c.args.call c.args.positions.now c.args.versions.now
    c.args.outputs.now o c.asked_by_kind.new.commitments) c.in_ok-shape.ensures.ok_part c.asked_by_kind.ensures) c.of.ensures c.nodes_asked-nodes.ensures
    c.if-nodes-call.false (not-false _ c.if-not-shape.false) (not-false _ c.if-not-shape-2.false) c.near_clock.ensures
    c.if-not-near_clock.false
