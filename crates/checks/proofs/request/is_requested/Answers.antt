-- `checks::request::is_requested` meets its contract: a response of another kind is not the call's own, and
-- of others the identifier and the label decide.
use mathlib.Core.Path.{sym, ◌∙◌}
use Rattle.checks.proofs.RequestLaws.{kind_foreign, identifier-foreign, label-decides}
use Rattle.checks.proofs.request.is_requested.Goals as goal

pub returns-then-not-is_kind_asked : goal.returns-then-not-is_kind_asked
returns-then-not-is_kind_asked c =
    kind_foreign _ _ _ _ _ _ c.kind.ensures (sym c.is_kind_asked.ensures ∙ c.if-not-is_kind_asked.true)

pub returns-then-not-decodes : goal.returns-then-not-decodes
returns-then-not-decodes c =
    identifier-foreign _ _ _ _ _ _ c.kind.ensures c.requires.fields
    (sym c.is_kind_asked.ensures ∙ c.if-not-is_kind_asked.false) _ c.of.ensures
    (sym c.decodes.ensures ∙ c.if-not-decodes.true)

pub returns : goal.returns
returns c =
    label-decides _ _ _ _ _ _ c.kind.ensures c.requires.fields
    (sym c.is_kind_asked.ensures ∙ c.if-not-is_kind_asked.false) _ c.of.ensures
    (sym c.decodes.ensures ∙ c.if-not-decodes.false) _ _ c.of-2.ensures c.decodes-2.ensures
