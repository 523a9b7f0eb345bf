-- `inputs::response::read_body` meets its contract: each section begins where the one before it
-- stops, and the text ends with the last.
use mathlib.Core.Path.{sym, ◌∙◌}
use native.Mathlib.Omega.{arith}
use Rattle.inputs.proofs.ResponseBodyLaws.{parts_loose, parts-unended, parts_more, parts_whole}
use Rattle.inputs.proofs.ResponseBodyLaws.{parts-counted, parts-ordered, parts-filled}
use Rattle.inputs.proofs.response.read_body.Goals as goal

pub returns-then-is_loose-clause-parts : goal.returns-then-is_loose-clause-parts
returns-then-is_loose-clause-parts c =
    sym (parts_loose _ _ _ _ _ _ c.section_from-steps.ensures c.section_from-entries.ensures c.section_from-nodes.ensures c.section_from-end.ensures
    (sym c.is_loose.ensures ∙ c.if-is_loose.true))

pub returns-then-end-ne1-clause-parts : goal.returns-then-end-ne1-clause-parts
returns-then-end-ne1-clause-parts c =
    sym (parts-unended _ _ _ _ _ _ c.section_from-steps.ensures c.section_from-entries.ensures c.section_from-nodes.ensures c.section_from-end.ensures
    c.if-end-ne1.true)

pub returns-then-end-text-clause-parts : goal.returns-then-end-text-clause-parts
returns-then-end-text-clause-parts c =
    sym (parts_more _ _ _ _ _ _ c.section_from-steps.ensures c.section_from-entries.ensures c.section_from-nodes.ensures c.section_from-end.ensures
    (omega arith))

pub returns : goal.returns
returns c =
    let a = c.section_from-steps.ensures in
    let b = c.section_from-entries.ensures in
    let d = c.section_from-nodes.ensures in
    let e = c.section_from-end.ensures in
    let n = sym c.is_loose.ensures ∙ c.if-is_loose.false in
    let (i, l, t) = c.requires.decodes in record {
      parts = sym (parts_whole _ _ _ _ _ _ a b d e n c.if-end-ne1.false (omega arith));
      offsets = (
        record { identifier = i; label = l; target = t },
        parts-counted _ _ _ _ _ _ a b d e,
        parts-ordered _ _ _ _ _ _ a b d e,
        parts-filled _ _ _ _ _ _ a b d e n,
      );
    }
