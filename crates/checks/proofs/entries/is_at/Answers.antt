-- `checks::entries::is_at` meets its contract: a ladder of one version begins what stands at the
-- offset where its first number is that version.
use mathlib.Core.Path.{refl, ◌∙◌}
use Rattle.checks.proofs.FoundLaws.{begins_found}
use Rattle.checks.proofs.entries.is_at.Goals as goal

pub returns : goal.returns
returns c =
    let f = c.get.ensures.lookup in
    c.eq.ensures ∙ begins_found c.args.version c.args.wanted.now c.args.i c.get.result _ refl f.0 f.1
