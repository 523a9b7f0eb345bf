-- `checks::sections::is_included` meets its contract: the first byte of a lookup line tells it.
use mathlib.Core.Path.{refl, ◌∙◌}
use Rattle.checks.proofs.LookupLineLaws.{inclusion-told}
use Rattle.checks.proofs.FoundLaws.{first_found}
use Rattle.checks.proofs.sections.is_included.Goals as goal

pub returns : goal.returns
returns c x h =
    c.eq.ensures ∙ first_found 104 c.args.line.now c.first.result _ refl c.first.ensures.value
    ∙ inclusion-told c.args.line.now x h
