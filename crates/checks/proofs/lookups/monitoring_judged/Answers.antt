-- `checks::lookups::monitoring_judged` meets its contract: the lookups are tried with what is known
-- of the call, and all must be included.
use mathlib.Core.Path.{refl, ap, ◌∙◌}
use Rattle.checks.specs.Lookups.{judged_by}
use Rattle.checks.proofs.JudgedCallLaws.{entries_ready, monitoring-judged}
use Rattle.checks.proofs.lookups.monitoring_judged.Goals as goal

pub entries_judged-results-requires : goal.entries_judged-results-requires
entries_judged-results-requires c =
    let a = c.args in
    let (lines, loose, short) = entries_ready a.text.now a.call a.outputs.now c.requires.possible _ c.of-2.ensures in
    record { lines = lines; loose = loose; short = short }

pub returns : goal.returns
returns c label =
    let a = c.args in
    monitoring-judged a.text.now a.call label _ _ c.of-2.ensures c.of.ensures
    _ c.entries_judged-results.ensures c.requires.finding refl _
    (c.first_refusal.ensures ∙ ap (judged_by _) c.then_some.ensures)
