-- `checks::entries::monitored_entry` meets its contract: the lookups are compared with the versions
-- of the largest pair, or there is no pair.
use mathlib.Core.Path.{sym, ◌∙◌}
use lib.ListN.{drop}
use Rattle.hash.proofs.BytesLaws.{filled_front}
use Rattle.inputs.specs.Response.{loose_in}
use Rattle.inputs.proofs.PairLaws.{version_within}
use Rattle.checks.specs.Sections.{AfterLookups}
use Rattle.checks.proofs.EntryAskedLaws.{told_if, shown_all, shown_none}
use Rattle.checks.proofs.entries.monitored_entry.Goals as goal

pub versions_not_above-shown-requires : goal.versions_not_above-shown-requires
versions_not_above-shown-requires c = version_within _ _ c.requires.pairs.versions c.in-Some.ensures.0

pub slice_bounds-wanted-end : goal.slice_bounds-wanted-end
slice_bounds-wanted-end c = (filled_front _ _ _ _ c.versions_not_above-shown.ensures).1

pub slice_bounds-lookups_shown-end : goal.slice_bounds-lookups_shown-end
slice_bounds-lookups_shown-end c = (filled_front _ _ _ _ c.versions_not_above-shown.ensures).2

pub returns-in-Some-clause-asked : goal.returns-in-Some-clause-asked
returns-in-Some-clause-asked c =
    let l = c.lookups_shown-lookups.ensures in
    let (front, _, length) = filled_front _ _ _ _ c.versions_not_above-shown.ensures in
    let asked = shown_all (loose_in (drop c.args.from c.args.entries.now)) _ _ _ _ _ l.begin l.count length
    (c.in-Some.ensures.1 ∙ sym front) in
    (told_if c.then_some.ensures (AfterLookups c.args.entries.now c.args.from) l.next).0 ∙ asked

pub returns-in-None-clause-asked : goal.returns-in-None-clause-asked
returns-in-None-clause-asked c =
    let l = c.lookups_shown-lookups-in-None.ensures in
    let asked = shown_none (loose_in (drop c.args.from c.args.entries.now)) _ _ l.count c.in-None.ensures in
    (told_if c.then_some-in-None.ensures (AfterLookups c.args.entries.now c.args.from) l.next).0 ∙ asked
