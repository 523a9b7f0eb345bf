-- `checks::entries::entry_asked` meets its contract: the lookups are as the kind asks.
use mathlib.Core.Path.{◌∙◌}
use lib.ListN.{drop}
use Rattle.inputs.specs.Response.{loose_in}
use Rattle.checks.specs.Sections.{AfterLookups}
use Rattle.checks.proofs.EntryAskedLaws.{told_if, search-asked, monitoring-asked, search_marks}
use Rattle.checks.proofs.EntryAskedLaws.{monitoring_marks}
use Rattle.checks.proofs.entries.entry_asked.Goals as goal

pub returns-in-Search : goal.returns-in-Search
returns-in-Search c =
    let k = c.in-Search.is in
    let a = c.args in
    let ls = loose_in (drop a.from a.entries.now) in
    let begin = c.lookups_shown-lookups.ensures.begin in
    let count = c.lookups_shown-lookups.ensures.count in
    let next = c.lookups_shown-lookups.ensures.next in
    let asked = search-asked _ _ a.tree_size a.positions.now a.versions.now a.position k ls in
    let given = told_if c.then_some.ensures (AfterLookups c.args.entries.now c.args.from) next in
    record { asked = given.0 ∙ asked _ _ begin count; next = given.1; marks = search_marks _ _ _ _ _ k _ }

pub returns-in-Monitor : goal.returns-in-Monitor
returns-in-Monitor c =
    let k = c.in-Monitor.is in
    let a = c.args in
    let ls = loose_in (drop a.from a.entries.now) in
    let asked = c.monitored_entry.ensures.asked in
    let next = c.monitored_entry.ensures.next in
    let marks = c.monitored_entry.ensures.marks in
    record {
      asked = monitoring-asked _ a.ladder.now _ _ _ _ k ls _ asked;
      next = next;
      marks = monitoring_marks _ _ _
          _ _ k _ _ marks;
    }
