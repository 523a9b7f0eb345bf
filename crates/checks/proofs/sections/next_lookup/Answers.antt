-- `checks::sections::next_lookup` meets its contract: a line that begins with another byte than an
-- entry line is a lookup line.
use mathlib.Core.Path.{sym}
use Rattle.checks.proofs.LineStepLaws.{no_item, no_item_end, lookup-next, no-lookup}
use Rattle.checks.proofs.sections.next_lookup.Goals as goal
use Rattle.checks.proofs.sections.next_lookup.Goals.{then-entries-at-via-then-entries-at}
use Rattle.checks.proofs.sections.next_lookup.Goals.{then-entries-at-via-else-entries-at+then-entries-at-eq-ENTRY_LETTER}

pub returns-then-entries-at : goal.returns-then-entries-at
returns-then-entries-at c =
    elim c.then-entries-at.branch [
      | then-entries-at-via-then-entries-at w ↦ (no_item_end _ _ w.if-entries-at.true).0
      | then-entries-at-via-else-entries-at+then-entries-at-eq-ENTRY_LETTER w ↦ no-lookup c.args.entries.now c.args.at
          c.requires.lines w.if-entries-at-eq-ENTRY_LETTER.true
    ]

pub returns-in_err-stop : goal.returns-in_err-stop
returns-in_err-stop c = rw c.from_residual.ensures (no_item _ _ (sym c.in_err-stop.ensures)).0

pub returns : goal.returns
returns c =
    lookup-next _ _ c.requires.lines _ _ (sym c.in_ok-stop.ensures) c.if-entries-at-eq-ENTRY_LETTER.false
