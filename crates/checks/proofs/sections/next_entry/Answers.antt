-- `checks::sections::next_entry` meets its contract: where no lookup stands, the line at the offset
-- is an entry line.
use mathlib.Core.Path.{sym}
use Rattle.checks.proofs.LineStepLaws.{no_item, entry_next}
use Rattle.checks.proofs.sections.next_entry.Goals as goal

pub returns-in_err-next : goal.returns-in_err-next
returns-in_err-next c = rw c.from_residual.ensures (no_item _ _ (sym c.in_err-next.ensures)).1

pub returns : goal.returns
returns c =
    let a = c.requires in
    entry_next _ _ a.lines _ _ (sym c.in_ok-next.ensures) a.loose
