-- `tree::log_text::entry_from` meets its contract: from where the loop stands the same entry line
-- is the first as from the start on.
use mathlib.Core.Path.{sym, ap, ◌∙◌}
use Rattle.tree.proofs.EntryLineLaws.{first_offset, first_here, first_later, first-end}
use Rattle.tree.proofs.log_text.entry_from.Goals as goal

pub returns-then-text-at-eq-ENTRY_LETTER : goal.returns-then-text-at-eq-ENTRY_LETTER
returns-then-text-at-eq-ENTRY_LETTER c =
    let l = c.loop-at in
    sym (l.invariant ∙ first_here c.args.text.now l.at c.if-text-at-eq-ENTRY_LETTER.true)

pub loop-at-preserved : goal.loop-at-preserved
loop-at-preserved c =
    let l = c.loop-at in
    let t = c.args.text.now in
    l.invariant ∙ first_later t l.at c.if-text-at-eq-ENTRY_LETTER.false ∙ ap (first_offset t) (sym c.next_line-at.ensures)

pub returns : goal.returns
returns c =
    let l = c.loop-at in
    sym (l.invariant ∙ first-end c.args.text.now l.at c.loop-at-test.false)
