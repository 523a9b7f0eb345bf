-- `tree::walk_cursor::WalkCursor::from` meets its contract: the position is read in the first entry line,
-- where there is one.
use Rattle.tree.proofs.CursorLaws.{cursor-made, cursor-none}
use Rattle.tree.proofs.walk_cursor.WalkCursor.from.Goals as goal

pub returns-then-at-text : goal.returns-then-at-text
returns-then-at-text c =
    let a = c.args in
    cursor-made a.text.now a.start a.node _ c.entry_from-at.ensures _ c.if-at-text.true c.position_at.ensures

pub returns : goal.returns
returns c =
    let a = c.args in
    cursor-none a.text.now a.start a.node _ c.entry_from-at.ensures c.if-at-text.false
