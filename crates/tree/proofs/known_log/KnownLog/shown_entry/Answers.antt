-- `tree::known_log::KnownLog::shown_entry` meets its contract: the entry that the cursor is at is the one at
-- start.
use borrow.Author.Rules.{rules}
use Rattle.tree.specs.LogHead.{known_in}
use Rattle.tree.proofs.WalkLaws.{whole_one, entry-room, entry-walked}
use Rattle.tree.proofs.known_log.KnownLog.shown_entry.Goals as goal

pub overflow_add-cursor : goal.overflow_add-cursor
overflow_add-cursor c =
    let r = entry-room c.args.self.now.text.now c.requires.0 c.requires.1 c.requires.2 in
    search rules

pub is_met-met-requires : goal.is_met-met-requires
is_met-met-requires c = whole_one _ c.requires.1

pub past_entry-next-requires : goal.past_entry-next-requires
past_entry-next-requires c = entry-room c.args.self.now.text.now c.requires.0 c.requires.1 c.requires.2

pub returns : goal.returns
unfolding known_in
returns c = entry-walked c.args.self.now.text.now c.requires.0 c.requires.1 c.requires.2 _ _ _ _ c.leaf_at-value.ensures c.past_entry-next.ensures c.is_met-met.ensures
