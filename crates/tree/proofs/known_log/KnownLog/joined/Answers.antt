-- `tree::known_log::KnownLog::joined` meets its contract: the string is that of the children's values, each
-- after its mark, and all kept values are met if this one is and those below it are.
use Rattle.tree.proofs.WalkedLaws.{joined_made}
use Rattle.tree.proofs.known_log.KnownLog.joined.Goals as goal

pub returns : goal.returns
returns c =
    joined_made _ _ _ _ c.args.left c.args.right _ _ _ _ c.content_mark.ensures c.content_mark-2.ensures c.digest_66-value.ensures
    c.is_parent_met-met.ensures
