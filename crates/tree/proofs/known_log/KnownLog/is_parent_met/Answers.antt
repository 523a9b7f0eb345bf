-- `tree::known_log::KnownLog::is_parent_met` meets its contract: equal halves are those of a whole block,
-- others of no full subtree.
use Rattle.tree.specs.LogHead.{known_in}
use Rattle.tree.proofs.DecisionLaws.{halves_uneven}
use Rattle.tree.proofs.WalkedLaws.{agrees-none}
use Rattle.tree.proofs.known_log.KnownLog.is_parent_met.Goals as goal

pub returns : goal.returns
unfolding known_in
returns c = agrees-none _ _ _ (halves_uneven _ _ _ _ c.requires c.if-rest-half.false)
