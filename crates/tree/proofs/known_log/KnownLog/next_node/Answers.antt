-- `tree::known_log::KnownLog::next_node` meets its contract: the value of the next node, and one node more.
use Rattle.tree.specs.LogText.{nodes_in}
use Rattle.tree.proofs.WalkedLaws.{node_made}
use Rattle.tree.proofs.known_log.KnownLog.next_node.Goals as goal

pub returns : goal.returns
returns c = node_made (nodes_in c.args.self.now.nodes.now) c.args.cursor.now _ _ c.node_at-value.ensures c.past_node.ensures
