-- `tree::search_tree::Frontier::of` meets its contract: what is stored so far are the first entries
-- of the frontier, and those from `from` on are left.
use Rattle.tree.proofs.FrontierFillLaws.{StoringOnes}
use Rattle.tree.proofs.search_tree.Frontier.of.Given as goal

abbrev pub invariant-loop-slot : goal.invariant-loop-slot
invariant-loop-slot l = StoringOnes l.tree_size l.slot-items l.from l.slot-index
