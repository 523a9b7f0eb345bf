-- `checks::search::search_steps` meets its contract: the steps read so far are as asked, and their
-- commitments are placed.
use Prim.Native.Nat.{◌≤◌}
use lib.ListN.{length}
use Rattle.checks.proofs.SearchStepLaws.{LadderRead}
use Rattle.checks.proofs.search.search_steps.Given as goal

abbrev pub invariant-loop-v : goal.invariant-loop-v
invariant-loop-v l =
    (l.at ≤ length l.steps) × LadderRead l.steps l.outputs l.version l.wanted l.offsets l.at l.v-index l.there
