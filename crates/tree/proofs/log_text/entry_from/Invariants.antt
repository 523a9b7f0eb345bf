-- `tree::log_text::entry_from` meets its contract: from where the loop stands the same entry line
-- is the first as from the start on.
use mathlib.Core.Path.{◌≡◌}
use Prim.Native.Nat.{◌-◌}
use lib.ListN.{length}
use Rattle.tree.proofs.EntryLineLaws.{first_offset}
use Rattle.tree.proofs.log_text.entry_from.Given as goal

abbrev pub invariant-loop-at : goal.invariant-loop-at
invariant-loop-at l = first_offset l.text l.start ≡ first_offset l.text l.at

abbrev pub decreases-loop-at : goal.decreases-loop-at
decreases-loop-at l = length l.text - l.at
