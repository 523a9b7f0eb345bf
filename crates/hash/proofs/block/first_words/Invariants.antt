-- `hash::block::first_words` meets its contract: the words passed are those of the block.
use Rattle.std.proofs.Common.{◌≡◌, ℕ, ◌*◌, ◌<◌, get_or, length}
use Rattle.hash.specs.Words.{word}
use Rattle.hash.proofs.block.first_words.Given as goal

abbrev pub invariant-loop-t : goal.invariant-loop-t
invariant-loop-t l = (length l.w-items ≡ 16) × ((k : ℕ) → k < l.t → get_or l.w-items k 0 ≡ word l.block (4 * k))
