-- `kt::exports::kt_ladder` meets its contract: the first i versions of the ladder are written to
-- the front of the bytes lent.
use Rattle.std.proofs.Common.{◌≡◌, ◌≤◌, length}
use Rattle.tree.specs.Ladder.{ladder_within, ladder_capacity}
use Rattle.kt.proofs.ExportLaws.{written}
use Rattle.kt.proofs.exports.kt_ladder.Given as goal

abbrev pub invariant-loop-i : goal.invariant-loop-i
invariant-loop-i l =
    (l.i ≤ l.length) × (l.length ≤ ladder_capacity) × (length l.versions ≡ length l.initial.versions)
    × (l.versions ≡ written (ladder_within l.version) l.initial.versions l.i)
