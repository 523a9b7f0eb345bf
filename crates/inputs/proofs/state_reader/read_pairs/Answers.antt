-- `inputs::state_reader::read_pairs` meets its contract. The loop's invariant: the lines so far all
-- lead, and are counted; the first of their positions and versions stand in the arrays.
use mathlib.Core.Path.{sym}
use native.Mathlib.Omega.{arith}
use borrow.Author.Rules.{rules}
use Rattle.rules.specs.StateText.{read_pair}
use Rattle.inputs.specs.StateReader.{with_pair}
use Rattle.inputs.proofs.TextLineLaws.{from-was}
use Rattle.inputs.proofs.StateRunLaws.{pairs_start, pairs-room, pairs_next, pairs-stop}
use Rattle.inputs.proofs.state_reader.read_pairs.Goals as goal

pub loop-position-init : goal.loop-position-init
loop-position-init c = record { few = omega arith; within = omega arith; pairs = pairs_start _ _ }

pub put_pair-requires-clause-room : goal.put_pair-requires-clause-room
put_pair-requires-clause-room c = pairs-room _ _ _ _ c.loop-position.invariant.pairs

pub loop-position-smaller : goal.loop-position-smaller
loop-position-smaller c = let h = (from-was read_pair _ _ _ _ (sym c.in-Some.ensures)).here in search rules

pub loop-position-preserved : goal.loop-position-preserved
unfolding with_pair
loop-position-preserved c =
    let l = c.loop-position in
    let h = (from-was read_pair _ _ _ _ (sym c.in-Some.ensures)).here in
    let k = pairs_next _ _ _ _ l.invariant.pairs _ _ (sym c.in-Some.ensures) in
    rw c.put_pair.ensures (record { few = omega arith; within = omega arith; pairs = k })

pub returns : goal.returns
returns c =
    let l = c.loop-position in
    pairs-stop _ _ _ _ l.invariant.pairs l.invariant.within (sym c.in_default.ensures)
