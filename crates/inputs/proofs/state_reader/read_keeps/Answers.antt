-- `inputs::state_reader::read_keeps` meets its contract. The loop's invariant: the lines so far all
-- lead, and are counted; the first of their values stand in the block.
use mathlib.Core.Path.{sym}
use native.Mathlib.Omega.{arith}
use borrow.Author.Rules.{rules}
use Rattle.rules.specs.StateText.{read_keep}
use Rattle.inputs.proofs.TextLineLaws.{from-was}
use Rattle.inputs.proofs.StateRunLaws.{keeps-start, keeps-next, keeps-stop}
use Rattle.inputs.proofs.state_reader.read_keeps.Goals as goal

pub loop-keep-init : goal.loop-keep-init
loop-keep-init c = record { few = omega arith; within = omega arith; keeps = keeps-start _ _ }

pub loop-keep-smaller : goal.loop-keep-smaller
loop-keep-smaller c = let h = (from-was read_keep _ _ _ _ (sym c.in-Some.ensures)).here in search rules

pub loop-keep-preserved : goal.loop-keep-preserved
loop-keep-preserved c =
    let l = c.loop-keep in
    let h = (from-was read_keep _ _ _ _ (sym c.in-Some.ensures)).here in
    let k = keeps-next _ _ _ _ _ l.invariant.keeps _ _ (sym c.in-Some.ensures) in
    record { few = omega arith; within = omega arith; keeps = rw c.put_bytes.ensures.bytes k }

pub returns : goal.returns
returns c =
    let l = c.loop-keep in
    keeps-stop _ _ _ _ _ l.invariant.keeps l.invariant.within (sym c.in_default.ensures)
