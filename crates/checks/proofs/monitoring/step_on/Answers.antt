-- `checks::monitoring::step_on` meets its contract: the next versions of the pairs before i have
-- been moved, those from i on are as before.
use Prim.Native.Nat.{◌+◌}
use native.Mathlib.Omega.{arith}
use Rattle.inputs.proofs.PairLaws.{version_within}
use Rattle.checks.proofs.NextVersionLaws.{Moved, moved_on, moved_not, moved_all}
use Rattle.checks.proofs.monitoring.step_on.Goals as goal
use Rattle.checks.proofs.monitoring.step_on.Goals.{then-next-i, else-next-i}

pub next_not_above-requires : goal.next_not_above-requires
next_not_above-requires c = version_within c.args.versions.now c.loop-i.i c.requires.versions (omega arith)

pub loop-i-preserved : goal.loop-i-preserved
loop-i-preserved c =
    let l = c.loop-i in
    let on : Moved c.args.versions.now c.args.next.now c.args.from c.if-next-i.next (l.i + 1) =
    elim c.if-next-i.branch [
      | then-next-i w ↦ moved_on _ _ _ l.next l.i _ _ l.invariant (omega arith) w.if-next-i.true
          w.next_not_above.ensures w.next-is
      | else-next-i w ↦ moved_not _ _ _ l.next l.i _ l.invariant (omega arith) w.if-next-i.false w.next-is
    ] in
    on

pub returns : goal.returns
returns c = let l = c.loop-i in moved_all _ _ _ _ l.i l.invariant (omega arith)
