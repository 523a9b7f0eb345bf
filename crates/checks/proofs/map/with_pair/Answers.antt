-- `checks::map::with_pair` meets its contract: the pair is carried from index to index, and where
-- it is stored, the one that stood there is carried on.
use mathlib.Core.Path.{◌∙◌, ap}
use Prim.Native.Nat.{◌+◌}
use native.Mathlib.Omega.{arith}
use lib.ListN.{set}
use Rattle.checks.specs.Map.{pairs_in, put_version}
use Rattle.checks.proofs.PairPutLaws.{Carrying, carrying_start, carried-over, carried-past}
use Rattle.checks.proofs.PairPutLaws.{carried-stored}
use Rattle.checks.proofs.PairPutLaws.{carried-beyond, carried-last}
use Rattle.checks.proofs.map.with_pair.Goals as goal
use Rattle.checks.proofs.map.with_pair.Goals.{then-carried-positions, else-carried-positions}

pub loop-i-init : goal.loop-i-init
loop-i-init c = (omega arith, c.requires.few, carrying_start c.args.map c.args.position c.args.version c.requires)

pub returns-then-positions-i : goal.returns-then-positions-i
returns-then-positions-i c =
    let l = c.loop-i in carried-over l.invariant.1 l.invariant.2 (omega arith) c.if-positions-i.true

pub loop-i-preserved : goal.loop-i-preserved
loop-i-preserved c =
    let l = c.loop-i in
    let s = c.args in
    let n = c.if-carried-positions in
    let on : Carrying (put_version s.position s.version (pairs_in s.map)) s.map.count
    n.positions n.versions n.carried n.carried_version (l.i + 1) =
    elim n.branch [
      | then-carried-positions w ↦ let p = w.swap.ensures in
          let v = w.swap-then-carried-positions.ensures in
          carried-stored l.invariant.1 l.invariant.2 (omega arith) w.if-carried-positions.true
          (w.positions-is ∙ ap (set l.positions l.i) p.x_after) (w.versions-is ∙ ap (set l.versions l.i) v.x_after)
          (w.carried-is ∙ p.y_after) (w.carried_version-is ∙ v.y_after)
      | else-carried-positions w ↦ carried-past l.invariant.1 l.invariant.2 (omega arith) (omega arith) w.positions-is
          w.versions-is w.carried-is w.carried_version-is
    ] in
    (omega arith, l.invariant.1, on)

pub returns-then-count-eq-PAIRS : goal.returns-then-count-eq-PAIRS
returns-then-count-eq-PAIRS c =
    let l = c.loop-i in
    carried-beyond l.invariant.1 l.invariant.2 (omega arith) c.if-count-eq-PAIRS.true

pub returns : goal.returns
returns c = let l = c.loop-i in carried-last l.invariant.1 l.invariant.2 (omega arith) (omega arith)
