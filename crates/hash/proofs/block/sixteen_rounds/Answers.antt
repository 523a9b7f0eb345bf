-- `hash::block::sixteen_rounds` meets its contract: each call is one round more.
use Rattle.hash.proofs.BlockLaws.{rounds_zero, rounds_step}
use Rattle.hash.proofs.block.sixteen_rounds.Goals as goal

pub returns : goal.returns
returns c =
    let v = c.args.v in
    let k = c.args.k.now in
    let w = c.args.w.now in
    let e0 = rounds_zero v k w in
    let e1 = rounds_step 0 v _ _ k w e0 c.round-a.ensures in
    let e2 = rounds_step 1 v _ _ k w e1 c.round-b.ensures in
    let e3 = rounds_step 2 v _ _ k w e2 c.round-c.ensures in
    let e4 = rounds_step 3 v _ _ k w e3 c.round-d.ensures in
    let e5 = rounds_step 4 v _ _ k w e4 c.round-e.ensures in
    let e6 = rounds_step 5 v _ _ k w e5 c.round-f.ensures in
    let e7 = rounds_step 6 v _ _ k w e6 c.round-g.ensures in
    let e8 = rounds_step 7 v _ _ k w e7 c.round-h.ensures in
    let e9 = rounds_step 8 v _ _ k w e8 c.round-i.ensures in
    let e10 = rounds_step 9 v _ _ k w e9 c.round-j.ensures in
    let e11 = rounds_step 10 v _ _ k w e10 c.round-l.ensures in
    let e12 = rounds_step 11 v _ _ k w e11 c.round-m.ensures in
    let e13 = rounds_step 12 v _ _ k w e12 c.round-n.ensures in
    let e14 = rounds_step 13 v _ _ k w e13 c.round-o.ensures in
    let e15 = rounds_step 14 v _ _ k w e14 c.round-p.ensures in
    rounds_step 15 v _ _ k w e15 c.round.ensures
