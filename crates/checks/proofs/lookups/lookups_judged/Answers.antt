-- `checks::lookups::lookups_judged` meets its contract: the lookups before the offset are summed
-- up.
use native.Mathlib.Omega.{arith}
use Rattle.checks.proofs.SummaryLaws.{beginning_root, summed-start, summed-next}
use Rattle.checks.proofs.SummaryLaws.{summed-all}
use Rattle.checks.proofs.lookups.lookups_judged.Goals as goal

pub loop-stop-init : goal.loop-stop-init
loop-stop-init c =
    let p = c.requires in
    summed-start _ _ _ _ _ c.start-summary.ensures p.lines p.within

pub next_lookup-requires : goal.next_lookup-requires
next_lookup-requires c = record { lines = c.loop-stop.invariant.lines; within = c.loop-stop.invariant.within }

pub slice_bounds-next-count : goal.slice_bounds-next-count
slice_bounds-next-count c =
    c.in-Some.ensures.5

pub slice_bounds-next-start : goal.slice_bounds-next-start
slice_bounds-next-start c =
    c.in-Some.ensures.5

pub slice_bounds-next-end : goal.slice_bounds-next-end
slice_bounds-next-end c =
    let h = c.in-Some.ensures in omega (arith, h.5, h.6, h.7)

pub next-summary-requires : goal.next-summary-requires
next-summary-requires c =
    let short = c.requires.short in
    let forward = c.loop-stop.invariant.forward in
    let within = c.loop-stop.invariant.within in
    omega arith

pub loop-stop-smaller : goal.loop-stop-smaller
loop-stop-smaller c =
    let h = c.in-Some.ensures in omega (arith, h.5, h.6, h.7)

pub loop-stop-preserved : goal.loop-stop-preserved
loop-stop-preserved c =
    summed-next _ _ _ _ _ _ c.loop-stop.invariant _ _ _ c.in-Some.ensures c.next-summary.ensures

pub returns : goal.returns
returns c =
    let it = summed-all _ _ _ _ _ _ c.loop-stop.invariant _ (beginning_root _ _ c.start-summary.ensures) c.in_default.ensures in
    record { summary = it.0; next = it.1 }
