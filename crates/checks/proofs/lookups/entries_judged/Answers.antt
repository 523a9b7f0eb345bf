-- `checks::lookups::entries_judged` meets its contract: the entries before the offset are judged.
use mathlib.Core.Path.{refl}
use native.Mathlib.Omega.{arith}
use Rattle.checks.proofs.ResultsLaws.{judged-none, judged-next, judged-all}
use Rattle.checks.proofs.lookups.entries_judged.Goals as goal

pub loop-first-init : goal.loop-first-init
loop-first-init c =
    let p = c.requires in
    judged-none _ _ _ c.start-results.ensures p.lines p.loose

pub next_entry-requires : goal.next_entry-requires
next_entry-requires c = record { lines = c.loop-first.invariant.lines; loose = c.loop-first.invariant.loose; within = c.loop-first.invariant.within }

pub overflow_add-at : goal.overflow_add-at
overflow_add-at c =
    let h = c.in-Some.ensures in omega (arith, h.4, h.5)

pub overflow_add-at-in-Some : goal.overflow_add-at-in-Some
overflow_add-at-in-Some c =
    let h = c.in-Some.ensures in omega (arith, h.4, h.5)

pub lookups_judged-summed-requires : goal.lookups_judged-summed-requires
lookups_judged-summed-requires c =
    let h = c.in-Some.ensures in
    record { lines = h.3; within = h.5; short = c.requires.short }

pub loop-first-smaller : goal.loop-first-smaller
loop-first-smaller c =
    let h = c.in-Some.ensures in
    let after = c.lookups_judged-summed.ensures.next in
    omega (arith, h.4, after.forward, after.within)

pub loop-first-preserved : goal.loop-first-preserved
loop-first-preserved c =
    let summary = c.lookups_judged-summed.ensures.summary in
    let after = c.lookups_judged-summed.ensures.next in
    judged-next _ _ _ _ c.loop-first.invariant _ _ _ _ _ _ _ c.in-Some.ensures
    c.prefix_root_at-root.ensures
    c.position_at-position.ensures refl summary after c.next-results.ensures

pub returns : goal.returns
returns c =
    judged-all _ _ _ _ c.loop-first.invariant c.in_default.ensures
