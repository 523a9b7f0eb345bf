-- `checks::entries::entries_asked` meets its contract: the entries passed so far are as asked,
-- their times were told, and the versions of monitoring are those of the pairs marked.
use mathlib.Core.Path.{refl, sym, ◌∙◌}
use native.Mathlib.Omega.{arith}
use Rattle.checks.proofs.EntriesAskedLaws.{followed-start, followed-end, followed-less}
use Rattle.checks.proofs.EntriesAskedLaws.{followed-missing, followed-elsewhere, followed-unasked}
use Rattle.checks.proofs.EntriesAskedLaws.{followed-next}
use Rattle.checks.proofs.entries.entries_asked.Goals as goal

pub loop-kind-init : goal.loop-kind-init
loop-kind-init c =
    let lines = c.requires.lines in
    let loose = c.requires.loose in
    let short = c.requires.short in
    let many = c.requires.many in
    let pairs = c.requires.pairs in
    (refl, followed-start _ _ _ _ _ _ _ _ lines loose _ pairs _ c.start-timestamps.ensures)

pub returns-then-tree_size-position : goal.returns-then-tree_size-position
returns-then-tree_size-position c =
    let it = followed-end _ _ _ _ _ _ _ _ _ _ _ _ c.loop-kind.invariant.1 _ c.next_asked-position.ensures
    c.if-tree_size-position.true in
    rw c.then_some.ensures (record { asked = it.0; timestamps = it.1.0; marks = it.1.1 })

pub next_entry-requires : goal.next_entry-requires
next_entry-requires c =
    let f = c.loop-kind.invariant.1 in record { lines = f.lines; loose = f.loose; within = f.within }

pub returns-in_err-first : goal.returns-in_err-first
returns-in_err-first c =
    let it = followed-missing _ _ _ _ _ _ _ _ _ _ _ _ c.loop-kind.invariant.1 _ c.next_asked-position.ensures
    (omega (arith, c.if-tree_size-position.false)) c.in_err-first.ensures in
    rw c.from_residual.ensures (record { asked = it.0; timestamps = it.1.0; marks = it.1.1 })

pub overflow_add-at : goal.overflow_add-at
overflow_add-at c = let n = c.in_ok-first.ensures in omega (arith, n.4, n.5)

pub returns-then-position_at-position : goal.returns-then-position_at-position
returns-then-position_at-position c =
    let p = c.position_at in
    let it = followed-elsewhere _ _ _ _ _ _ _ _ _ _ _ _ c.loop-kind.invariant.1 _ c.next_asked-position.ensures
    (omega (arith, c.if-tree_size-position.false))
    _ c.in_ok-first.ensures _ p.ensures c.if-position_at-position.true in
    record { asked = it.0; timestamps = it.1.0; marks = it.1.1 }

pub entry_asked-requires : goal.entry_asked-requires
entry_asked-requires c =
    let n = c.in_ok-first.ensures in
    record { lines = n.3; within = n.5; pairs = c.requires.pairs.0; marks = c.loop-kind.invariant.1.marks.alike }

pub returns-in_err-next : goal.returns-in_err-next
returns-in_err-next c =
    let p = c.position_at in
    let asked = c.in_err-next.ensures.asked in
    let marks = c.in_err-next.ensures.marks in
    let it = followed-unasked _ _ _ _ _ _ _ _ _ _ _ _ c.loop-kind.invariant.1 _ c.next_asked-position.ensures
    (omega (arith, c.if-tree_size-position.false))
    _ c.in_ok-first.ensures _ p.ensures c.if-position_at-position.false _ asked _ marks refl in
    rw c.from_residual-in_err-next.ensures (record { asked = it.0; timestamps = it.1.0; marks = it.1.1 })

pub overflow_add-at-in-loop-kind : goal.overflow_add-at-in-loop-kind
overflow_add-at-in-loop-kind c =
    let n = c.in_ok-first.ensures in
    omega (arith, n.4, n.5)

pub overflow_add-from : goal.overflow_add-from
overflow_add-from c = omega (arith, c.if-tree_size-position.false, c.requires.many)

pub loop-kind-smaller : goal.loop-kind-smaller
loop-kind-smaller c =
    followed-less _ _ _ _ _ _ _ _ _ _ _ _ c.loop-kind.invariant.1 _ c.next_asked-position.ensures
    (omega (arith, c.if-tree_size-position.false))

pub loop-kind-preserved : goal.loop-kind-preserved
loop-kind-preserved c =
    let (same, f) = c.loop-kind.invariant in
    let p = c.position_at in
    let asked = c.in_ok-next.ensures.asked in
    let after = c.in_ok-next.ensures.next in
    let marks = c.in_ok-next.ensures.marks in
    let next =
    followed-next _ _ _ _ _ _ _ _ _ _ _ _ f _ c.next_asked-position.ensures
    (omega (arith, c.if-tree_size-position.false))
    _ c.in_ok-first.ensures _ p.ensures c.if-position_at-position.false _ asked _ marks _
    c.timestamp_at-timestamp.ensures
    refl _ after _ c.next-timestamps.ensures in
    (next.marks.alike ∙ sym f.marks.alike ∙ same, next)
