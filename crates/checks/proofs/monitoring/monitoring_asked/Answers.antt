-- `checks::monitoring::monitoring_asked` meets its contract: what is asked of monitoring, section
-- by section.
use mathlib.Core.Path.{refl, ap, ◌∙◌}
use mathlib.Core.List.{List}
use Prim.Native.Nat.{ℕ, ◌≤◌}
use native.Mathlib.Omega.{arith}
use lib.ListN.{length}
use Rattle.lists.proofs.ListLaws.{first_alike}
use Rattle.rules.specs.Limits.{map_limit}
use Rattle.checks.specs.MonitoredVersions.{counted}
use Rattle.checks.proofs.ShapeLaws.{part_short, first_marks}
use Rattle.checks.proofs.ShapeLaws.{monitoring-not, monitoring-unasked, monitoring-shape}
use Rattle.checks.proofs.monitoring.monitoring_asked.Goals as goal

pub entries_asked-requires-clause-short : goal.entries_asked-requires-clause-short
entries_asked-requires-clause-short c =
    rw c.of.ensures
    (part_short c.args.text.now c.args.call.response.entries.part _ c.requires.possible.triable.short)

pub entries_asked-requires-clause-pairs : goal.entries_asked-requires-clause-pairs
entries_asked-requires-clause-pairs c =
    let p = c.requires.possible.pairs in
    let n : length c.args.versions.now ≤ map_limit = omega (arith, p.alike, p.few) in
    (p, first_alike _ _ _ n)

pub returns-in_err-timestamps : goal.returns-in_err-timestamps
returns-in_err-timestamps c =
    rw c.from_residual.ensures
    (λ call i m.
    monitoring-not i c.requires.finding _ _ m c.requires.possible.pairs.alike refl c.of.ensures
    c.args.commitments.now _ c.in_err-timestamps.ensures.asked refl)

pub monitoring_steps-requires-clause-short : goal.monitoring_steps-requires-clause-short
monitoring_steps-requires-clause-short c =
    rw c.of-2.ensures
    (part_short c.args.text.now c.args.call.response.steps.part _ c.requires.possible.triable.short)

pub returns-in_err-outputs : goal.returns-in_err-outputs
returns-in_err-outputs c =
    let vs = c.args.versions.now in
    let (is_marked, is_counted) = c.in_ok-timestamps.ensures.marks in
    rw c.from_residual-in_err-outputs.ensures
    (λ call i m.
    monitoring-unasked i c.requires.finding _ _ m c.requires.possible.pairs.alike c.of-2.ensures c.of.ensures
    c.args.commitments.now _
    c.in_ok-timestamps.ensures.asked _ refl
    (ap (λ (ms : List ℕ). counted ms vs) (first_marks vs c.entries_asked.new.marks _ is_marked) ∙ is_counted refl)
    c.in_err-outputs.ensures)

pub returns : goal.returns
returns c =
    let vs = c.args.versions.now in
    let (is_marked, is_counted) = c.in_ok-timestamps.ensures.marks in
    λ call i m.
    monitoring-shape i c.requires.finding _ _ m c.requires.possible.pairs.alike c.of-2.ensures c.of.ensures _ _
    c.in_ok-timestamps.ensures.asked _ refl
    (ap (λ (ms : List ℕ). counted ms vs) (first_marks vs c.entries_asked.new.marks _ is_marked) ∙ is_counted refl)
    (record { outputs = c.in_ok-outputs.outputs; timestamps = c.in_ok-timestamps.timestamps })
    c.in_ok-outputs.ensures c.in_ok-timestamps.ensures.timestamps
