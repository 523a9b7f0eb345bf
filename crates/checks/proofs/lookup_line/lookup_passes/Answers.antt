-- `checks::lookup_line::lookup_passes` meets its contract: each way of trying a lookup is with the
-- output and the commitment that the rules name.
use native.Mathlib.Omega.{arith}
use Rattle.inputs.proofs.VrfOutputLaws.{found_below}
use Rattle.checks.proofs.TriedLookupLaws.{passes-absent, passes-untried, passes-target, passes-below}
use Rattle.checks.proofs.TriedLookupLaws.{passes-monitored, passes-missing}
use Rattle.checks.proofs.lookup_line.lookup_passes.Goals as goal
use Rattle.checks.proofs.lookup_line.lookup_passes.Goals.{in-Search+else-sought-version+else-version-sought, in-Monitor}

pub returns-in_default : goal.returns-in_default
returns-in_default c = passes-missing _ _ _ _ c.requires.version c.in_default.ensures.rising _

pub returns-then-sought-version : goal.returns-then-sought-version
returns-then-sought-version c =
    let p = c.requires in
    passes-untried _ _ _ _ _ _ p.version c.in-Some.ensures.rising p.included c.in-Search.is
    c.if-included.true c.if-sought-version.true

pub returns-then-version-sought : goal.returns-then-version-sought
returns-then-version-sought c =
    let p = c.requires in
    passes-target _ _ _ _ _ _ p.version c.in-Some.ensures.rising p.included c.in-Search.is
    c.if-version-sought.true _ c.lookup_reaches.ensures

pub offset_bounds-sought-index : goal.offset_bounds-sought-index
offset_bounds-sought-index c =
    omega (arith, found_below _ _ _ c.in-Some.ensures.any, c.args.sought.few)

pub bounds-sought-index : goal.bounds-sought-index
bounds-sought-index c =
    omega (arith, found_below _ _ _ c.in-Some.ensures.any, c.args.sought.few)

pub returns-then-included : goal.returns-then-included
returns-then-included c =
    let p = c.requires in
    elim c.match-sought.branch [
      | in-Search+else-sought-version+else-version-sought w ↦ passes-below _ _ _ _ _ _ p.version c.in-Some.ensures.rising p.included _ _ c.value_at-commitment.ensures
          c.lookup_reaches-then-included.ensures w.in-Search.is (omega arith)
      | in-Monitor w ↦ passes-monitored _ _ _ _ _ _ p.version c.in-Some.ensures.rising p.included _ _ c.value_at-commitment.ensures
          c.lookup_reaches-then-included.ensures w.in-Monitor.is
    ]

pub returns : goal.returns
returns c =
    let p = c.requires in
    passes-absent _ _ _ _ _ _ p.version c.in-Some.ensures.rising p.included c.if-included.false _ _
    c.lookup_reaches-2.ensures
