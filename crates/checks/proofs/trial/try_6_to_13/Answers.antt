-- `checks::trial::try_6_to_13` meets its contract: 6 to 8 are tried, and 9 to 13 on what they let
-- pass.
use mathlib.Core.Path.{◌≡◌, ap}
use native.Mathlib.Omega.{arith}
use borrow.Author.Rules.{rules}
use Rattle.std.specs.Prelude.{Err}
use Rattle.inputs.specs.Refusal.{number_in}
use Rattle.checks.proofs.Trial6to14Laws.{label-fits, first-refused, first-passed, first-possible}
use Rattle.checks.proofs.trial.try_6_to_13.Goals as goal

pub try_6_to_8-requires : goal.try_6_to_8-requires
try_6_to_8-requires c =
    let P = c.requires in
    record { fields = P.offsets.0; identifier = omega (arith, P.identifier); label = label-fits P }

pub returns-in_err-try_6_to_8 : goal.returns-in_err-try_6_to_8
returns-in_err-try_6_to_8 c =
    let e : c.from_residual.result ≡ Err c.in_err-try_6_to_8.field-0.0 = search rules in
    rw e
    (first-refused c.requires _ _ c.try_6_to_8.ensures c.in_err-try_6_to_8.field-0.0
    (ap number_in c.in_err-try_6_to_8.was))

pub try_9_to_13-requires : goal.try_9_to_13-requires
try_9_to_13-requires c =
    let P = c.requires in
    record {
      possible = first-possible P _ _ c.try_6_to_8.ensures (ap number_in c.in_ok-try_6_to_8.was);
      label = label-fits P;
    }

pub returns : goal.returns
returns c =
    first-passed c.requires _ _ c.try_6_to_8.ensures (ap number_in c.in_ok-try_6_to_8.was) _ c.try_9_to_13.ensures
