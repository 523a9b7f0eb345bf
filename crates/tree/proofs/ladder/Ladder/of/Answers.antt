-- `tree::ladder::Ladder::of` meets its contract: one law for 2^32 - 1, and for the others the
-- ladder is the one within 32 bits.
use mathlib.Core.Path.{sym, ap, ◌∙◌}
use native.Mathlib.Omega.{arith}
use lib.ListN.{length}
use Rattle.hash.specs.Bytes.{padded}
use Rattle.tree.specs.Ladder.{ladder_capacity}
use Rattle.tree.proofs.LadderFillLaws.{within_some, within_nothing}
use Rattle.tree.proofs.ladder.Ladder.of.Goals as goal

pub returns-then-version-eq4294967295 : goal.returns-then-version-eq4294967295
returns-then-version-eq4294967295 c = within_nothing c.args.version c.if-version-eq4294967295.true

pub returns : goal.returns
returns c =
    let e = within_some c.args.version (omega arith) in
    let (v, l) = c.halved.ensures in
    (v ∙ ap (padded ladder_capacity) (sym e), l ∙ ap length (sym e))
