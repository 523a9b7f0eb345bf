-- `checks::map::version_there` meets its contract: the pairs passed so far stand elsewhere.
use native.Mathlib.Omega.{arith}
use Rattle.checks.proofs.MovedPairLaws.{version-found, version-passed, version-none}
use Rattle.checks.proofs.map.version_there.Goals as goal

pub returns-then-positions-i : goal.returns-then-positions-i
returns-then-positions-i c = version-found _ _ _ c.loop-i.invariant.2 c.requires (omega arith) c.if-positions-i.true

pub loop-i-preserved : goal.loop-i-preserved
loop-i-preserved c = (
  omega arith,
  c.loop-i.invariant.1,
  version-passed _ _ _ c.loop-i.invariant.2 c.requires (omega arith)
      c.if-positions-i.false,
)

pub returns : goal.returns
returns c = version-none c.args.map _ c.loop-i.i c.loop-i.invariant.2 (omega arith)
