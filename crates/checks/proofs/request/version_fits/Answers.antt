-- `checks::request::version_fits` meets its contract: no version of the map before i is above this
-- one, so those from i on decide.
use mathlib.Core.Path.{sym, ◌∙◌}
use mathlib.Core.Bool.{true, false}
use borrow.Author.Tests.{lt-ltb, le-ltb}
use Rattle.checks.proofs.RequestLaws.{any_next, any-stops, any-ends, versions-decide}
use Rattle.checks.proofs.request.version_fits.Goals as goal

pub returns-then-version-other : goal.returns-then-version-other
returns-then-version-other c = versions-decide _ _ true c.if-version-gt-GREATEST_VERSION.false (sym c.loop-other.invariant ∙ any-stops _ _ _ c.loop-other-test.true (lt-ltb _ _ c.if-version-other.true))

pub loop-other-preserved : goal.loop-other-preserved
loop-other-preserved c = any_next _ _ _ c.loop-other-test.true (le-ltb _ _ c.if-version-other.false) ∙ c.loop-other.invariant

pub returns : goal.returns
returns c = versions-decide _ _ false c.if-version-gt-GREATEST_VERSION.false (sym c.loop-other.invariant ∙ any-ends _ _ _ c.loop-other-test.false)
