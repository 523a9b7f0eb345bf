-- `checks::given::version_fits` meets its contract: no version of the map before i is above this
-- one, so those from i on decide.
use mathlib.Core.Path.{◌≡◌}
use Prim.Native.Nat.{ℕ}
use lib.Dec.{ltb}
use lib.ListN.{drop}
use Rattle.lists.specs.Lists.{any}
use Rattle.checks.proofs.request.version_fits.Given as goal

abbrev pub invariant-loop-other : goal.invariant-loop-other
invariant-loop-other l = any (λ (v : ℕ). ltb l.version v) (drop l.other-index l.versions) ≡ any (λ (v : ℕ). ltb l.version v) l.versions
