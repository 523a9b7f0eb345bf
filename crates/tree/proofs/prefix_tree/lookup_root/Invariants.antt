-- `tree::prefix_tree::lookup_root` meets its contract: from the siblings that are left the value
-- leads to the root.
use mathlib.Core.Path.{◌≡◌}
use lib.ListN.{take}
use Rattle.tree.specs.LogText.{values_in}
use Rattle.tree.specs.PrefixTree.{bits, value_above}
use Rattle.tree.proofs.prefix_tree.lookup_root.Given as goal

abbrev pub invariant-loop-depth : goal.invariant-loop-depth
invariant-loop-depth l =
    value_above (take l.depth (bits l.output)) (take l.depth (values_in l.siblings)) l.value ≡ value_above (bits l.output) (values_in l.siblings) l.initial.value
