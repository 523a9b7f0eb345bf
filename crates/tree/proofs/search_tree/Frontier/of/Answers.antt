-- `tree::search_tree::Frontier::of` meets its contract: what is stored so far are the first entries
-- of the frontier, and those from `from` on are left.
use mathlib.Core.Path.{sym, subst}
use mathlib.Core.List.{List}
use Prim.Native.Nat.{ℕ, ◌<◌}
use native.Mathlib.Omega.{arith}
use lib.Count.{ones, ones-le}
use lib.ListN.{length}
use Rattle.std.proofs.lemmas.List.{take-replicate}
use Rattle.tree.specs.SearchTree.{frontier, frontier_capacity}
use Rattle.tree.proofs.FrontierLaws.{frontier_length}
use Rattle.tree.proofs.FrontierFillLaws.{StoringOnes, storing_ones_start, storing_ones_length}
use Rattle.tree.proofs.FrontierFillLaws.{storing_ones_whole, storing-ones-more, storing-ones-next}
use Rattle.tree.proofs.search_tree.Frontier.of.Goals as goal

pub overflow_add-from : goal.overflow_add-from
overflow_add-from c =
    let n = c.args.tree_size in
    let turn = c.loop-slot in
    let w : turn.slot-index < length (frontier n) =
    omega (arith, storing_ones_length n turn.from turn.slot-index turn.slot-items turn.invariant, frontier_length n) in
    omega (
      arith,
      c.next_on_frontier-position.ensures,
      storing-ones-more n turn.slot-items turn.from turn.slot-index turn.invariant w,
      c.ranges.tree_size.fits,
    )

pub loop-slot-preserved : goal.loop-slot-preserved
loop-slot-preserved c =
    let n = c.args.tree_size in
    let turn = c.loop-slot in
    let w : turn.slot-index < length (frontier n) =
    omega (arith, storing_ones_length n turn.from turn.slot-index turn.slot-items turn.invariant, frontier_length n) in
    rw c.next_on_frontier-position.ensures
    (storing-ones-next n turn.slot-items turn.from turn.slot-index turn.invariant w)

pub loop-slot-init : goal.loop-slot-init
loop-slot-init c =
    let n = c.args.tree_size in
    subst (λ (l : List ℕ). StoringOnes n l 0 0)
    (sym (take-replicate (ones n) frontier_capacity 0 (ones-le 64 n c.ranges.tree_size.fits))) (storing_ones_start n)

pub returns : goal.returns
returns c =
    let n = c.args.tree_size in (
      storing_ones_whole n c.loop-slot.from c.loop-slot.slot-index c.loop-slot.slot-items
          c.ranges.tree_size.fits c.loop-slot.invariant (omega arith),
      sym (frontier_length n),
    )
