-- `inputs::state::zeros_from` meets its contract: the bytes met and those left decide together.
use mathlib.Core.Path.{◌≡◌}
use mathlib.Core.Bool.{◌&&◌}
use Prim.Native.Nat.{◌+◌, min}
use lib.ListN.{length}
use Rattle.inputs.specs.State.{zeros_from}
use Rattle.inputs.proofs.state.zeros_from.Given as goal

abbrev pub invariant-loop-x : goal.invariant-loop-x
invariant-loop-x l = (l.zeros && zeros_from (min l.from (length l.fn.s) + l.x-index) l.fn.s) ≡ zeros_from l.from l.fn.s
