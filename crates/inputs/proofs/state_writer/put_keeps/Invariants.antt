-- `inputs::state_writer::put_keeps` meets its contract: the lines of the values so far are written,
-- and those of the values that are left follow them.
use mathlib.Core.Path.{◌≡◌}
use Prim.Native.Nat.{◌/◌}
use lib.ListN.{length}
use Rattle.lists.specs.Lists.{runs}
use Rattle.rules.specs.Limits.{hash_length}
use Rattle.inputs.proofs.StateWriterLaws.{ValuesTo}
use Rattle.inputs.proofs.state_writer.put_keeps.Given as goal

abbrev pub invariant-loop-value : goal.invariant-loop-value
invariant-loop-value l =
    (l.value-iterator.size ≡ hash_length)
    × ValuesTo l.initial.out l.at (runs (length l.values / hash_length) hash_length l.values) l.value-iterator.rest.now l.offset l.out
