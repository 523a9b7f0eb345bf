-- `inputs::state_writer::put_pairs` meets its contract: the lines of the pairs so far are written,
-- and those of the pairs that are left follow them.
use mathlib.Core.Path.{◌≡◌}
use lib.ListN.{length}
use Rattle.rules.specs.StateText.{write_pair}
use Rattle.inputs.specs.State.{map_of}
use Rattle.inputs.proofs.StateWriterLaws.{TextsTo}
use Rattle.inputs.proofs.state_writer.put_pairs.Given as goal

abbrev pub invariant-loop-position : goal.invariant-loop-position
invariant-loop-position l =
    let ps = l.position-iterator.a.rest.now in
    let vs = l.position-iterator.b.rest.now in
    (length ps ≡ length vs)
    × TextsTo write_pair l.initial.out l.at (map_of l.positions l.versions) (map_of ps vs) l.offset l.out
