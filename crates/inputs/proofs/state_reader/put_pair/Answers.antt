-- `inputs::state_reader::put_pair` meets its contract: beyond the arrays a store changes nothing.
use mathlib.Core.Path.{refl}
use native.Mathlib.Omega.{arith}
use lib.Seq.{set_out}
use Rattle.inputs.specs.StateReader.{with_pair}
use Rattle.inputs.proofs.state_reader.put_pair.Goals as goal
use Rattle.inputs.proofs.state_reader.put_pair.Goals.{then-map-lt-PAIRS, else-map-lt-PAIRS}

pub returns : goal.returns
unfolding with_pair
returns c =
    let m = c.args.map.now in
    elim c.if-map-lt-PAIRS.branch [
      | then-map-lt-PAIRS w ↦ rw w.map-is refl
      | else-map-lt-PAIRS w ↦ rw (w.map-is, set_out m.positions m.count c.args.position (omega arith), set_out m.versions m.count c.args.version (omega arith)) refl
    ]
