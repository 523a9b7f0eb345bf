-- `inputs::vrf_outputs::output_of` meets its contract: the output is the bytes after the version.
use mathlib.Core.Path.{◌∙◌}
use native.Mathlib.Omega.{arith}
use lib.ListN.{drop, length-drop}
use lib.Seq.{take_all}
use Rattle.rules.specs.VrfOutputs.{read_record}
use Rattle.inputs.proofs.vrf_outputs.output_of.Goals as goal

pub returns : goal.returns
unfolding read_record
returns c =
    let t = c.args.bytes.now in
    c.copy_from_slice.ensures.after ∙ take_all 32 (drop 4 t) (omega (arith, length-drop 4 t))
