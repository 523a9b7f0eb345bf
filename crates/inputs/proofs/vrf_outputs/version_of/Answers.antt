-- `inputs::vrf_outputs::version_of` meets its contract: the version is what the first four bytes
-- encode.
use native.Mathlib.Omega.{arith}
use Rattle.inputs.proofs.VrfOutputLaws.{version_bytes}
use Rattle.inputs.proofs.vrf_outputs.version_of.Goals as goal

pub returns : goal.returns
returns c = omega (arith, version_bytes c.args.bytes.now (omega arith))
