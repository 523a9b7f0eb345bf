-- `inputs::configuration::uint_of` meets its contract: what is read so far and the bytes that are
-- left encode the number.
use mathlib.Core.Path.{sym, ◌∙◌}
use native.Mathlib.Numerals.{add-one}
use native.Mathlib.Omega.{arith}
use lib.ListN.{get_or}
use Rattle.rules.proofs.EncodingLaws.{uint_after, byte_fits}
use Rattle.inputs.proofs.ConfigurationReadingLaws.{byte_taken, bytes_taken}
use Rattle.inputs.proofs.configuration.uint_of.Goals as goal

pub loop-byte-init : goal.loop-byte-init
loop-byte-init c = (omega arith, omega arith, uint_after c.args.s.now)

pub loop-byte-preserved : goal.loop-byte-preserved
loop-byte-preserved c =
    let l = c.loop-byte in
    let s = c.args.s.now in (
      omega arith,
      rw add-one
          (byte_fits l.byte-index l.value (get_or s l.byte-index 0) l.invariant.1
          (omega (arith, c.type_inv.s l.byte-index))),
      l.invariant.2 ∙ byte_taken s l.byte-index l.value (omega arith),
    )

pub returns : goal.returns
returns c = let l = c.loop-byte in sym (l.invariant.2 ∙ bytes_taken c.args.s.now l.byte-index l.value (omega arith))
