-- `checks::call::value` meets its contract: where the output has no more bytes than the length, the
-- first ones are all of them.
use mathlib.Core.Path.{sym}
use native.Mathlib.Omega.{arith}
use lib.Seq.{take_all}
use Rattle.hash.proofs.BytesLaws.{part_count}
use Rattle.checks.proofs.call.value.Goals as goal

pub returns-then-output-length : goal.returns-then-output-length
returns-then-output-length c = let a = c.args in sym (take_all a.length a.output.now (omega (arith, c.if-output-length.true)))

pub slice_bounds-result-end : goal.slice_bounds-result-end
slice_bounds-result-end c = part_count _ _ c.if-output-length.false
