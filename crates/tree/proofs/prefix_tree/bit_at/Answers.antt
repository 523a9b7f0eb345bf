-- `tree::prefix_tree::bit_at` meets its contract: a bit stands in the byte that holds its eight.
use mathlib.Core.Path.{sym}
use native.Mathlib.Omega.{arith}
use Rattle.tree.proofs.BitLaws.{bit_of}
use Rattle.tree.proofs.prefix_tree.bit_at.Goals as goal

pub returns : goal.returns
returns c = sym (bit_of c.args.output c.args.i (omega (arith, c.well_formed.0.1.0.1)))
