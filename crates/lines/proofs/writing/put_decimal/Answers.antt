-- `lines::writing::put_decimal` meets its contract: the digits of what is left of the number and
-- those stored after them stay its digits.
use mathlib.Core.Path.{refl, sym}
use mathlib.Core.List.{append-nil}
use native.Mathlib.Omega.{arith}
use Rattle.lines.specs.Number.{decimal}
use Rattle.lines.proofs.NumberLaws.{decimal_short}
use Rattle.lines.proofs.writing.put_decimal.Goals as goal

pub loop-rest-init : goal.loop-rest-init
loop-rest-init c =
    let n = c.args.n in
    (omega arith, refl, decimal_short 19 n (omega arith), sym (append-nil (decimal n)))
