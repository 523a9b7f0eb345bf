-- `inputs::text_line::line_from` meets its contract: the newline that is found ends the line.
use mathlib.Core.Path.{refl, sym}
use mathlib.Core.Option.{some}
use native.Mathlib.Omega.{arith}
use Rattle.lines.proofs.SectionLaws.{line_here}
use Rattle.inputs.proofs.TextLineLaws.{from-open, from_some}
use Rattle.inputs.proofs.text_line.line_from.Goals as goal

pub returns-in_err-stop : goal.returns-in_err-stop
returns-in_err-stop c = rw c.from_residual.ensures (from-open some _ _ (sym c.in_err-stop.ensures))

pub slice_bounds-result-count : goal.slice_bounds-result-count
slice_bounds-result-count c = let h = line_here _ _ _ _ (sym c.in_ok-stop.ensures) in omega arith

pub slice_bounds-result-start : goal.slice_bounds-result-start
slice_bounds-result-start c = let h = line_here _ _ _ _ (sym c.in_ok-stop.ensures) in omega arith

pub slice_bounds-result-end : goal.slice_bounds-result-end
slice_bounds-result-end c = let h = line_here _ _ _ _ (sym c.in_ok-stop.ensures) in omega arith

pub returns : goal.returns
returns c = from_some some _ _ _ _ _ (sym c.in_ok-stop.ensures) refl
