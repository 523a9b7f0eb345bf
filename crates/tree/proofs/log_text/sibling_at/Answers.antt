-- `tree::log_text::sibling_at` meets its contract: the value stands where its number says, or beyond
-- the last.
use mathlib.Core.Path.{◌≡◌, sym, ap, ◌∙◌}
use Prim.Native.Nat.{ℕ, ◌+◌, ◌*◌, ◌/◌}
use native.Mathlib.Omega.{arith}
use lib.ListN.{length, take, drop}
use Rattle.lines.specs.Layout.{value_digits}
use Rattle.tree.specs.LogText.{value_in}
use Rattle.tree.proofs.DigitLaws.{by_order}
use Rattle.tree.proofs.LogTextLaws.{sibling_some, sibling_none}
use Rattle.tree.proofs.log_text.sibling_at.Goals as goal

pub returns : goal.returns
returns c =
    let s = c.args.siblings.now in
    let i = c.args.i in
    let v = c.value_in_line.ensures in
    let e : value_digits * i + 0 ≡ value_digits * i = omega arith in
    by_order i (length s / value_digits) (λ h. v.some h ∙ ap (λ (k : ℕ). value_in (take value_digits (drop k s))) e ∙ sym (sibling_some s i h)) (λ h. v.none h ∙ sym (sibling_none s i h))
