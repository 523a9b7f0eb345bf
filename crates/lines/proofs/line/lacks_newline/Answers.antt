-- `lines::line::lacks_newline` meets its contract: where no newline was met, the next one is the
-- same from the offset passed on.
use mathlib.Core.Path.{◌≡◌, refl, sym, ◌∙◌}
use mathlib.Core.Bool.{Bool, true, false, ◌||◌, false≢true}
use Prim.Native.Nat.{ℕ, ◌+◌, ◌-◌, ◌<◌}
use native.Mathlib.Omega.{arith}
use lib.Dec.{eqb}
use lib.ListN.{length, take, drop, get_or, length-drop}
use lib.Seq.{length-take-le}
use Rattle.std.proofs.lemmas.List.{get_or-take, get_or-drop}
use Rattle.lists.specs.Lists.{Bytes}
use Rattle.lines.specs.Line.{before, newline}
use Rattle.lines.proofs.OffsetLaws.{span_more}
use borrow.Author.Tests.{eqb-false}
use Rattle.lines.proofs.line.lacks_newline.Goals as goal

-- one byte more
step : (s : Bytes) (at k : ℕ) (hit : Bool) → at + k < length s
    → (hit ≡ false → at + k + length (before newline (drop (at + k) s)) ≡ at + length (before newline (drop at s)))
    → (hit || eqb (get_or s (at + k) 0) 10) ≡ false
    → at + (k + 1) + length (before newline (drop (at + (k + 1)) s)) ≡ at + length (before newline (drop at s))
step s at k true h v e = absurd (false≢true (sym e))
step s at k false h v e =
    let n : at + (k + 1) ≡ at + k + 1 = omega arith in
    let m = span_more newline s (at + k) h (eqb-false (get_or s (at + k) 0) 10 e) in
    let w = v refl in
    rw n (omega (arith, m, w))

pub loop-b-preserved : goal.loop-b-preserved
loop-b-preserved c =
    let a = c.args in
    let s = a.s.now in
    let k = c.loop-b.b-index in
    let m = a.at + a.count - a.at in
    let n : length (take m (drop a.at s)) ≡ m = length-take-le m (drop a.at s) (omega (arith, length-drop a.at s)) in
    let e : get_or (take m (drop a.at s)) k 0 ≡ get_or s (a.at + k) 0 =
    get_or-take m (drop a.at s) k 0 (omega (arith, n)) ∙ get_or-drop a.at s k 0 in
    rw e (step s a.at k c.loop-b.hit (omega (arith, n)) c.loop-b.invariant)
