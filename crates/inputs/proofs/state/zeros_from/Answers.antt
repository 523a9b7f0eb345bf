-- `inputs::state::zeros_from` meets its contract: the bytes met and those left decide together.
use mathlib.Core.Path.{◌≡◌, ◌∙◌, ap}
use Prim.Native.Nat.{ℕ, ◌+◌, ◌-◌, min}
use native.Mathlib.Omega.{arith}
use lib.Dec.{eqb}
use lib.ListN.{length, take, drop, get_or, length-drop}
use lib.Seq.{length-take-le}
use Rattle.std.proofs.lemmas.List.{drop_min, get_or-take, get_or-drop}
use Rattle.lists.specs.Lists.{Bytes, all}
use Rattle.inputs.specs.State.{zeros_from}
use Rattle.inputs.proofs.RoomLaws.{zeros_more, zeros_past}
use Rattle.inputs.proofs.state.zeros_from.Goals as goal

-- how many bytes the loop looks at
looked : (s : Bytes) (m : ℕ) → length (take (length s - m) (drop m s)) ≡ length s - m
looked s m = length-take-le (length s - m) (drop m s) (omega (arith, length-drop m s))

pub loop-x-init : goal.loop-x-init
unfolding zeros_from
loop-x-init c =
    let a = c.args in
    let n : min a.from (length a.s.now) + 0 ≡ min a.from (length a.s.now) = omega arith in
    rw n (ap (all (λ (x : ℕ). eqb x 0)) (drop_min a.from a.s.now))

pub loop-x-preserved : goal.loop-x-preserved
loop-x-preserved c =
    let s = c.args.s.now in
    let k = c.loop-x.x-index in
    let m = c.min.result in
    let r : m ≡ min c.args.from (length s) = c.min.ensures in
    let n = looked s m in
    let e : get_or (take (length s - m) (drop m s)) k 0 ≡ get_or s (m + k) 0 =
    get_or-take (length s - m) (drop m s) k 0 (omega (arith, n)) ∙ get_or-drop m s k 0 in
    let f : m + (k + 1) ≡ m + k + 1 = omega arith in
    rw (e, ← r, f) (zeros_more s (m + k) c.loop-x.zeros (omega (arith, n)) ∙ rw r c.loop-x.invariant)

pub returns : goal.returns
returns c =
    let a = c.args in
    let s = a.s.now in
    let n = looked s c.min.result in
    zeros_past s (min a.from (length s) + c.loop-x.x-index) c.loop-x.zeros (omega (arith, n, c.min.ensures)) ∙ c.loop-x.invariant
