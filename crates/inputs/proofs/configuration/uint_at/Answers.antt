-- `inputs::configuration::uint_at` meets its contract: enough bytes stand at the offset, or there
-- is no number.
use mathlib.Core.Path.{◌≡◌, refl, sym, ◌∙◌, ap}
use mathlib.Core.Logic.{⊎_elim}
use Prim.Native.Nat.{◌+◌, ◌-◌}
use native.Mathlib.Omega.{arith}
use lib.ListN.{length, take, drop, length-drop}
use lib.Seq.{take_all}
use Rattle.rules.specs.Encoding.{uint}
use Rattle.inputs.proofs.ConfigurationReadingLaws.{no-uint, uint-there}
use Rattle.inputs.proofs.configuration.uint_at.Goals as goal

pub returns-in_err-get-clause-result_value : goal.returns-in_err-get-clause-result_value
returns-in_err-get-clause-result_value c =
    let a = c.args in
    let few = c.in_err-get.ensures.lookup in
    let positive = c.requires in
    rw c.from_residual.ensures
    (sym (no-uint a.s.now a.at a.width (⊎_elim (λ h. omega arith) (λ h. omega arith) few.0)))

pub returns-in_err-bytes-clause-result_value : goal.returns-in_err-bytes-clause-result_value
returns-in_err-bytes-clause-result_value c =
    let a = c.args in
    let rest = c.in_ok-get.ensures.lookup in
    let few = c.in_err-bytes.ensures.lookup in
    rw c.from_residual-in_err-bytes.ensures
    (sym (no-uint a.s.now a.at a.width (⊎_elim (λ h. omega arith) (λ h. omega arith) few.0)))

pub returns-clause-result_value : goal.returns-clause-result_value
returns-clause-result_value c =
    let a = c.args in
    let rest = c.in_ok-get.ensures.lookup in
    let front = c.in_ok-bytes.ensures.lookup in
    let n : a.at + a.width - a.at ≡ a.width = omega arith in
    let z : a.width - 0 ≡ a.width = omega arith in
    let whole : c.in_ok-get.field-0.now ≡ drop a.at a.s.now =
    rest.0.2 ∙ take_all (length a.s.now - a.at) (drop a.at a.s.now) (omega (arith, length-drop a.at a.s.now)) in
    let bytes : c.in_ok-bytes.bytes.now ≡ take (a.at + a.width - a.at) (drop a.at a.s.now) =
    front.0.2 ∙ rw (whole, n, z) refl in
    sym (uint-there a.s.now a.at a.width _ c.uint_of.result refl (omega arith) (c.uint_of.ensures ∙ ap uint bytes))
