-- `inputs::vrf_outputs::find_output` meets its contract: where versions rise, a record of the
-- version stands between the two bounds.
use mathlib.Core.Path.{◌≡◌, refl, sym, ◌∙◌, ap, subst}
use Prim.Native.Nat.{◌+◌, ◌-◌, ◌/◌}
use native.Mathlib.Omega.{arith}
use Rattle.rules.specs.VrfOutputs.{VrfOutput}
use Rattle.inputs.specs.VrfOutputs.{found_output, record_at}
use Rattle.inputs.proofs.VrfOutputLaws.{chunk_at, Between, between_all, between_above, between_below, none_between}
use Rattle.inputs.proofs.VrfOutputLaws.{found_record, found_nothing}
use Rattle.inputs.proofs.vrf_outputs.find_output.Goals as goal

pub loop-low-init : goal.loop-low-init
loop-low-init c =
    let a = c.args in
    (omega arith, omega (arith, c.as_chunks.ensures.front_len), subst (Between a.outputs.now a.version 0) (sym c.as_chunks.ensures.front_len) (between_all a.outputs.now a.version))

pub returns-then-there-version : goal.returns-then-there-version
unfolding found_output
returns-then-there-version c =
    let a = c.args in
    let s = a.outputs.now in
    let m = c.loop-low.low + (c.loop-low.high - c.loop-low.low) / 2 in
    let w = c.version_of-there.ensures ∙ ap (λ (x : VrfOutput). x.version) (chunk_at s _ m _ c.as_chunks.ensures.front (omega arith)) in
    let o : c.output_of.result ≡ (record_at s m).output =
    c.output_of.ensures ∙ ap (λ (x : VrfOutput). x.output) (chunk_at s _ m _ c.as_chunks.ensures.front (omega arith)) in
    let it = found_record s a.version m _ (omega arith) (sym w ∙ c.if-there-version.true) (rw o refl) in
    record { rising = it.0; any = it.1 }

pub loop-low-preserved-then-there-version-2 : goal.loop-low-preserved-then-there-version-2
loop-low-preserved-then-there-version-2 c =
    let a = c.args in
    let s = a.outputs.now in
    let m = c.loop-low.low + (c.loop-low.high - c.loop-low.low) / 2 in
    let w = c.version_of-there.ensures ∙ ap (λ (x : VrfOutput). x.version) (chunk_at s _ m _ c.as_chunks.ensures.front (omega arith)) in
    (omega arith, omega arith, between_above s a.version c.loop-low.low c.loop-low.high m (omega arith) (omega (arith, w)) c.loop-low.invariant.2)

pub loop-low-preserved : goal.loop-low-preserved
loop-low-preserved c =
    let a = c.args in
    let s = a.outputs.now in
    let m = c.loop-low.low + (c.loop-low.high - c.loop-low.low) / 2 in
    let w = c.version_of-there.ensures ∙ ap (λ (x : VrfOutput). x.version) (chunk_at s _ m _ c.as_chunks.ensures.front (omega arith)) in
    (omega arith, omega arith, between_below s a.version c.loop-low.low c.loop-low.high m (omega (arith, w)) c.loop-low.invariant.2)

pub returns : goal.returns
unfolding found_output
returns c =
    let a = c.args in
    let it = found_nothing a.outputs.now a.version _ (none_between a.outputs.now a.version c.loop-low.low c.loop-low.high c.loop-low.invariant.2 (omega arith)) refl in
    record { rising = it.0; any = it.1 }
