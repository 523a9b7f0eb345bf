-- `inputs::state_writer::put_keeps` meets its contract: the lines of the values so far are written,
-- and those of the values that are left follow them.
use mathlib.Core.Path.{◌≡◌, ◌∙◌}
use Prim.Native.Nat.{◌*◌, ◌/◌}
use native.Mathlib.Omega.{arith}
use lib.ListN.{length}
use Rattle.lists.specs.Lists.{runs}
use Rattle.rules.specs.Limits.{hash_length}
use Rattle.rules.specs.StateText.{write_keep}
use Rattle.inputs.proofs.StateWriterLaws.{values_next, values_end, texts-start}
use Rattle.inputs.proofs.StateWriterLaws.{texts-room, texts-step, texts-end}
use Rattle.inputs.proofs.state_writer.put_keeps.Goals as goal

pub loop-value-init : goal.loop-value-init
loop-value-init c =
    let a = c.args in
    let s = a.values.now in
    let z : c.into_iter-value-iterator.result.size ≡ hash_length = cc in
    let r : c.into_iter-value-iterator.result.rest.now ≡ s = cc in
    let vs = runs (length s / hash_length) hash_length s in
    let whole : length s ≡ hash_length * (length s / hash_length) = omega (arith, c.requires.whole) in
    let start = texts-start write_keep vs a.out.now a.at c.requires.room in
    (z, rw r (record { left = length s / hash_length; whole = whole; texts = start }))

pub put_keep-offset-requires : goal.put_keep-offset-requires
put_keep-offset-requires c =
    let s = c.in-Some.ensures.steps in
    let (k, e, t) = values_next _ _ _ _ _ (s.1.1 ∙ c.loop-value.invariant.0) (rw s.1.0 at c.loop-value.invariant.1) in
    texts-room write_keep _ _ _ t c.requires.room

pub loop-value-preserved : goal.loop-value-preserved
loop-value-preserved c =
    let s = c.in-Some.ensures.steps in
    let (k, e, t) = values_next _ _ _ _ _ (s.1.1 ∙ c.loop-value.invariant.0) (rw s.1.0 at c.loop-value.invariant.1) in (
      s.0 ∙ c.loop-value.invariant.0,
      record {
        left = k;
        whole = e;
        texts =
            texts-step write_keep _ _ _ t c.put_keep-offset.ensures;
      },
    )

pub returns : goal.returns
returns c =
    texts-end write_keep _ (values_end _ _ _ _ (let s = c.in-None.ensures.steps in let z = c.loop-value.invariant.0 in
    omega arith) c.loop-value.invariant.1)
