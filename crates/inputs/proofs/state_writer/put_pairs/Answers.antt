-- `inputs::state_writer::put_pairs` meets its contract: the lines of the pairs so far are written,
-- and those of the pairs that are left follow them.
use mathlib.Core.Path.{◌≡◌, sym, ◌∙◌}
use native.Mathlib.Omega.{arith}
use lib.ListN.{length}
use Rattle.std.proofs.Common.{inl, inr}
use Rattle.rules.specs.StateText.{write_pair}
use Rattle.inputs.specs.State.{map_of}
use Rattle.inputs.proofs.PairLaws.{map_none}
use Rattle.inputs.proofs.StateWriterLaws.{texts-start, texts-room, texts-step, texts-end}
use Rattle.inputs.proofs.state_writer.put_pairs.Goals as goal

pub loop-position-init : goal.loop-position-init
loop-position-init c =
    let a = c.args in
    let p : c.into_iter-position-iterator.result.a.rest.now ≡ a.positions.now = cc in
    let v : c.into_iter-position-iterator.result.b.rest.now ≡ a.versions.now = cc in
    rw (p, v) (sym c.requires.pairs, texts-start write_pair (map_of a.positions.now a.versions.now) _ _ c.requires.room)

pub put_pair-offset-requires : goal.put_pair-offset-requires
unfolding map_of
put_pair-offset-requires c =
    let s = c.in-Some.ensures.steps in
    texts-room write_pair _ _ _ (rw (s.0, s.1) at c.loop-position.invariant.1) c.requires.room

pub loop-position-preserved : goal.loop-position-preserved
unfolding map_of
loop-position-preserved c =
    let s = c.in-Some.ensures.steps in
    let n = rw (s.0, s.1) at c.loop-position.invariant.0 in
    (omega arith, texts-step write_pair _ _ _ (rw (s.0, s.1) at c.loop-position.invariant.1) c.put_pair-offset.ensures)

pub returns : goal.returns
returns c =
    let n = c.loop-position.invariant.0 in
    let i = c.loop-position.position-iterator in
    let e : length i.a.rest.now ≡ 0 = elim c.in-None.ensures.steps [ inl x ↦ x.1.0 | inr x ↦ n ∙ x.1.0 ] in
    texts-end write_pair _ (rw (map_none i.a.rest.now i.b.rest.now e) at c.loop-position.invariant.1)
