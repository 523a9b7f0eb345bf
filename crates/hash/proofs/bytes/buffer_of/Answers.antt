-- `hash::bytes::buffer_of` meets its contract: each part finds room after the parts before it, and
-- stands after them.
use Rattle.std.proofs.Common.{[], length, refl, ap, arith, rules}
use Rattle.hash.proofs.BytesLaws.{padded_nil, padded_part, part_room}
use Rattle.hash.proofs.bytes.buffer_of.Goals as goal

pub loop-part-init : goal.loop-part-init
loop-part-init g c = (refl, padded_nil g.row.N)

pub overflow_add-at : goal.overflow_add-at
overflow_add-at g c =
    let room = part_room c.args.parts.now g.row.N c.loop-part.part-index record { ref_ptr = (0, 0); now = [] } c.loop-part-test.true c.requires in
    omega (arith, room, g.N.fits, c.loop-part.invariant.0)

pub slice_bounds-copy_from_slice-end : goal.slice_bounds-copy_from_slice-end
slice_bounds-copy_from_slice-end g c =
    let room = part_room c.args.parts.now g.row.N c.loop-part.part-index record { ref_ptr = (0, 0); now = [] } c.loop-part-test.true c.requires in
    search rules

pub loop-part-preserved : goal.loop-part-preserved
loop-part-preserved g c =
    padded_part c.args.parts.now g.row.N c.loop-part.part-index c.loop-part.at _ record { ref_ptr = (0, 0); now = [] } c.loop-part.bytes c.copy_from_slice.new.self
    c.loop-part-test.true c.requires c.loop-part.invariant.0 c.loop-part.invariant.1 c.copy_from_slice.ensures.after (omega (arith, ap length c.copy_from_slice.ensures.after))
