-- `inputs::state_writer::put_state` meets its contract: a valid state fits its struct and its text
-- the bytes, so each part of the text has room after those before it.
use mathlib.Core.Path.{◌≡◌}
use native.Mathlib.Omega.{arith}
use lib.Count.{ones}
use lib.ListN.{length}
use lib.Seq.{length-take-le}
use Prim.Native.Nat.{◌*◌, ◌≤◌}
use borrow.Author.Rules.{rules}
use Rattle.rules.specs.Limits.{hash_length, values_block_length}
use Rattle.inputs.proofs.StateWriterLaws.{room-then, wrote_then, valid_fits, values_kept}
use Rattle.inputs.proofs.StateWriterLaws.{keep_part, pair_part, state_parts, state_rooms}
use Rattle.inputs.proofs.state_writer.put_state.Goals as goal

pub shared_ref_as_front-put_size : goal.shared_ref_as_front-put_size
shared_ref_as_front-put_size c = (valid_fits c.args.state c.requires.valid).label

pub put_size-keeps_at-requires : goal.put_size-keeps_at-requires
put_size-keeps_at-requires c =
    let b = c.args.state in
    (state_rooms b (valid_fits b c.requires.valid) c.requires.room).first

pub shared_ref_as_front-put_keeps : goal.shared_ref_as_front-put_keeps
shared_ref_as_front-put_keeps c = (valid_fits c.args.state c.requires.valid).values

pub put_keeps-pairs_at-requires : goal.put_keeps-pairs_at-requires
put_keeps-pairs_at-requires c =
    let b = c.args.state in
    let f = valid_fits b c.requires.valid in
    let e : length b.log.values ≡ values_block_length = search rules in
    let h : hash_length * ones b.log.size ≤ length b.log.values = omega (arith, f.values) in
    let l = length-take-le (hash_length * ones b.log.size) b.log.values h in
    record {
      whole = omega (arith, l);
      room = rw (values_kept (ones b.log.size) b.log.values h)
          (room-then (keep_part b) c.put_size-keeps_at.ensures (state_rooms b f c.requires.room).two);
    }

pub shared_ref_as_front-put_pairs : goal.shared_ref_as_front-put_pairs
shared_ref_as_front-put_pairs c = (valid_fits c.args.state c.requires.valid).pairs

pub put_pairs-requires-clause-room : goal.put_pairs-requires-clause-room
put_pairs-requires-clause-room c =
    let b = c.args.state in
    let f = valid_fits b c.requires.valid in
    let e : length b.log.values ≡ values_block_length = search rules in
    let keeps = rw (values_kept (ones b.log.size) b.log.values (omega (arith, f.values))) at c.put_keeps-pairs_at.ensures in
    room-then (pair_part b) (wrote_then (keep_part b) c.put_size-keeps_at.ensures keeps) (state_rooms b f c.requires.room).all

pub returns : goal.returns
returns c =
    let b = c.args.state in
    let f = valid_fits b c.requires.valid in
    let e : length b.log.values ≡ values_block_length = search rules in
    let keeps = rw (values_kept (ones b.log.size) b.log.values (omega (arith, f.values))) at c.put_keeps-pairs_at.ensures in
    let two = wrote_then (keep_part b) c.put_size-keeps_at.ensures keeps in
    rw (state_parts b) (wrote_then (pair_part b) two c.put_pairs.ensures)
