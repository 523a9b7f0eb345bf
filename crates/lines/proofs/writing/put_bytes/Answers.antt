-- `lines::writing::put_bytes` meets its contract: the bytes are stored where there is room for them.
use mathlib.Core.Path.{refl, sym, ap, ◌∙◌}
use Rattle.lists.specs.Choice.{option_of}
use Rattle.lines.proofs.WritingLaws.{room_ends, room_none}
use Rattle.lines.proofs.writing.put_bytes.Goals as goal

pub returns-in_err-end : goal.returns-in_err-end
returns-in_err-end c =
    let a = c.args in
    let o = room_none a.out.now a.at a.s.now _ refl _ c.end_within.ensures c.in_err-end.was in
    record { offset = ap option_of c.from_residual.ensures ∙ o.offset; bytes = sym o.bytes }

pub store_bytes-requires : goal.store_bytes-requires
store_bytes-requires c =
    let a = c.args in
    (room_ends a.out.now a.at a.s.now _ refl _ c.end_within.ensures _ c.in_ok-end.was).fits

pub returns : goal.returns
returns c =
    let a = c.args in
    let o = room_ends a.out.now a.at a.s.now _ refl _ c.end_within.ensures _ c.in_ok-end.was in
    record { offset = o.offset; bytes = c.store_bytes.ensures ∙ sym o.bytes }
