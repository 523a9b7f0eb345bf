-- `lines::writing::put_decoded` meets its contract: the field's bytes are stored where there is room
-- for them; where it encodes none, nothing is.
use mathlib.Core.Path.{sym, ap, ◌∙◌}
use Rattle.lists.specs.Choice.{option_of}
use Rattle.lines.specs.Hex.{unhex, read_hex}
use Rattle.lines.proofs.WritingLaws.{room_ends, room_none, put_some, put_none}
use Rattle.lines.proofs.HexLengthLaws.{decoded_was, decoded_not}
use Rattle.lines.proofs.writing.put_decoded.Goals as goal

pub returns-in_err-count : goal.returns-in_err-count
returns-in_err-count c =
    let a = c.args in
    let n = ap option_of (sym c.in_err-count.was) ∙ c.decoded_length.ensures in
    let (p, b) = put_none a.out.now a.at (read_hex a.field.now) (decoded_not a.field.now n) in
    record { offset = ap option_of c.from_residual.ensures ∙ sym p; bytes = sym b }

pub returns-in_err-end : goal.returns-in_err-end
returns-in_err-end c =
    let a = c.args in
    let f = a.field.now in
    let (r, l) = decoded_was f c.in_ok-count.count (ap option_of (sym c.in_ok-count.was) ∙ c.decoded_length.ensures) in
    let (p, b) = put_some a.out.now a.at (read_hex f) (unhex f) r in
    let o = room_none a.out.now a.at (unhex f) _ l _ c.end_within.ensures c.in_err-end.was in
    record { offset = ap option_of c.from_residual-in_err-end.ensures ∙ o.offset ∙ sym p; bytes = sym (b ∙ o.bytes) }

pub store_decoded-requires : goal.store_decoded-requires
store_decoded-requires c =
    let a = c.args in
    let f = a.field.now in
    let (r, l) = decoded_was f c.in_ok-count.count (ap option_of (sym c.in_ok-count.was) ∙ c.decoded_length.ensures) in
    let o = room_ends a.out.now a.at (unhex f) _ l _ c.end_within.ensures _ c.in_ok-end.was in
    record { decodes = r; room = o.fits }

pub returns : goal.returns
returns c =
    let a = c.args in
    let f = a.field.now in
    let (r, l) = decoded_was f c.in_ok-count.count (ap option_of (sym c.in_ok-count.was) ∙ c.decoded_length.ensures) in
    let o = room_ends a.out.now a.at (unhex f) _ l _ c.end_within.ensures _ c.in_ok-end.was in
    let (p, b) = put_some a.out.now a.at (read_hex f) (unhex f) r in
    record { offset = o.offset ∙ sym p; bytes = c.store_decoded.ensures ∙ sym (b ∙ o.bytes) }
