-- `lines::writing::put_hex` meets its contract: the digits are stored where there is room for two
-- of each byte; the empty byte string is put as a dash.
use mathlib.Core.Path.{sym, ap, ◌∙◌}
use native.Mathlib.Omega.{arith}
use borrow.Author.Tests.{eqb-true, eqb-false}
use Rattle.lists.specs.Choice.{option_of}
use Rattle.lists.specs.Lists.{written}
use Rattle.lines.specs.Hex.{hex_field}
use Rattle.lines.proofs.HexLaws.{hex_field_some}
use Rattle.lines.proofs.WritingLaws.{room_ends, room_none, hex_field_none, length_field}
use Rattle.lines.proofs.writing.put_hex.Goals as goal

pub returns-then-is_empty : goal.returns-then-is_empty
returns-then-is_empty c =
    let b = c.put_bytes.ensures in
    rw (hex_field_none c.args.s.now (eqb-true _ _ (sym c.if-is_empty.ensures)))
    (record { offset = b.offset; bytes = b.bytes })

pub returns-in_err-end : goal.returns-in_err-end
returns-in_err-end c =
    let a = c.args in
    let z = eqb-false _ _ (sym c.if-is_empty.ensures) in
    let l = length_field a.s.now (omega (arith, z)) in
    let o = room_none a.out.now a.at (hex_field a.s.now) _ l _ c.end_within.ensures c.in_err-end.was in
    record { offset = ap option_of c.from_residual.ensures ∙ o.offset; bytes = sym o.bytes }

pub store_hex-requires : goal.store_hex-requires
store_hex-requires c =
    let a = c.args in
    let z = eqb-false _ _ (sym c.if-is_empty.ensures) in
    let l = length_field a.s.now (omega (arith, z)) in
    let o = room_ends a.out.now a.at (hex_field a.s.now) _ l _ c.end_within.ensures _ c.in_ok-end.was in
    omega (arith, o.fits, l)

pub returns : goal.returns
returns c =
    let a = c.args in
    let z = eqb-false _ _ (sym c.if-is_empty.ensures) in
    let l = length_field a.s.now (omega (arith, z)) in
    let o = room_ends a.out.now a.at (hex_field a.s.now) _ l _ c.end_within.ensures _ c.in_ok-end.was in
    let h = ap (written a.out.now a.at) (sym (hex_field_some a.s.now (omega (arith, z)))) in
    record { offset = o.offset; bytes = c.store_hex.ensures ∙ h ∙ sym o.bytes }
