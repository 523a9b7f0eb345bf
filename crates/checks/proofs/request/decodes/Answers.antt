-- `checks::request::decodes` meets its contract: what the field encodes stands at the front of the
-- room, or is none or longer than the bytes.
use mathlib.Core.Path.{◌≡◌, sym, ◌∙◌}
use native.Mathlib.Omega.{arith}
use lib.ListN.{length}
use Rattle.lists.proofs.SameLaws.{slices_same}
use Rattle.hash.proofs.BytesLaws.{part_count}
use Rattle.rules.specs.Limits.{label_limit}
use Rattle.checks.proofs.RequestLaws.{put-within, decoded-put, decoded_unput}
use borrow.Author.Rules.{rules}
use Rattle.checks.proofs.request.decodes.Goals as goal

pub slice_bounds-room-end : goal.slice_bounds-room-end
slice_bounds-room-end c =
    let e : length c.put_decoded.new.out ≡ label_limit = search rules in
    omega (arith, put-within label_limit _ _ (sym c.in-Some.ensures.offset))

pub slice_bounds-eq-end : goal.slice_bounds-eq-end
slice_bounds-eq-end c =
    let e : length c.put_decoded.new.out ≡ label_limit = search rules in
    part_count _ _ (omega (arith, put-within label_limit _ _ (sym c.in-Some.ensures.offset)))

pub returns-in-Some : goal.returns-in-Some
returns-in-Some c =
    c.eq.ensures ∙ slices_same _ _
    ∙ decoded-put label_limit _ _ _ _ (sym c.in-Some.ensures.offset) c.put_decoded.ensures.bytes

pub returns-in-None : goal.returns-in-None
returns-in-None c = decoded_unput label_limit _ _ c.requires (sym c.in-None.ensures.offset)
