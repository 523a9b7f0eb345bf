-- `checks::commitment::commitment` meets its contract: what the fields encode stands in zeros, and
-- its length is told.
use mathlib.Core.Path.{◌≡◌, refl, sym, ap, ◌∙◌}
use native.Mathlib.Omega.{arith}
use lib.ListN.{length}
use Rattle.hash.proofs.BytesLaws.{padded_full}
use Rattle.rules.specs.Limits.{value_limit, opening_length}
use Rattle.inputs.specs.ResponseLines.{decoded}
use Rattle.checks.proofs.CommitmentLaws.{decoded-room, decoded-front}
use Rattle.checks.proofs.commitment.commitment.Goals as goal

pub slice_bounds-shown-end : goal.slice_bounds-shown-end
slice_bounds-shown-end c =
    let (l, n, _) =
    decoded-front value_limit c.args.value.now c.requires.value _ c.put_decoded-2.ensures.bytes _
    c.put_decoded-2.ensures.offset _ c.unwrap_or-length.ensures in
    omega (arith, l, n, c.requires.value)

pub slice_bounds-committed-end : goal.slice_bounds-committed-end
slice_bounds-committed-end c =
    let (l, _, shown) =
    decoded-front value_limit c.args.value.now c.requires.value _ c.put_decoded-2.ensures.bytes _
    c.put_decoded-2.ensures.offset _ c.unwrap_or-length.ensures in
    l ∙ sym (ap length shown)

pub returns : goal.returns
returns c =
    let o = decoded c.args.opening.now in
    let l : length o ≡ opening_length = c.requires.opening in
    let e : c.put_decoded.new.out ≡ o =
    c.put_decoded.ensures.bytes ∙ decoded-room opening_length _ (omega arith) ∙ padded_full opening_length o l in
    let (_, _, shown) =
    decoded-front value_limit c.args.value.now c.requires.value _ c.put_decoded-2.ensures.bytes _
    c.put_decoded-2.ensures.offset _ c.unwrap_or-length.ensures in
    c.committed.ensures ∙ rw (e, shown) refl
