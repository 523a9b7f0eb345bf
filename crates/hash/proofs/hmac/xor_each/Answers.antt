-- `hash::hmac::xor_each` meets its contract: the bytes passed are those of the definition.
use Rattle.std.proofs.Common.{map, get_or, bit_xor, ◌∙◌, append-nil, arith, length-set, take_all}
use Rattle.std.proofs.lemmas.List.{drop_all, get_or_default}
use Rattle.std.proofs.lemmas.List.Edits.{map_over_more}
use Rattle.hash.specs.Hmac.{xored}
use Rattle.hash.proofs.hmac.xor_each.Goals as goal

pub loop-b-preserved : goal.loop-b-preserved
loop-b-preserved c =
    let i = c.loop-b.b-index in
    let ys = c.loop-b.b-items in
    let h = c.loop-b.invariant in (
      simp length-set h.0,
      h.1,
      map_over_more (λ b. bit_xor b c.args.x) c.args.block ys i (get_or ys i 0) (omega arith) h.2 (get_or_default ys i 0 _ (omega arith)),
    )

pub returns : goal.returns
unfolding xored
returns c =
    let i = c.loop-b.b-index in
    let h = c.loop-b.invariant in
    h.2 ∙ rw (take_all i c.args.block (omega arith), drop_all i c.args.block (omega arith), append-nil (map (λ b. bit_xor b c.args.x) c.args.block))
