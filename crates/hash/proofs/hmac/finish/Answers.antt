-- `hash::hmac::finish` meets its contract: the outer key and the inner digest are two parts of one
-- message.
use Rattle.std.proofs.Common.{ap, ◌∙◌}
use Rattle.hash.specs.Hmac.{xored}
use Rattle.hash.proofs.HmacLaws.{ended_law}
use Rattle.hash.proofs.hmac.finish.Goals as goal

pub returns : goal.returns
returns c =
    let a = c.args in
    let o = c.xor_each-outer.ensures ∙ ap (xored 0x5c) c.key_block.ensures in
    ended_law a.key.now a.text _ _ _ _ _ _ c.new.ensures o c.finish-inner.ensures c.update.ensures c.update-2.ensures c.finish.ensures
