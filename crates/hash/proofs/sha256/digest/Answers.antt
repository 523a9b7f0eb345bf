-- `hash::sha256::digest` meets its contract: the whole blocks first, then the bytes after them.
use Rattle.hash.proofs.MessageLaws.{digest_law, rest_law, whole_law}
use Rattle.hash.proofs.sha256.digest.Goals as goal

pub returns : goal.returns
returns c =
    let m = c.args.message.now in
    let e = c.as_chunks.ensures in
    digest_law m _ c.compress_all.result c.finish.result
    (whole_law m c.initial.result _ c.compress_all.result _ e.front c.initial.ensures c.compress_all.ensures) (rest_law m _ e.back) c.finish.ensures
