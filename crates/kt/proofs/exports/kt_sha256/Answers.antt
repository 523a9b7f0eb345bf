-- `kt::exports::kt_sha256` meets its contract: one law for too little room, one for the digest
-- copied whole.
use Rattle.std.proofs.Common.{ap, ◌∙◌, arith, length, sym}
use Rattle.std.proofs.lemmas.List.{length-take-le}
use Rattle.hash.proofs.MessageLaws.{length_digest}
use Rattle.kt.proofs.ExportLaws.{digest_refused, digest_copied}
use Rattle.kt.proofs.exports.kt_sha256.Goals as goal

pub returns-then-digest-lt-DIGEST_LENGTH : goal.returns-then-digest-lt-DIGEST_LENGTH
returns-then-digest-lt-DIGEST_LENGTH c = digest_refused c.args.message.now c.args.digest.now (omega arith)

pub copy_from_slice-requires : goal.copy_from_slice-requires
copy_from_slice-requires c =
    length-take-le 32 c.args.digest.now (omega arith)
    ∙ sym (ap length c.digest.ensures ∙ length_digest c.args.message.now)

pub returns : goal.returns
returns c =
    digest_copied c.args.message.now c.args.digest.now c.digest.result c.copy_from_slice.new.self (omega arith)
    c.digest.ensures c.copy_from_slice.ensures.after
