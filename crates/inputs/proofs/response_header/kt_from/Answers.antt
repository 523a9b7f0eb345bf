-- `inputs::response_header::kt_from` meets its contract: the first line is read, and its fields
-- stand in the text where they stand in the line.
use borrow.Author.Rules.{rules}
use Rattle.inputs.proofs.ResponseFieldLaws.{opened-given}
use Rattle.inputs.proofs.response_header.kt_from.Goals as goal

pub returns : goal.returns
returns c =
    let it = opened-given _ _ _ c.read_from.ensures (λ l o k. search rules) in
    record { read = it.0; decodes = it.1 }
