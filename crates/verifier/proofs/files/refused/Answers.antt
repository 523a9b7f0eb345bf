-- `verifier::files::refused` meets its contract: the line of a refusal is written.
use Rattle.verifier.proofs.FilesLaws.{refusal_written}
use Rattle.verifier.proofs.files.refused.Goals as goal

pub returns : goal.returns
returns c = refusal_written _ _ _ _ (rw c.number.ensures at c.put_refusal.ensures)
