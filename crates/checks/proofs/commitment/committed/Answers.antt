-- `checks::commitment::committed` meets its contract: the text is taken in five parts.
use mathlib.Core.Path.{refl, ◌∙◌}
use Rattle.hash.proofs.BytesLaws.{be_bytes}
use Rattle.rules.specs.Commitment.{commitment_key}
use Rattle.checks.proofs.CommitmentLaws.{commitment_parts}
use Rattle.checks.proofs.commitment.committed.Goals as goal

pub returns : goal.returns
unfolding commitment_key
returns c =
    commitment_parts _ c.args.opening c.args.label.now c.args.value.now _ _ _ _ _ _ _ _ refl c.requires.label
    (c.to_be_bytes-mid.ensures ∙ be_bytes 4 _)
    c.start.ensures c.update.ensures c.update-2.ensures c.update-3.ensures
    c.update-4.ensures c.update-text.ensures c.finish.ensures
