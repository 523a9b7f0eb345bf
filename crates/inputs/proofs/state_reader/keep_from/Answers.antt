-- `inputs::state_reader::keep_from` meets its contract: the line at the offset is read as a `keep` line.
use mathlib.Core.Path.{refl}
use borrow.Author.Rules.{rules}
use Rattle.lists.specs.Choice.{option_of}
use Rattle.rules.specs.StateText.{read_keep}
use Rattle.inputs.proofs.TextLineLaws.{from-given}
use Rattle.inputs.proofs.state_reader.keep_from.Goals as goal

pub returns : goal.returns
returns c = from-given read_keep _ _ _ c.read_from.result c.read_from.ensures (λ v. v) option_of option_of (λ l o k. search rules) refl (λ v. refl) refl (λ v n. refl)
