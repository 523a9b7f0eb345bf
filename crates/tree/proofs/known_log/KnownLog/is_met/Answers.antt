-- `tree::known_log::KnownLog::is_met` meets its contract: a full subtree is compared, another is not.
use mathlib.Core.Path.{sym, ◌∙◌}
use Rattle.lists.proofs.SameLaws.{slices_same}
use Rattle.tree.specs.LogHead.{known_in}
use Rattle.tree.proofs.WalkedLaws.{agrees_full, agrees-none}
use Rattle.tree.proofs.known_log.KnownLog.is_met.Goals as goal

pub returns-then-is_full : goal.returns-then-is_full
unfolding known_in
returns-then-is_full c = c.eq.ensures ∙ slices_same _ _ ∙ agrees_full _ _ _ (sym c.is_full.ensures ∙ c.if-is_full.true) _ c.kept_value-v.ensures

pub returns : goal.returns
unfolding known_in
returns c = agrees-none _ _ _ (sym c.is_full.ensures ∙ c.if-is_full.false)
