-- `tree::known_log::KnownLog::kept_value` meets its contract: as many values stand before it as kept_size has
-- higher digits that are set.
use mathlib.Core.Path.{◌∙◌}
use native.Mathlib.Omega.{arith}
use Rattle.tree.specs.LogHead.{level_limit}
use Rattle.tree.proofs.DecisionLaws.{kept-room, kept-is}
use Rattle.tree.proofs.known_log.KnownLog.kept_value.Goals as goal

pub stored_at-requires : goal.stored_at-requires
stored_at-requires c = kept-room _ _ _ c.requires.0 level_limit (omega arith) c.args.self.now.kept_bound c.requires.1

pub returns : goal.returns
returns c = c.stored_at.ensures ∙ kept-is _ _ _ c.requires.0 c.args.self.now.text.now c.args.self.now.kept.now c.requires.1
