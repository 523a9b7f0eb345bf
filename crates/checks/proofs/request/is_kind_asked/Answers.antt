-- `checks::request::is_kind_asked` meets its contract: each pair of kinds is met.
use mathlib.Core.Path.{◌∙◌}
use Rattle.checks.proofs.RequestLaws.{kinds_equal}
use Rattle.checks.proofs.request.is_kind_asked.Goals as goal

pub returns : goal.returns
returns c = c.eq.ensures ∙ kinds_equal c.args.kind c.args.asked
