-- `checks::signed_text::kind_numbered` meets its contract: 0 is a search, 1 is monitoring, and no
-- other number is a kind.
use mathlib.Core.Path.{sym, ap}
use native.Mathlib.Omega.{arith}
use Rattle.rules.specs.Calls.{kind_numbered}
use Rattle.checks.specs.Calls.{asked_kind}
use Rattle.checks.proofs.SignedTextLaws.{no_kind}
use Rattle.checks.proofs.signed_text.kind_numbered.Goals as goal

pub returns-in-0 : goal.returns-in-0
unfolding asked_kind kind_numbered
returns-in-0 c = sym (ap kind_numbered c.in-0.is)

pub returns-in-1 : goal.returns-in-1
unfolding asked_kind kind_numbered
returns-in-1 c = sym (ap kind_numbered c.in-1.is)

pub returns-in_default : goal.returns-in_default
unfolding asked_kind
returns-in_default c = no_kind _ (omega arith) (omega arith)
