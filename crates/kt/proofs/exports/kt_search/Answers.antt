-- `kt::exports::kt_search` meets its contract: the answer is that to a call of this kind.
use Rattle.rules.specs.Calls.{kt_search}
use Rattle.checks.specs.Calls.{asked_kind}
use Rattle.kt.proofs.exports.kt_search.Goals as goal

pub returns : goal.returns
unfolding kt_search asked_kind
returns c = let r = c.answered.ensures in record { answer = r.answer; output = r.output; state = r.state }
