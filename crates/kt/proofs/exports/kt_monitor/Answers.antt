-- `kt::exports::kt_monitor` meets its contract: the answer is that to a call of this kind, with no
-- output bytes.
use Rattle.rules.specs.Calls.{kt_monitor}
use Rattle.checks.specs.Calls.{asked_kind}
use Rattle.kt.proofs.exports.kt_monitor.Goals as goal

pub returns : goal.returns
unfolding kt_monitor asked_kind
returns c = record { answer = c.answered.ensures.answer; state = c.answered.ensures.state }
