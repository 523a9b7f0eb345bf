-- What the kind of a response asks (specs/Refusals.antt, kind_rules), once its kind is known.
use mathlib.Core.Path.{◌≡◌, ap}
use Rattle.rules.specs.Response.{Target, Finding, searched, monitored}
use Rattle.rules.specs.Search.{search_rules}
use Rattle.rules.specs.Monitoring.{monitoring_rules}
use Rattle.rules.specs.Refusals.{Call, rules_for, kind_rules}

module _ (c : Call) where
  pub search-rules : (t : Target) → c.parts.finding ≡ searched t
      → kind_rules c ≡ search_rules t c.configuration c.state c.parts
  unfolding kind_rules rules_for
  search-rules t f = ap (λ (g : Finding). rules_for g c.configuration c.state c.parts) f

  pub monitoring-rules : c.parts.finding ≡ monitored → kind_rules c ≡ monitoring_rules c.configuration c.state c.parts
  unfolding kind_rules rules_for
  monitoring-rules f = ap (λ (g : Finding). rules_for g c.configuration c.state c.parts) f
