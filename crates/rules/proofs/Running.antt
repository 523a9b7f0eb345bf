-- What cases that are proved by computing share.
use mathlib.Core.List.{[], flat_map, flatten}
use mathlib.Core.Option.{Option, none, Option-elim, bind}
use Prim.Native.Nat.{ℕ}
use Prim.Native.String.{String}
use Rattle.lists.specs.Lists.{Bytes}
use Rattle.lists.proofs.Computing.{list_definitions}
use Rattle.hash.proofs.Computing.{hash_definitions}
use Rattle.tree.proofs.Computing.{tree_definitions}
use Rattle.lines.specs.Number.{ascii}
use Rattle.lines.specs.Hex.{unhex}
use Rattle.lines.proofs.Computing.{line_definitions}
use Rattle.rules.specs.Configuration.{Configuration}
use Rattle.rules.specs.State.{MapEntry, State}
use Rattle.rules.specs.Refusals.{Inputs, Judgement, judge}
use Rattle.rules.specs.Calls.{number_of, state_after, value_of}
use Rattle.rules.proofs.Computing.{rule_definitions}

-- bytes, written in hex
unfoldable pub x : String → Bytes
x s = unhex (ascii s)

-- a pair of the map
abbrev pub pair : ℕ → ℕ → MapEntry
pair p v = record { position = p; version = v }

-- inputs of which a rule looks at the clock and the output bytes only, and a configuration with its
-- two bounds
abbrev pub blank_inputs : ℕ → ℕ → Inputs
blank_inputs clock room =
    record {
      limit = 0;
      kind = none;
      response = [];
      configuration = [];
      identifier = [];
      clock = clock;
      vrf_outputs = [];
      signed_text = [];
      room = room;
    }

abbrev pub blank_configuration : ℕ → ℕ → Configuration
blank_configuration ahead behind =
    record {
      suite = 1;
      mode = 1;
      signature_key = [];
      vrf_key = [];
      max_ahead = ahead;
      max_behind = behind;
      monitoring_window = 0;
      maximum_lifetime = none;
    }

-- number, state afterwards, value
unfoldable pub outcome_of : Option State → Judgement → ℕ × (Option State × Option Bytes)
outcome_of st j = (number_of j, (state_after st j, value_of j))

unfoldable pub outcome : Option State → Inputs → ℕ × (Option State × Option Bytes)
outcome st i = outcome_of st (judge st i)

-- everything computes
unfoldable pub opened : Unit {0}
unfolding x outcome_of outcome list_definitions hash_definitions tree_definitions line_definitions rule_definitions flat_map flatten Option-elim bind
opened = tt
