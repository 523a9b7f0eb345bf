-- The sixteen refusals, in the order of trial (paper 01, Sixteen numbers). First what a call is
-- given is read, each reading with a number of its own (1 to 5); then come the rules about what was
-- read (6 to 16). The number of the first that applies is the answer.
use Rattle.std.specs.Prelude.{Bool, true, false, ◌&&◌, ◌||◌, not, cond, List, [], ◌∷◌, ◌++◌, map, ℕ, ◌+◌, eqb, leb, ltb, length}
use Rattle.std.proofs.Math.Option
use Rattle.std.proofs.Math.Option.{Option, none, some, Option-elim, get_or, bind}
use Rattle.lists.specs.Choice.{choose, provided}
use Rattle.lists.specs.Lists.{Bytes, all, every, first, last_or, same, unfalling}
use Rattle.tree.specs.LogTree.{Known, Walk, walk_of, node_count, value, kept_values_met}
use Rattle.tree.specs.PrefixTree.{Terminal, searched_leaf, empty_place, foreign_leaf, lookup_root, terminal_fits}
use Rattle.rules.specs.Limits.{configuration_limit, signed_text_limit, vrf_outputs_limit, tree_size_limit}
use Rattle.rules.specs.Limits.{map_limit}
use Rattle.rules.specs.Limits.{identifier_length}
use Rattle.rules.specs.Configuration.{Configuration, read_configuration, tree_head}
use Rattle.rules.specs.VrfOutputs.{VrfOutput, read_outputs, has_output, output_of}
use Rattle.rules.specs.State.{MapEntry, KeptLog, State, is_valid}
use Rattle.rules.specs.Response.{Kind, search, monitor, Target, Finding, searched, monitored, Step}
use Rattle.rules.specs.Response.{Lookup, Entry, Parts}
use Rattle.rules.specs.Response.{Result, included, absent, other_leaf, kind_of, target_of, step_versions}
use Rattle.rules.specs.Response.{lookup_versions}
use Rattle.rules.specs.Response.{entry_positions, entry_timestamps, log_entry}
use Rattle.rules.specs.ResponseText.{read_response}
use Rattle.rules.specs.Commitment.{commitment_to}
use Rattle.rules.specs.Kinds.{Asked, KindRules}
use Rattle.rules.specs.Search.{search_rules}
use Rattle.rules.specs.Monitoring.{monitoring_rules}

-- ---- what is given, and what is read of it

-- what a call is given besides the state
pub record Inputs : Type 0 where
  pub limit : ℕ  -- the most bytes of a response
  pub kind : Option Kind  -- none where what was asked for is no kind
  pub response : Bytes
  pub configuration : Bytes
  pub identifier : Bytes
  pub clock : ℕ
  pub vrf_outputs : Bytes
  pub signed_text : Bytes
  pub room : ℕ  -- output bytes

-- a call as read
pub record Call : Type 0 where
  pub inputs : Inputs
  pub configuration : Configuration
  pub state : State
  pub outputs : List VrfOutput
  pub parts : Parts

pub data Judgement : Type 0 where
  refused : ℕ → Judgement
  passed : Call → Judgement

-- what a reading yields is handed on; where it yields nothing, its number is the answer
unfoldable pub reading : {A : Type 0} → ℕ → Option A → (A → Judgement) → Judgement
reading k none next = refused k
reading k (some a) next = next a

-- 1: no input is over its length, and the identifier has its own
unfoldable pub lengths_fit : Inputs → Bool
lengths_fit i =
    every
    (leb (length i.response) i.limit
    ∷ leb (length i.configuration) configuration_limit
    ∷ leb (length i.signed_text) signed_text_limit
    ∷ leb (length i.vrf_outputs) vrf_outputs_limit
    ∷ eqb (length i.identifier) identifier_length
    ∷ [])

-- 3: there is a state, and it is valid
unfoldable pub valid_state : Option State → Option State
valid_state none = none
valid_state (some s) = provided (is_valid s) s

-- a call is read; the state is none where what was handed over stands for no state
unfoldable pub read_call : Option State → Inputs → Judgement
read_call st i =
    reading 1 (provided (lengths_fit i) i) λ _.
    reading 2 (read_configuration i.configuration) λ configuration.
    reading 3 (valid_state st) λ state.
    reading 4 (read_outputs i.vrf_outputs) λ outputs.
    reading 5 (read_response i.response) λ parts.
    passed (record {
      inputs = i;
      configuration = configuration;
      state = state;
      outputs = outputs;
      parts = parts;
    })

-- ---- what the kind of the response asks, from all that was read

unfoldable pub rules_for : Finding → Configuration → State → Parts → KindRules
rules_for (searched t) configuration state parts = search_rules t configuration state parts
rules_for monitored configuration state parts = monitoring_rules configuration state parts

unfoldable pub kind_rules : Call → KindRules
kind_rules c = rules_for c.parts.finding c.configuration c.state c.parts

-- ---- 6: kind, identifier or label is not the asked one

unfoldable pub same_kind : Kind → Kind → Bool
same_kind search search = true
same_kind search monitor = false
same_kind monitor search = false
same_kind monitor monitor = true

unfoldable pub kind_asked : Call → Bool
kind_asked c = Option-elim c.inputs.kind false (same_kind (kind_of c.parts.finding))

unfoldable pub foreign : Call → Bool
foreign c =
    not (kind_asked c && same c.parts.identifier c.inputs.identifier
    && same c.parts.label c.state.label)

-- ---- 7: n is 0, too large, or below m

unfoldable pub size_wrong : Call → Bool
size_wrong c =
    eqb c.parts.tree_size 0 || ltb tree_size_limit c.parts.tree_size
    || ltb c.parts.tree_size c.state.log.size

-- ---- 8: a search's t is no version, or below a version in the map

unfoldable pub target_wrong : Call → Bool
target_wrong c = (kind_rules c).target_wrong

-- ---- 9: something is not as asked: steps or their commitments, entries, the versions looked up,
-- ---- the number of nodes

unfoldable pub asked : Call → List Asked
asked c = (kind_rules c).entries

-- a step has a commitment exactly where its version is to have one
unfoldable pub commitment_asked : (ℕ → Bool) → Step → Bool
commitment_asked is_committed s =
    Option-elim s.commitment (not (is_committed s.version)) (λ _. is_committed s.version)

-- the entries at the positions asked, the versions looked up in each as asked
unfoldable pub entries_asked : (List ℕ → List ℕ → Bool) → List Asked → List Entry → Bool
entries_asked versions_fit [] [] = true
entries_asked versions_fit [] (e ∷ es) = false
entries_asked versions_fit (a ∷ rest) [] = false
entries_asked versions_fit (a ∷ rest) (e ∷ es) =
    eqb e.position a.position && versions_fit a.versions (lookup_versions e)
    && entries_asked versions_fit rest es

-- the walk over the log tree, with the entries that the response shows
unfoldable pub log_walk : Call → Walk
log_walk c = walk_of c.parts.tree_size c.state.log.size (entry_positions c.parts)

unfoldable pub not_as_asked : Call → Bool
not_as_asked c =
    not
    (every
    (same (step_versions c.parts) (kind_rules c).steps
    ∷ all (commitment_asked (kind_rules c).is_committed) c.parts.steps
    ∷ entries_asked (kind_rules c).versions_fit (asked c) c.parts.entries
    ∷ eqb (length c.parts.nodes) (node_count (log_walk c))
    ∷ []))

-- ---- 10: the sheet lacks the version of a step

unfoldable pub output_missing : Call → Bool
output_missing c = not (all (has_output c.outputs) (step_versions c.parts))

-- ---- 11: times

-- a position below m is not later, one from m on not earlier, than the kept time
unfoldable pub timestamp_fits : KeptLog → Entry → Bool
timestamp_fits log e =
    cond (ltb e.position log.size) (leb e.timestamp log.timestamp)
    (leb log.timestamp e.timestamp)

-- the time of the last entry
unfoldable pub last_timestamp : Call → ℕ
last_timestamp c = last_or 0 (entry_timestamps c.parts)

unfoldable pub timestamps_wrong : Call → Bool
timestamps_wrong c =
    not
    (every
    (unfalling (entry_timestamps c.parts)
    ∷ all (timestamp_fits c.state.log) c.parts.entries
    ∷ leb (last_timestamp c) (c.inputs.clock + c.configuration.max_ahead)
    ∷ leb c.inputs.clock (last_timestamp c + c.configuration.max_behind)
    ∷ []))

-- ---- 12: a lookup does not reach its prefix root, or the other leaf is not as said

-- the commitment in the step of a version; the empty string where there is none
unfoldable pub step_commitment : List Step → ℕ → Bytes
step_commitment steps v =
    get_or (bind (first (λ (s : Step). eqb s.version v) steps) (λ s. s.commitment)) []

-- the commitment of a version that is there: of the target's it is worked out, of others it is in
-- the step
unfoldable pub commitment_by : Option Target → Bytes → List Step → ℕ → Bytes
commitment_by none label steps v = step_commitment steps v
commitment_by (some t) label steps v =
    choose (eqb v t.version) (λ _. commitment_to t.opening label t.value)
    (λ _. step_commitment steps v)

unfoldable pub commitment_of : Call → ℕ → Bytes
commitment_of c v = commitment_by (target_of c.parts.finding) c.parts.label c.parts.steps v

-- what a lookup says stands at its place
unfoldable pub terminal : Call → ℕ → Result → Terminal
terminal c v included = searched_leaf (commitment_of c v)
terminal c v absent = empty_place
terminal c v (other_leaf output commitment) = foreign_leaf output commitment

unfoldable pub lookup_holds : Call → Bytes → Lookup → Bool
lookup_holds c root l =
    let output = output_of c.outputs l.version in
    let there = terminal c l.version l.result in
    terminal_fits output there (length l.siblings) && same (lookup_root output there l.siblings) root

-- a lookup holds, if it can be tried
unfoldable pub lookup_passes : Call → Bytes → Lookup → Bool
lookup_passes c root l = choose ((kind_rules c).untried l) (λ _. true) (λ _. lookup_holds c root l)

unfoldable pub lookups_hold : Call → Entry → Bool
lookups_hold c e = all (lookup_passes c e.prefix_root) e.lookups

unfoldable pub lookup_fails : Call → Bool
lookup_fails c = not (all (lookups_hold c) c.parts.entries)

-- ---- 13: whole and short entries not as asked; a lookup in monitoring not `in`

unfoldable pub results_wrong : Call → Bool
results_wrong c = not (kind_rules c).results_fit

-- ---- 14: a kept value differs

-- what the walk knows: the kept values and the entries shown
unfoldable pub known : Call → Known
known c =
    record {
      size = c.state.log.size;
      values = c.state.log.values;
      entries = map log_entry c.parts.entries;
    }

unfoldable pub history_differs : Call → Bool
history_differs c = not (kept_values_met (known c) (log_walk c) c.parts.nodes)

-- ---- 15: the signed text differs from TreeHeadTBS

-- the log root
unfoldable pub log_root : Call → Bytes
log_root c = value (known c) (log_walk c) c.parts.nodes

unfoldable pub tree_head_of : Call → Bytes
tree_head_of c = tree_head c.inputs.configuration c.parts.tree_size (log_root c)

unfoldable pub head_differs : Call → Bool
head_differs c = not (same c.inputs.signed_text (tree_head_of c))

-- ---- 16: the output is shorter than the value that a search found, or the new map has a pair too
-- ---- many

-- the value, which a search alone yields
unfoldable pub value_found : Call → Option Bytes
value_found c = Option.map (λ (t : Target). t.value) (target_of c.parts.finding)

-- the new map; monitoring never makes it longer
unfoldable pub map_after : Call → List MapEntry
map_after c = (kind_rules c).map_after

unfoldable pub room_missing : Call → Bool
room_missing c =
    ltb c.inputs.room (length (get_or (value_found c) [])) || ltb map_limit (length (map_after c))

-- ---- the order of trial

pub record Rule : Type 0 where
  pub number : ℕ
  pub applies : Call → Bool

abbrev pub rule : ℕ → (Call → Bool) → Rule
rule k f = record { number = k; applies = f }

-- 6 to 14, which the signed-text call tries too
unfoldable pub checks : List Rule
checks =
    rule 6 foreign
    ∷ rule 7 size_wrong
    ∷ rule 8 target_wrong
    ∷ rule 9 not_as_asked
    ∷ rule 10 output_missing
    ∷ rule 11 timestamps_wrong
    ∷ rule 12 lookup_fails
    ∷ rule 13 results_wrong
    ∷ rule 14 history_differs
    ∷ []

unfoldable pub last_checks : List Rule
last_checks = rule 15 head_differs ∷ rule 16 room_missing ∷ []

-- the number of the first rule that applies, and else the call passes
unfoldable pub tried : List Rule → Call → Judgement
tried [] c = passed c
tried (r ∷ rs) c = choose (r.applies c) (λ _. refused r.number) (λ _. tried rs c)

unfoldable pub tried_after : List Rule → Judgement → Judgement
tried_after rs (refused k) = refused k
tried_after rs (passed c) = tried rs c

-- a search or monitoring: acceptance is to pass all sixteen
unfoldable pub judge : Option State → Inputs → Judgement
judge st i = tried_after (checks ++ last_checks) (read_call st i)

-- the signed-text call: to pass 1 to 14
unfoldable pub judge_without_head : Option State → Inputs → Judgement
judge_without_head st i = tried_after checks (read_call st i)
