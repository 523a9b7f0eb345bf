-- The calls as the library makes them (paper 01, Sixteen numbers): how their arguments and answers
-- stand for those of the rules.
use Rattle.std.specs.Prelude.{◌≡◌, Bool, true, false, not, ◌&&◌, ℕ, ◌-◌, ◌^◌, ◌+◌, ◌≤◌, ◌<◌, eqb, leb, length, take}
use Rattle.std.specs.Prelude.{Some, None, Option as CodeOption, Ok, Err, Result, IfOk}
use mathlib.Core.List.{List, [], ◌∷◌, ◌++◌, flatten}
use Rattle.std.proofs.Math.Option.{Option, none, some, Option-elim, get_or}
use Rattle.std.specs.Int.Count.{ones}
use Rattle.lists.specs.Choice.{is_some}
use Rattle.lists.specs.Lists.{Bytes, all, every, first, same, runs, unfalling}
use Rattle.hash.specs.Bytes.{padded}
use Rattle.tree.specs.Ladder.{ladder}
use Rattle.tree.specs.LogTree.{full_values}
use Rattle.lines.specs.Hex.{read_hex}
use Rattle.lines.specs.Readings.{part_of}
use Rattle.rules.specs.Limits.{configuration_limit, signed_text_limit, vrf_outputs_limit, identifier_length}
use Rattle.rules.specs.Limits.{response_limit, label_limit}
use Rattle.rules.specs.Limits.{opening_length, value_limit, tree_size_limit, greatest_version, hash_length}
use Rattle.rules.specs.Limits.{values_block_length}
use Rattle.rules.specs.VrfOutputs.{read_outputs}
use Rattle.rules.specs.State.{State, versions}
use Rattle.rules.specs.Response.{Kind, search, monitor, Target, Finding, searched, monitored, Entry, target_of}
use Rattle.rules.specs.Response.{step_versions, entry_timestamps}
use Rattle.rules.specs.ResponseText.{read_response}
use Rattle.rules.specs.Search.{is_complete}
use Rattle.rules.specs.Refusals.{Call, Judgement, refused, passed, Rule, rule, tried, judge_without_head}
use Rattle.rules.specs.Refusals.{tree_head_of}
use Rattle.rules.specs.Refusals.{known, log_walk, log_root, last_timestamp, valid_state, read_call, kind_rules}
use Rattle.rules.specs.Refusals.{asked}
use Rattle.rules.specs.Refusals.{commitment_asked, entries_asked, timestamp_fits, foreign, size_wrong}
use Rattle.rules.specs.Refusals.{target_wrong, not_as_asked}
use Rattle.rules.specs.Refusals.{output_missing, timestamps_wrong, lookup_fails, results_wrong, history_differs}
use Rattle.rules.specs.Refusals.{room_missing}
use Rattle.rules.specs.Calls.{Arguments, inputs_within, library_inputs, number_of, next_state, value_of}
use Rattle.rules.specs.Calls.{output_after}
use Rattle.inputs.specs.declared.state.State.{State as StateBlock}
use Rattle.inputs.specs.declared.refusal.Refusal.{Refusal}
use Rattle.inputs.specs.declared.refusal.Refusal.TheVariants.{Room}
use Rattle.inputs.specs.declared.state.Refused.{Refused}
use Rattle.inputs.specs.Refusal.{refusal_number, number_in}
use Rattle.inputs.specs.State.{block_of, state_of, map_of}
use Rattle.inputs.specs.Configuration.{configuration_in}
use Rattle.inputs.specs.ResponseLines.{decoded}
use Rattle.inputs.specs.declared.response_lines.Kind.{Kind as KindBlock}
use Rattle.inputs.specs.declared.response_lines.Kind.TheVariants.{Search, Monitor}
use Rattle.inputs.specs.declared.response_lines.Finding.{Finding as FindingBlock}
use Rattle.inputs.specs.declared.response_lines.Finding.TheVariants.{Search as Searched, Monitor as Monitored}
use Rattle.inputs.specs.declared.response.Response.{Response}
use Rattle.inputs.specs.Response.{parts_in, Offsets}
use Rattle.checks.specs.declared.call.Accepted.{Accepted}
use Rattle.checks.specs.declared.call.Found.{Found}
use Rattle.checks.specs.declared.readings.Call.{Call as CallBlock}
use Rattle.checks.specs.declared.trial.Tried.{Tried}
use Rattle.checks.specs.declared.trial.Checked.{Checked}
use Rattle.checks.specs.declared.trial.Shape.{Shape}
use Rattle.checks.specs.declared.trial.Passed.{Passed as PassedBlock}
use Rattle.checks.specs.Steps.{CommitmentsBy}
use Rattle.checks.specs.MonitoredVersions.{ArePairs}

-- the kind asked for
unfoldable pub asked_kind : CodeOption KindBlock → Option Kind
asked_kind (Some Search) = some search
asked_kind (Some Monitor) = some monitor
asked_kind None = none

-- what a call is given besides the kind, the state, the signed text and the output bytes
unfoldable pub arguments_of : Bytes → Bytes → Bytes → ℕ → Bytes → Arguments
arguments_of response configuration identifier clock outputs =
    record {
      response = response;
      configuration = configuration;
      identifier = identifier;
      clock = clock;
      vrf_outputs = outputs;
    }

-- the struct of the state afterwards: a refusal returns it as given
unfoldable pub block_after : StateBlock → Judgement → StateBlock
block_after b (refused k) = b
block_after b (passed c) = block_of (next_state c)

-- the version that was found; 0 where there is none
unfoldable pub version_of : Judgement → ℕ
version_of (refused k) = 0
version_of (passed c) = Option-elim (target_of c.parts.finding) 0 (λ t. t.version)

-- the answer to a call: 0 for acceptance, or the number of the refusal; the state afterwards; whether
-- a value was found, its version, and how many of the output bytes it fills
pub record Answer : Type 0 where
  pub number : ℕ
  pub state : StateBlock
  pub found : Bool
  pub version : ℕ
  pub length : ℕ

-- as the rules say
unfoldable pub answer_of : StateBlock → Judgement → Answer
answer_of b j =
    record {
      number = number_of j;
      state = block_after b j;
      found = is_some (value_of j);
      version = version_of j;
      length = length (get_or (value_of j) []);
    }

-- a refusal: the state given back, and no version nor value
abbrev pub refused_answer : ℕ → StateBlock → Answer
refused_answer n b = record { number = n; state = b; found = false; version = 0; length = 0 }

-- an acceptance, with what was found
abbrev pub accepted_answer : StateBlock → CodeOption Found → Answer
accepted_answer b None = record { number = 0; state = b; found = false; version = 0; length = 0 }
accepted_answer b (Some f) = record { number = 0; state = b; found = true; version = f.version; length = f.length }

-- as the code has it
unfoldable pub answer_in : Result Accepted Refused → Answer
answer_in (Ok a) = accepted_answer a.state a.found
answer_in (Err r) = refused_answer (refusal_number r.refusal) r.state

-- the length of the signed text that was placed, or the number of the refusal
unfoldable pub length_in : Result ℕ Refusal → ℕ
length_in (Ok n) = n
length_in (Err r) = refusal_number r

-- whether a signed text is placed: that of a call that passes, where there is room for it
unfoldable pub is_placed : Bytes → ℕ → Judgement → Bool
is_placed buffer offset (refused k) = false
is_placed buffer offset (passed c) = leb (offset + length (tree_head_of c)) (length buffer)

-- ==== for contracts of private functions alone

-- offsets in a text fit into 32 bits
abbrev pub offset_bound : ℕ
offset_bound = 2 ^ 32 - 1

-- ---- the arguments stand for a call that was read

-- of one that was read
pub record IsCall (c : Call) (k : CallBlock) (text outputs' : Bytes) : Type 0 where
  pub parts : c.parts ≡ parts_in text k.response
  pub configuration : c.configuration ≡ configuration_in c.inputs.configuration k.configuration
  pub clock : c.inputs.clock ≡ k.clock
  pub size : c.state.log.size ≡ k.kept_size
  pub timestamp : c.state.log.timestamp ≡ k.kept_timestamp
  pub outputs : read_outputs outputs' ≡ some c.outputs

-- with all that it was given
pub record IsGiven (c : Call) (limit : ℕ) (kind : Option Kind) (st : Option State) (k : CallBlock)
    (text configuration identifier outputs signed : Bytes) (room : ℕ) : Type 0 where
  pub call : IsCall c k text outputs
  pub inputs : c.inputs
      ≡ inputs_within limit kind (arguments_of text configuration identifier k.clock outputs) signed room
  pub state : st ≡ some c.state

-- the steps and the entries of a response, from its text
abbrev pub steps_text : Bytes → CallBlock → Bytes
steps_text text k = part_of text k.response.steps.part

abbrev pub entries_text : Bytes → CallBlock → Bytes
entries_text text k = part_of text k.response.entries.part

-- ---- 1 to 5

-- 1
abbrev pub are_lengths_fit : ℕ → Bytes → Bytes → Bytes → Bytes → Bytes → Bool
are_lengths_fit limit response configuration signed outputs identifier =
    every
    (leb (length response) limit
    ∷ leb (length configuration) configuration_limit
    ∷ leb (length signed) signed_text_limit
    ∷ leb (length outputs) vrf_outputs_limit
    ∷ eqb (length identifier) identifier_length
    ∷ [])

-- what else is known where none of 1 to 5 applies
pub record Readable (st : Option State) (text : Bytes) (k : CallBlock)
    (identifier' outputs' : Bytes) : Type 0 where
  pub valid : is_some (valid_state st) ≡ true
  pub offsets : Offsets text (Some k.response)
  pub read : read_response text ≡ some (parts_in text k.response)
  pub short : length text ≤ offset_bound
  pub identifier : length identifier' ≡ identifier_length
  pub outputs : is_some (read_outputs outputs') ≡ true
  pub few : length outputs' ≤ vrf_outputs_limit

-- the first of 1 to 5 that applies, or what was read
abbrev pub IsReading : ℕ → Option State → Bytes → Bytes → Bytes → ℕ → Bytes → Bytes → Result CallBlock Refusal
    → Type 0
IsReading limit st text configuration identifier clock outputs signed (Err e) =
    (kind : Option Kind) (room : ℕ)
    → read_call st (inputs_within limit kind (arguments_of text configuration identifier clock outputs) signed
    room) ≡ refused (refusal_number e)
IsReading limit st text configuration identifier clock outputs signed (Ok k) =
    Readable st text k identifier outputs × (k.clock ≡ clock)
    × ((kind : Option Kind) (room : ℕ)
    → (c : Call)
    × (read_call st (inputs_within limit kind (arguments_of text configuration identifier clock outputs)
    signed room) ≡ passed c)
    × IsGiven c limit kind st k text configuration identifier outputs signed room)

-- whether the state is valid, and what is kept of its log, is known
abbrev pub IsReadCall : ℕ → Bytes → Bytes → Bool → ℕ → ℕ → Bytes → ℕ → Bytes → Bytes → Result CallBlock Refusal
    → Type 0
IsReadCall limit text configuration valid size timestamp identifier clock outputs signed r =
    (st : Option State) → valid ≡ is_some (valid_state st)
    → ((s : State) → st ≡ some s → (s.log.size ≡ size) × (s.log.timestamp ≡ timestamp))
    → IsReading limit st text configuration identifier clock outputs signed r

-- ---- 6 to 16

-- the number of the first rule of some that applies, or 0
abbrev pub number_tried : List Rule → Call → ℕ
number_tried rs c = number_of (tried rs c)

-- an answer of the code tells the first rule of some that applies; where none does, something is
-- known of its value
abbrev pub Tells : {A : Type 0} → Result A Refusal → List Rule → Call → (A → Type 0) → Type 0
Tells r rs c P = (number_in r ≡ number_tried rs c) × IfOk r P

-- the rules, by the functions that try them
abbrev pub rules6to8 : List Rule
rules6to8 = rule 6 foreign ∷ rule 7 size_wrong ∷ rule 8 target_wrong ∷ []

abbrev pub rules9to11 : List Rule
rules9to11 = rule 9 not_as_asked ∷ rule 10 output_missing ∷ rule 11 timestamps_wrong ∷ []

abbrev pub rules12and13 : List Rule
rules12and13 = rule 12 lookup_fails ∷ rule 13 results_wrong ∷ []

abbrev pub rules14 : List Rule
rules14 = rule 14 history_differs ∷ []

abbrev pub rules9to13 : List Rule
rules9to13 = rules9to11 ++ rules12and13

abbrev pub rules6to13 : List Rule
rules6to13 = rules6to8 ++ rules9to13

abbrev pub rules16 : List Rule
rules16 = rule 16 room_missing ∷ []

-- ---- 6 to 8

-- the kind of the rules
unfoldable pub kind_in : KindBlock → Kind
kind_in Search = search
kind_in Monitor = monitor

-- a kind is the one asked for
unfoldable pub is_kind_asked : KindBlock → CodeOption KindBlock → Bool
is_kind_asked Search (Some Search) = true
is_kind_asked Search (Some Monitor) = false
is_kind_asked Monitor (Some Search) = false
is_kind_asked Monitor (Some Monitor) = true
is_kind_asked k None = false

-- 6
abbrev pub IsRequested : CodeOption KindBlock → Bytes → Response → Bytes → Bytes → Bool → Type 0
IsRequested asked text r identifier label b =
    (c : Call) → c.parts ≡ parts_in text r → c.inputs.kind ≡ asked_kind asked
    → c.inputs.identifier ≡ identifier
    → c.state.label ≡ label → b ≡ not (foreign c)

-- a finding is of the kind of another, with the version of a search
abbrev pub FoundKind : FindingBlock → Finding → Type 0
FoundKind (Searched b) f = (t : Target) × (f ≡ searched t) × (t.version ≡ b.version)
FoundKind Monitored f = f ≡ monitored

-- 8
abbrev pub FitsTarget : FindingBlock → List ℕ → Bool → Type 0
FitsTarget finding map b =
    (c : Call) → FoundKind finding c.parts.finding → versions c.state.monitoring_map ≡ map
    → b ≡ not (target_wrong c)

abbrev pub IsNumber6to8 : CodeOption KindBlock → Bytes → CallBlock → Bytes → Bytes → List ℕ → ℕ → Type 0
IsNumber6to8 asked text k identifier label map n =
    (c : Call) → c.parts ≡ parts_in text k.response → c.state.log.size ≡ k.kept_size
    → c.inputs.kind ≡ asked_kind asked → c.inputs.identifier ≡ identifier → c.state.label ≡ label
    → versions c.state.monitoring_map ≡ map → n ≡ number_tried rules6to8 c

-- ---- 9 to 14

-- the fields of the target of a search have their lengths
abbrev pub TargetFits : Bytes → FindingBlock → Type 0
TargetFits text (Searched t) =
    (t.version ≤ greatest_version) × (length (decoded (part_of text t.opening)) ≡ opening_length)
    × (length (decoded (part_of text t.value)) ≤ value_limit)
TargetFits text Monitored = Unit {0}

-- what is known of a response that was read, to which 8 does not apply, and of the outputs
pub record Triable (text : Bytes) (k : CallBlock) (outputs' : Bytes) : Type 0 where
  pub offsets : Offsets text (Some k.response)
  pub short : length text ≤ offset_bound
  pub outputs : length outputs' ≤ vrf_outputs_limit
  pub target : TargetFits text k.response.finding

-- and of the pairs of a valid state, where none of 6 to 8 applies
pub record Shapeable (text : Bytes) (k : CallBlock) (positions versions' : List ℕ)
    (outputs' : Bytes) : Type 0 where
  pub triable : Triable text k outputs'
  pub nonempty : 0 < k.response.tree_size
  pub largest : k.response.tree_size ≤ tree_size_limit
  pub grown : k.kept_size ≤ k.response.tree_size
  pub pairs : ArePairs positions versions'

-- steps, commitments and entries are as asked: 9 but for the number of nodes
abbrev pub is_shaped : Call → Bool
is_shaped c =
    same (step_versions c.parts) (kind_rules c).steps
    && all (commitment_asked (kind_rules c).is_committed) c.parts.steps
    && entries_asked (kind_rules c).versions_fit (asked c) c.parts.entries

-- where they are: of 10 and 11, whether the outputs are there, whether the times fit but for the
-- clock, and the time of the last entry; then the offsets of the commitments
pub record Shaped (c : Call) (steps : Bytes) (s : Shape) (offsets : List ℕ) : Type 0 where
  pub shaped : is_shaped c ≡ true
  pub outputs : s.outputs ≡ not (output_missing c)
  pub timestamps : s.timestamps.fit
      ≡ (unfalling (entry_timestamps c.parts) && all (timestamp_fits c.state.log) c.parts.entries)
  pub timestamp : s.timestamps.latest ≡ last_timestamp c
  pub stand : s.outputs ≡ true → CommitmentsBy steps c.outputs offsets c.parts.steps

-- they are, or are not
abbrev pub HasShape : Call → Bytes → CodeOption Shape → List ℕ → Type 0
HasShape c steps None offsets = is_shaped c ≡ false
HasShape c steps (Some s) offsets = Shaped c steps s offsets

abbrev pub IsShape : Bytes → CallBlock → List ℕ → List ℕ → Bytes → CodeOption Shape → List ℕ → Type 0
IsShape text k ps vs outputs s offsets =
    (c : Call) → IsCall c k text outputs → c.state.monitoring_map ≡ map_of ps vs
    → HasShape c (steps_text text k) s offsets

-- 9 to 11, and where none of them applies the time of the last entry and the offsets of the
-- commitments
abbrev pub Is9to11Tried : Bytes → CallBlock → List ℕ → List ℕ → Bytes → Result ℕ Refusal → List ℕ → Type 0
Is9to11Tried text k ps vs outputs r offsets =
    (c : Call) → IsCall c k text outputs → c.state.monitoring_map ≡ map_of ps vs
    → Tells r rules9to11 c (λ t. (t ≡ last_timestamp c)
    × CommitmentsBy (steps_text text k) c.outputs offsets c.parts.steps)

-- the position of the first complete entry of a search
abbrev pub IsFirst : FindingBlock → Call → ℕ → Type 0
IsFirst (Searched t) c position =
    (e : Entry) × (first (is_complete (ladder t.version) t.version) c.parts.entries ≡ some e) × (position ≡ e.position)
IsFirst Monitored c position = Unit {0}

-- 12 and 13, of a call to which neither 9 nor 10 applies, and where neither of them does the
-- position of the first complete entry
abbrev pub IsJudged : Bytes → CallBlock → Bytes → Bytes → List ℕ → Result ℕ Refusal → Type 0
IsJudged text k label outputs offsets j =
    (c : Call) → IsCall c k text outputs → c.parts.label ≡ label → not_as_asked c ≡ false
    → output_missing c ≡ false
    → CommitmentsBy (steps_text text k) c.outputs offsets c.parts.steps
    → Tells j rules12and13 c (IsFirst k.response.finding c)

-- what comes of a call to which none of 6 to 13 applies
pub record Passed (c : Call) (k : CallBlock) (t : Tried) : Type 0 where
  pub is_first : IsFirst k.response.finding c t.position
  pub timestamp : t.timestamp ≡ last_timestamp c

-- 9 to 13, of a call to which none of 6 to 8 applies
abbrev pub Is9to13Tried : Bytes → CallBlock → Bytes → List ℕ → List ℕ → Bytes → Result Tried Refusal → Type 0
Is9to13Tried text k label ps vs outputs r =
    (c : Call) → IsCall c k text outputs → c.parts.label ≡ label → c.state.monitoring_map ≡ map_of ps vs
    → Tells r rules9to13 c (Passed c k)

-- the block of the values of the full subtrees afterwards
abbrev pub values_block : Call → Bytes
values_block c =
    padded values_block_length
    (flatten (full_values c.parts.tree_size (known c) (log_walk c) c.parts.nodes))

-- what comes of a call to which none of 6 to 14 applies
pub record Leaves (c : Call) (k : CallBlock) (r : Checked) (block : Bytes) : Type 0 where
  pub is_first : IsFirst k.response.finding c r.position
  pub timestamp : r.timestamp ≡ last_timestamp c
  pub root : r.root ≡ log_root c
  pub values : block ≡ values_block c

-- 14, of a call to which none of 6 to 13 applies
abbrev pub Is14Tried : Bytes → CallBlock → Tried → Bytes → Result Checked Refusal → Bytes → Type 0
Is14Tried text k t kept r block =
    (c : Call) (ps vs : List ℕ) (outputs : Bytes) → IsCall c k text outputs → Shapeable text k ps vs outputs
    → not_as_asked c ≡ false → Passed c k t
    → c.state.log.values ≡ runs (ones k.kept_size) hash_length kept
    → Tells r rules14 c (λ x. Leaves c k x block)

-- ---- 1 to 14

-- what is known of a call that was read, and of a valid state
pub record Checkable (text : Bytes) (k : CallBlock) (identifier' : Bytes) (b : StateBlock)
    (outputs' : Bytes) : Type 0 where
  pub offsets : Offsets text (Some k.response)
  pub read : read_response text ≡ some (parts_in text k.response)
  pub short : length text ≤ offset_bound
  pub identifier : length identifier' ≡ identifier_length
  pub outputs : length outputs' ≤ vrf_outputs_limit
  pub label_within : b.label.length ≤ length b.label.bytes
  pub label_fits : b.label.length ≤ label_limit
  pub positions_within : b.map.count ≤ length b.map.positions
  pub versions_within : b.map.count ≤ length b.map.versions
  pub pairs : ArePairs (take b.map.count b.map.positions) (take b.map.count b.map.versions)

abbrev pub Is6to13Tried : CodeOption KindBlock → Bytes → CallBlock → Bytes → StateBlock → Bytes
    → Result Tried Refusal → Type 0
Is6to13Tried asked text k identifier b outputs r =
    (c : Call) → IsCall c k text outputs → c.inputs.kind ≡ asked_kind asked
    → c.inputs.identifier ≡ identifier → c.state.label ≡ take b.label.length b.label.bytes
    → c.state.monitoring_map ≡ map_of (take b.map.count b.map.positions) (take b.map.count b.map.versions)
    → Tells r rules6to13 c (Passed c k)

-- the first of 1 to 14 that applies, or the call and what comes of it, whatever room there is for the
-- value
abbrev pub Is1to14Tried : CodeOption KindBlock → Bytes → Bytes → StateBlock → Bytes → ℕ → Bytes → Bytes
    → Result PassedBlock Refusal → Bytes → Type 0
Is1to14Tried asked text configuration b identifier clock outputs signed (Err e) block =
    (room : ℕ)
    → judge_without_head (state_of b) (library_inputs (asked_kind asked)
    (arguments_of text configuration identifier clock outputs) signed room) ≡ refused (refusal_number e)
Is1to14Tried asked text configuration b identifier clock outputs signed (Ok p) block =
    Readable (state_of b) text p.call identifier outputs
    × ((room : ℕ)
    → (c : Call)
    × (judge_without_head (state_of b) (library_inputs (asked_kind asked)
    (arguments_of text configuration identifier clock outputs) signed room) ≡ passed c)
    × IsGiven c response_limit (asked_kind asked) (state_of b) p.call text configuration identifier outputs
    signed room × Leaves c p.call p.checked block)

-- ---- 15 and 16

-- what is written to the output bytes: the value of a search, of monitoring nothing
abbrev pub value_by : Bytes → FindingBlock → Option Bytes
value_by text (Searched t) = read_hex (part_of text t.value)
value_by text Monitored = some []

-- what is found, from the offset after what was written
unfoldable pub found_by : FindingBlock → Option ℕ → Result (CodeOption Found) Refusal
found_by finding none = Err Room
found_by (Searched t) (some n) = Ok (Some (record { version = t.version; length = n }))
found_by Monitored (some n) = Ok None

-- what is answered, of a state lent: a refusal gives it back
unfoldable pub answer_from : StateBlock → Result Accepted Refusal → Answer
answer_from b (Ok a) = accepted_answer a.state a.found
answer_from b (Err e) = refused_answer (refusal_number e) b

-- what is known of a call to which none of 1 to 15 applies
pub record Accepting (c : Call) (text : Bytes) (k : CallBlock) (b : StateBlock) (r : Checked) (block : Bytes)
    (room : ℕ) : Type 0 where
  pub parts : c.parts ≡ parts_in text k.response
  pub read : read_response text ≡ some (parts_in text k.response)
  pub offsets : Offsets text (Some k.response)
  pub state : state_of b ≡ some c.state
  pub leaves : Leaves c k r block
  pub is_room : c.inputs.room ≡ room

abbrev pub IsAcceptedAnswer : Bytes → CallBlock → StateBlock → Checked → Bytes → ℕ → Result Accepted Refusal → Type 0
IsAcceptedAnswer text k b r block room a =
    (c : Call) → Accepting c text k b r block room → answer_from b a ≡ answer_of b (tried rules16 c)

abbrev pub AreAcceptedBytes : Bytes → CallBlock → StateBlock → Checked → Bytes → Bytes → Bytes → Type 0
AreAcceptedBytes text k b r block output output' =
    (c : Call) → Accepting c text k b r block (length output) → output' ≡ output_after output (tried rules16 c)
