-- Whole calls that hash: monitoring after the accepted search, refusals with 12 and 13, and two
-- chains of calls.
use mathlib.Core.Path.{◌≡◌, refl, sym, ap, ap₂, ◌∙◌}
use mathlib.Core.List.{List, [], ◌∷◌, ◌++◌, map, flat_map}
use mathlib.Core.Option
use mathlib.Core.Option.{Option, none, some, some-injective}
use Prim.Native.Nat.{ℕ}
use Rattle.lists.specs.Lists.{Bytes}
use Rattle.lines.specs.Number.{ascii}
use Rattle.tree.specs.LogTree.{LogEntry}
use Rattle.rules.specs.Limits.{response_limit}
use Rattle.rules.specs.State.{State}
use Rattle.rules.specs.Response.{monitor, Parts, log_entry}
use Rattle.rules.specs.ResponseText.{read_response}
use Rattle.rules.specs.Refusals.{Inputs, Call, refused, passed, judge}
use Rattle.rules.specs.Calls.{number_of, state_after, value_of}
use Rattle.rules.specs.Consistency.{accepted_calls, shown_by}
use Rattle.rules.proofs.RefusalLaws.{accepted_meaning, readings_were, zero_accepts, chain_accepted}
use Rattle.rules.proofs.RefusalLaws.{chain_refused}
use Rattle.rules.proofs.Running.{x, pair, outcome, outcome_of, opened}
use Rattle.rules.proofs.Cases.{Refused, Accepted, identifier, configuration, sheet_0, sheet_1, signed}
use Rattle.rules.proofs.Cases.{kt_line, head_line, target_line, step_lines, entry_line, in_line, nl_line}
use Rattle.rules.proofs.Cases.{end_line, response, searching, honest, answering, new, watching, after_search}
use Rattle.rules.proofs.Cases.{accepted_search}

-- ---- monitoring: version 1 was added in a second entry, which stands on the right path of entry 0

abbrev pub root_of_two : Bytes
root_of_two = x "586c84a5bec17d274bd69152ce3b4bae918e614b514f266376c6ee0baf8df895"

abbrev pub monitoring : Inputs
monitoring =
    record {
      limit = response_limit;
      kind = some monitor;
      response =
          ascii "kt\tmonitor\t000102030405060708090a0b0c0d0e0f\t61\n" ++ ascii "head\t2\n"
          ++ ascii "step\t0\tc337ee9f07ed7b3ce06bb323f8170d5b410c219602c13456b3dbbe0f70f95d62\n"
          ++ ascii "entry\t1\t1001\tb19a756adc46aded582c0152f539fc2af21ee6b91b6923e1f65e6546d5fa9acc\n"
          ++ ascii "in\t0\t5ec370ac7057c9571e7b94f29e374d6aadfab6e9ad8340962e2a64acd3a7b2dd\n" ++ end_line;
      configuration = configuration;
      identifier = identifier;
      clock = 1000;
      vrf_outputs = sheet_0;
      signed_text = configuration ++ x "0000000000000002" ++ root_of_two;
      room = 0;
    }

abbrev pub after_monitoring : State
after_monitoring = record { label = x "61"; log = record { size = 2; timestamp = 1001; values = root_of_two ∷ [] }; monitoring_map = pair 1 0 ∷ [] }

pub accepted_monitoring : Accepted (some after_search) monitoring after_monitoring none
unfolding opened
accepted_monitoring = refl

-- ---- 12

-- another value than the one committed to
pub other_value : Refused new (answering (kt_line ++ head_line ++ ascii "target\t0\t30303030303030303030303030303030\t79\n" ++ step_lines ++ entry_line ++ in_line ++ nl_line ++ end_line)) 12
unfolding opened
other_value = refl

-- ---- 13

-- an `in` above t: its path is not tried
pub in_above_target : Refused new (answering (kt_line ++ head_line ++ target_line ++ step_lines ++ entry_line ++ in_line ++ ascii "in\t1\t-\n" ++ end_line)) 13
unfolding opened
in_above_target = refl

-- the only entry is short
pub last_entry_short : Refused new (answering (kt_line ++ head_line ++ target_line ++ step_lines
    ++ ascii "entry\t0\t1000\t0000000000000000000000000000000000000000000000000000000000000000\n" ++ ascii "no\t0\t-\n" ++ end_line)) 13
unfolding opened
last_entry_short = refl

-- ---- a chain: a search with the clock too early, the accepted search, monitoring

abbrev early : Inputs
early = searching response configuration identifier 989 (sheet_0 ++ sheet_1) signed 1

early_refused : judge new early ≡ refused 11
unfolding opened
early_refused = refl

-- the number, the state and the value of an outcome
module _ (s t : Option State) (i : Inputs) (k : ℕ) (v : Option Bytes) (e : outcome s i ≡ (k, (t, v))) where
  pub number-of : number_of (judge s i) ≡ k
  unfolding outcome outcome_of
  number-of = ap (λ (o : ℕ × (Option State × Option Bytes)). o.0) e

  pub state-of : state_after s (judge s i) ≡ t
  unfolding outcome outcome_of
  state-of = ap (λ (o : ℕ × (Option State × Option Bytes)). o.1.0) e

  pub value-of : value_of (judge s i) ≡ v
  unfolding outcome outcome_of
  value-of = ap (λ (o : ℕ × (Option State × Option Bytes)). o.1.1) e

-- a chain that begins with the accepted search goes on from the state after it
search_first : (is : List Inputs) → (c : Call) × (judge new honest ≡ passed c) × (accepted_calls new (honest ∷ is) ≡ c ∷ accepted_calls (some after_search) is)
search_first is =
    let (c, p) = zero_accepts new honest (number-of new (some after_search) honest 0 (some (x "78")) accepted_search) in
    let t = state-of new (some after_search) honest 0 (some (x "78")) accepted_search in
    (c, p, chain_accepted new honest is c p ∙ ap (λ (s : Option State). c ∷ accepted_calls s is) t)

-- two of its three calls are accepted, each call with the state that the last one returned
pub chain_of_three : (c d : Call) × (accepted_calls new (early ∷ honest ∷ monitoring ∷ []) ≡ c ∷ d ∷ [])
unfolding accepted_calls
chain_of_three =
    let (c, _, q) = search_first (monitoring ∷ []) in
    let (d, p) = zero_accepts (some after_search) monitoring (number-of (some after_search) (some after_monitoring) monitoring 0 none accepted_monitoring) in (
      c,
      d,
      chain_refused new early (honest ∷ monitoring ∷ []) 11 early_refused ∙ q
          ∙ ap (λ (cs : List Call). c ∷ cs) (chain_accepted (some after_search) monitoring [] d p),
    )

-- ---- a chain of two calls that show one entry: the search, and monitoring of the same log

abbrev monitoring_again : Inputs
monitoring_again = watching (head_line ++ entry_line) [] signed

monitored_again : Accepted (some after_search) monitoring_again after_search none
unfolding opened
monitored_again = refl

abbrev first_entry : LogEntry
first_entry = record { position = 0; timestamp = 1000; prefix_root = x "0470a5b73e5d7206f13eb1efafa43a2e45df17b7bca61b55cda03fac3c31c624" }

-- the entries that a response shows
abbrev shown_in : Parts → List LogEntry
shown_in p = map log_entry p.entries

pub record ResponsesShow : Type 0 where
  pub searched : Option.map shown_in (read_response honest.response) ≡ some (first_entry ∷ [])
  pub monitored : Option.map shown_in (read_response monitoring_again.response) ≡ some (first_entry ∷ [])

responses_show : ResponsesShow
unfolding opened
responses_show = record { searched = refl; monitored = refl }

-- a call that accepts a response shows them
call_shows : (s : Option State) (i : Inputs) (c : Call) (es : List LogEntry) → judge s i ≡ passed c → Option.map shown_in (read_response i.response) ≡ some es
    → shown_in c.parts ≡ es
call_shows s i c es e r =
    let p = (readings_were s i c (accepted_meaning s i c e).0).parts in
    some-injective (shown_in c.parts) es (sym (ap (Option.map shown_in) p) ∙ r)

-- both calls are accepted, and both show entry 0
pub shown_twice : shown_by (accepted_calls new (honest ∷ monitoring_again ∷ [])) ≡ first_entry ∷ first_entry ∷ []
unfolding accepted_calls shown_by flat_map
shown_twice =
    let (c, p, q) = search_first (monitoring_again ∷ []) in
    let (d, r) = zero_accepts (some after_search) monitoring_again (number-of (some after_search) (some after_search) monitoring_again 0 none monitored_again) in
    ap shown_by (q ∙ ap (λ (cs : List Call). c ∷ cs) (chain_accepted (some after_search) monitoring_again [] d r))
    ∙ ap₂ (λ (l m : List LogEntry). l ++ (m ++ [])) (call_shows new honest c (first_entry ∷ []) p responses_show.searched)
    (call_shows (some after_search) monitoring_again d (first_entry ∷ []) r responses_show.monitored)
