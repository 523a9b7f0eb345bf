-- The calls as C programs make them, and the program: what is answered, the lent bytes afterwards,
-- the files written. A call whose outcome was computed already is not computed again: what it
-- leaves follows from its outcome.
use mathlib.Core.Path.{◌≡◌, refl, sym, ap, ◌∙◌}
use mathlib.Core.List.{[], ◌∷◌, ◌++◌}
use mathlib.Core.Option.{Option, none, some, get_or, some-injective}
use Prim.Native.Nat.{ℕ, ◌+◌, ◌-◌, ◌*◌, ◌^◌}
use lib.ListN.{length, replicate}
use Rattle.lists.specs.Lists.{Bytes}
use Rattle.lines.specs.Number.{ascii}
use Rattle.rules.specs.Limits.{state_text_limit}
use Rattle.rules.specs.State.{State}
use Rattle.rules.specs.StateText.{read_state, write_state}
use Rattle.rules.specs.Refusals.{Inputs, Judgement, refused, judge}
use Rattle.rules.specs.Calls.{Arguments, inputs_within, library_inputs, judge_call, judge_search, judge_monitoring}
use Rattle.rules.specs.Calls.{next_state, state_after, value_of, written_first, text_of, answer_word, output_after}
use Rattle.rules.specs.Calls.{text_after, text_judged, room_judged, kt_call, kt_search, kt_monitor, kt_signed_text}
use Rattle.rules.specs.Program.{judge_files, printed}
use Rattle.rules.proofs.RefusalLaws.{zero_accepts}
use Rattle.rules.proofs.Running.{x, opened}
use Rattle.rules.proofs.Cases.{Accepted, identifier, configuration, sheet_0, sheet_1, signed, response}
use Rattle.rules.proofs.Cases.{head_line, end_line, honest, new, after_search, accepted_search, bare_entry}
use Rattle.rules.proofs.Cases.{bare_root, state_text, folder, old_state, texts}
use Rattle.cases.proofs.HashedCases.{monitoring, after_monitoring, accepted_monitoring, number-of}
use Rattle.cases.proofs.HashedCases.{state-of, value-of}

abbrev new_text_lem : Bytes
new_text_lem = ascii "size\t0\t0\t61\n"

abbrev monitored_text : Bytes
monitored_text = ascii "size\t2\t1001\t61\nkeep\t586c84a5bec17d274bd69152ce3b4bae918e614b514f266376c6ee0baf8df895\npair\t1\t0\n"

abbrev bare_response : Bytes
bare_response = ascii "kt\tmonitor\t000102030405060708090a0b0c0d0e0f\t61\n" ++ head_line ++ bare_entry ++ end_line

abbrev bare_signed : Bytes
bare_signed = configuration ++ x "0000000000000001" ++ bare_root

abbrev bare_text : Bytes
bare_text = ascii "size\t1\t1000\t61\nkeep\t1926b0eec68d03a909005453247b7c66591fbfe00c25d10b1e6c07850d1bad43\n"

abbrev bare_arguments : Arguments
bare_arguments = record { response = bare_response; configuration = configuration; identifier = identifier; clock = 1000; vrf_outputs = [] }

abbrev arguments : Arguments
arguments = record { response = response; configuration = configuration; identifier = identifier; clock = 1000; vrf_outputs = sheet_0 ++ sheet_1 }

abbrev monitoring_arguments : Arguments
monitoring_arguments =
    record {
      response = monitoring.response;
      configuration = monitoring.configuration;
      identifier = monitoring.identifier;
      clock = monitoring.clock;
      vrf_outputs = monitoring.vrf_outputs;
    }

-- the answer, the output bytes and the bytes lent for the new text
pub record Seen : Type 0 where
  pub answer : ℕ
  pub output : Bytes
  pub text : Bytes

unfoldable pub seen : Bytes → Bytes → Judgement → Seen
seen output lent j = record { answer = answer_word j; output = output_after output j; text = text_after lent j }

-- the same of an accepted call, by its value and the text of its new state
unfoldable seen_of : Bytes → Bytes → Option Bytes → Bytes → Seen
seen_of output lent v text =
    record {
      answer = 0 + length (get_or v []) * 2 ^ 8 + length text * 2 ^ 32;
      output = written_first output v;
      text = written_first lent (some text);
    }

module _ (s : Option State) (i : Inputs) (t : State) (v : Option Bytes) (e : Accepted s i t v) where
  accepted-text : text_of (judge s i) ≡ some (write_state t)
  unfolding state_after text_of
  accepted-text =
      let (c, p) = zero_accepts s i (number-of s (some t) i 0 v e) in
      let q = some-injective (next_state c) t (sym (ap (state_after s) p) ∙ state-of s (some t) i 0 v e) in
      ap text_of p ∙ ap (λ (u : State). some (write_state u)) q

  accepted-seen : (output lent : Bytes) → seen output lent (judge s i) ≡ seen_of output lent v (write_state t)
  unfolding seen seen_of answer_word output_after text_after get_or
  accepted-seen output lent = rw (number-of s (some t) i 0 v e, value-of s (some t) i 0 v e, accepted-text) refl

-- bytes lent for the new text: just enough, and one byte less
abbrev enough : Bytes
enough = replicate state_text_limit 7

abbrev too_few : Bytes
too_few = replicate (state_text_limit - 1) 7

-- what a search is seen to leave, and monitoring
abbrev search_left : Seen
search_left =
    record {
      answer = 1 * 2 ^ 8 + length state_text * 2 ^ 32;
      output = 0x78 ∷ [];
      text = state_text ++ replicate (state_text_limit - length state_text) 7;
    }

abbrev monitoring_left : Seen
monitoring_left =
    record {
      answer = length monitored_text * 2 ^ 32;
      output = [];
      text = monitored_text ++ replicate (state_text_limit - length monitored_text) 7;
    }

-- what is computed of them without judging: the texts read and written, the lengths compared
record Computed : Type 0 where
  state : read_state new_text_lem ≡ new
  search-judged : (j : Judgement) → text_judged new_text_lem (room_judged enough j) ≡ j
  search-roomless : (j : Judgement) → text_judged new_text_lem (room_judged too_few j) ≡ refused 1
  monitoring-judged : (j : Judgement) → text_judged state_text (room_judged enough j) ≡ j
  search-seen : seen_of (7 ∷ []) enough (some (x "78")) (write_state after_search) ≡ search_left
  monitoring-seen : seen_of [] enough none (write_state after_monitoring) ≡ monitoring_left
  refusal-seen : seen (7 ∷ 7 ∷ 7 ∷ []) too_few (refused 1) ≡ record { answer = 1; output = 7 ∷ 7 ∷ 7 ∷ []; text = too_few }
  value_written : written_first (7 ∷ 7 ∷ 7 ∷ []) (some (x "78")) ≡ 0x78 ∷ 7 ∷ 7 ∷ []

computed : Computed
unfolding opened seen seen_of
computed =
    record {
      state = refl;
      search-judged = λ j. refl;
      search-roomless = λ j. refl;
      monitoring-judged = λ j. refl;
      search-seen = refl;
      monitoring-seen = refl;
      refusal-seen = refl;
      value_written = refl;
    }

-- a search lent just enough for the value and for the new text
pub search_answered : seen (7 ∷ []) enough (kt_search new_text_lem arguments signed (7 ∷ []) enough) ≡ search_left
unfolding kt_search kt_call judge_call judge_search library_inputs inputs_within
search_answered =
    ap (seen (7 ∷ []) enough)
    (computed.search-judged (judge (read_state new_text_lem) honest) ∙ ap (λ (s : Option State). judge s honest) computed.state)
    ∙ accepted-seen new honest after_search (some (x "78")) accepted_search (7 ∷ []) enough ∙ computed.search-seen

-- the bytes after the value stay
pub value_first : output_after (7 ∷ 7 ∷ 7 ∷ []) (judge new honest) ≡ 0x78 ∷ 7 ∷ 7 ∷ []
unfolding output_after
value_first =
    ap (written_first (7 ∷ 7 ∷ 7 ∷ [])) (value-of new (some after_search) honest 0 (some (x "78")) accepted_search) ∙ computed.value_written

-- one byte less for the new text is 1, and every lent byte stays
pub search_without_room : seen (7 ∷ 7 ∷ 7 ∷ []) too_few (kt_search new_text_lem arguments signed (7 ∷ 7 ∷ 7 ∷ []) too_few)
    ≡ record { answer = 1; output = 7 ∷ 7 ∷ 7 ∷ []; text = too_few }
unfolding kt_search kt_call judge_call judge_search
search_without_room =
    ap (seen (7 ∷ 7 ∷ 7 ∷ []) too_few) (computed.search-roomless (judge_search (read_state new_text_lem) arguments signed (7 ∷ 7 ∷ 7 ∷ [])))
    ∙ computed.refusal-seen

-- monitoring has no output
pub monitoring_answered : seen [] enough (kt_monitor state_text monitoring_arguments monitoring.signed_text enough) ≡ monitoring_left
unfolding kt_monitor kt_call judge_call judge_monitoring library_inputs inputs_within
monitoring_answered =
    ap (seen [] enough)
    (computed.monitoring-judged (judge (read_state state_text) monitoring) ∙ ap (λ (s : Option State). judge s monitoring) texts.state_read)
    ∙ accepted-seen (some after_search) monitoring after_monitoring none accepted_monitoring [] enough ∙ computed.monitoring-seen

-- the signed text of monitoring goes where the offset says, and the bytes around it stay; at an
-- offset with one byte too little after it nothing is written; a kind number that is no kind is 6
pub record SignedTexts : Type 0 where
  pub placed : kt_signed_text 1 new_text_lem bare_arguments (replicate 80 7) 3 ≡ (73, replicate 3 7 ++ bare_signed ++ replicate 4 7)
  pub no_room : kt_signed_text 1 new_text_lem bare_arguments (replicate 80 7) 8 ≡ (16, replicate 80 7)
  pub no_kind : kt_signed_text 2 new_text_lem bare_arguments (replicate 80 7) 3 ≡ (6, replicate 80 7)

pub signed_texts : SignedTexts
unfolding opened
signed_texts = record { placed = refl; no_room = refl; no_kind = refl }

-- ---- the program

-- the line printed, the file `state.new`, the file `value`
pub record Left : Type 0 where
  pub printed-line : Bytes
  pub state-file : Option Bytes
  pub value-file : Option Bytes

unfoldable pub left_by : Judgement → Left
left_by j = record { printed-line = printed j; state-file = text_of j; value-file = value_of j }

pub program_searches : left_by (judge_files (folder (some (ascii "search\t000102030405060708090a0b0c0d0e0f\t1000\n")) (some response) (some configuration) old_state (some signed)))
    ≡ record { printed-line = ascii "yes\t0\t1\t1\n"; state-file = some state_text; value-file = some (x "78") }
unfolding opened left_by
program_searches = refl

-- monitoring prints `-` for t and writes no value
pub program_monitors : left_by (judge_files (folder (some (ascii "monitor\t000102030405060708090a0b0c0d0e0f\t1000\n")) (some bare_response) (some configuration) old_state (some bare_signed)))
    ≡ record { printed-line = ascii "yes\t-\t1\t0\n"; state-file = some bare_text; value-file = none }
unfolding opened left_by
program_monitors = refl
