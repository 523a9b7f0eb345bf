-- Whole calls, computed with the real SHA-256. A log of one entry holds version 0 of the label "a":
-- the value "x". Each refused call differs from the accepted one in one thing; for refusals before
-- 12 nothing is hashed.
use mathlib.Core.Path.{◌≡◌, refl}
use mathlib.Core.List.{List, [], ◌∷◌, ◌++◌}
use mathlib.Core.Option.{Option, none, some, map}
use Prim.Native.Nat.{ℕ}
use Rattle.lists.specs.Lists.{Bytes}
use Rattle.lines.specs.Number.{ascii}
use Rattle.rules.specs.Limits.{response_limit}
use Rattle.rules.specs.Configuration.{read_configuration, write_configuration}
use Rattle.rules.specs.State.{MapEntry, State, empty_state}
use Rattle.rules.specs.StateText.{read_state, write_state}
use Rattle.rules.specs.Response.{Kind, search, monitor}
use Rattle.rules.specs.ResponseText.{read_response, write_response}
use Rattle.rules.specs.Refusals.{Inputs}
use Rattle.rules.specs.Calls.{number_of}
use Rattle.rules.specs.Program.{Files, judge_files, printed}
use Rattle.rules.proofs.Running.{x, outcome, opened, pair}

-- a call answers a number and leaves the state as given; a call is accepted, with a new state and a
-- value
abbrev pub Refused : Option State → Inputs → ℕ → Type 0
Refused s i k = outcome s i ≡ (k, (s, none))

abbrev pub Accepted : Option State → Inputs → State → Option Bytes → Type 0
Accepted s i s' value = outcome s i ≡ (0, (some s', value))

-- ---- the accepted search

abbrev pub identifier : Bytes
identifier = x "000102030405060708090a0b0c0d0e0f"

-- max_ahead is 10, max_behind 1000
abbrev pub configuration : Bytes
configuration = x "0001010001040000000000000000000a00000000000003e8000000000000000000"

abbrev pub sheet_0 : Bytes
sheet_0 = x "000000000011111111111111111111111111111111111111111111111111111111111111"

abbrev pub sheet_1 : Bytes
sheet_1 = x "000000018011111111111111111111111111111111111111111111111111111111111111"

abbrev pub log_root_lem : Bytes
log_root_lem = x "6842d1bc293083ea7b011b18167d992105f9bcb8cf66364b49417fd93dbb2c23"

abbrev pub signed : Bytes
signed = configuration ++ x "0000000000000001" ++ log_root_lem

abbrev pub kt_line : Bytes
kt_line = ascii "kt\tsearch\t000102030405060708090a0b0c0d0e0f\t61\n"

abbrev pub head_line : Bytes
head_line = ascii "head\t1\n"

abbrev pub target_line : Bytes
target_line = ascii "target\t0\t30303030303030303030303030303030\t78\n"

abbrev pub step_lines : Bytes
step_lines = ascii "step\t0\t-\nstep\t1\t-\n"

abbrev pub entry_line : Bytes
entry_line = ascii "entry\t0\t1000\t0470a5b73e5d7206f13eb1efafa43a2e45df17b7bca61b55cda03fac3c31c624\n"

abbrev pub in_line : Bytes
in_line = ascii "in\t0\t-\n"

abbrev pub nl_line : Bytes
nl_line = ascii "nl\t1\t0011111111111111111111111111111111111111111111111111111111111111\tc337ee9f07ed7b3ce06bb323f8170d5b410c219602c13456b3dbbe0f70f95d62\t-\n"

abbrev pub end_line : Bytes
end_line = ascii "end\n"

abbrev pub response : Bytes
response = kt_line ++ head_line ++ target_line ++ step_lines ++ entry_line ++ in_line ++ nl_line ++ end_line

-- a kind, a response, a configuration, an identifier, a clock, a sheet, a signed text and bytes of
-- output
abbrev pub asking : Kind → Bytes → Bytes → Bytes → ℕ → Bytes → Bytes → ℕ → Inputs
asking kind r c id clock sheet s room =
    record {
      limit = response_limit;
      kind = some kind;
      response = r;
      configuration = c;
      identifier = id;
      clock = clock;
      vrf_outputs = sheet;
      signed_text = s;
      room = room;
    }

abbrev pub searching : Bytes → Bytes → Bytes → ℕ → Bytes → Bytes → ℕ → Inputs
searching r c id clock sheet s room = asking search r c id clock sheet s room

abbrev pub honest : Inputs
honest = searching response configuration identifier 1000 (sheet_0 ++ sheet_1) signed 1

-- another response
abbrev pub answering : Bytes → Inputs
answering r = searching r configuration identifier 1000 (sheet_0 ++ sheet_1) signed 1

abbrev pub new : Option State
new = some (empty_state (x "61"))

-- a state of so many entries, whose one value is given, at time 1000, with pairs
abbrev pub kept : ℕ → Bytes → List MapEntry → State
kept m value entries = record { label = x "61"; log = record { size = m; timestamp = 1000; values = value ∷ [] }; monitoring_map = entries }

abbrev pub after_search : State
after_search = kept 1 log_root_lem (pair 0 0 ∷ [])

pub accepted_search : Accepted new honest after_search (some (x "78"))
unfolding opened
accepted_search = refl

-- ---- refusals before any hashing

pub record RefusedUnhashed : Type 0 where
  pub identifier-too-short : Refused new (searching response configuration (x "000102030405060708090a0b0c0d0e") 1000 (sheet_0 ++ sheet_1) signed 1) 1
  pub mode-3 : Refused new (searching response (x "0001030001040000000000000000000a00000000000003e8000000000000000000") identifier 1000 (sheet_0 ++ sheet_1) signed 1) 2
  pub suite-2 : Refused new (searching response (x "0002010001040000000000000000000a00000000000003e8000000000000000000") identifier 1000 (sheet_0 ++ sheet_1) signed 1) 2
  pub byte-left-over : Refused new (searching response (configuration ++ 0 ∷ []) identifier 1000 (sheet_0 ++ sheet_1) signed 1) 2
  pub no-state : Refused none honest 3
  pub pair-not-below-size : Refused (some (kept 1 log_root_lem (pair 1 0 ∷ []))) honest 3
  pub value-too-many : Refused (some (record { label = x "61"; log = record { size = 1; timestamp = 1000; values = log_root_lem ∷ log_root_lem ∷ [] }; monitoring_map = [] })) honest 3
  pub sheet-falls : Refused new (searching response configuration identifier 1000 (sheet_1 ++ sheet_0) signed 1) 4
  pub sheet-cut : Refused new (searching response configuration identifier 1000 (sheet_0 ++ 0 ∷ []) signed 1) 4
  pub leading-zero : Refused new (answering (kt_line ++ ascii "head\t01\n" ++ target_line ++ step_lines ++ entry_line ++ in_line ++ nl_line ++ end_line)) 5
  pub upper-case : Refused new (answering (kt_line ++ head_line ++ ascii "target\t0\t3030303030303030303030303030303A\t78\n" ++ step_lines ++ entry_line ++ in_line ++ nl_line ++ end_line)) 5
  pub newline-missing : Refused new (answering (kt_line ++ head_line ++ target_line ++ step_lines ++ entry_line ++ in_line ++ nl_line ++ ascii "end")) 5
  pub end-missing : Refused new (answering (kt_line ++ head_line ++ target_line ++ step_lines ++ entry_line ++ in_line ++ nl_line)) 5
  pub after-end : Refused new (answering (response ++ ascii "end\n")) 5
  pub other-after-end : Refused new (answering (response ++ ascii "\n")) 5
  pub lookup_first : Refused new (answering (kt_line ++ head_line ++ target_line ++ step_lines ++ in_line ++ entry_line ++ nl_line ++ end_line)) 5
  pub foreign-identifier : Refused new (answering (ascii "kt\tsearch\t000102030405060708090a0b0c0d0e0e\t61\n" ++ head_line ++ target_line ++ step_lines ++ entry_line ++ in_line ++ nl_line ++ end_line)) 6
  pub foreign-label : Refused (some (empty_state (x "62"))) honest 6
  pub other-kind : Refused new (answering (ascii "kt\tmonitor\t000102030405060708090a0b0c0d0e0f\t61\n" ++ head_line ++ end_line)) 6
  pub other-kind-asked : Refused new (asking monitor response configuration identifier 1000 (sheet_0 ++ sheet_1) signed 1) 6
  pub no-entries-in-log : Refused new (answering (kt_line ++ ascii "head\t0\n" ++ target_line ++ step_lines ++ entry_line ++ in_line ++ nl_line ++ end_line)) 7
  pub size-falls : Refused (some (kept 2 log_root_lem [])) honest 7
  pub no-version : Refused new (answering (kt_line ++ head_line ++ ascii "target\t4294967295\t30303030303030303030303030303030\t78\n" ++ step_lines ++ entry_line ++ in_line ++ nl_line ++ end_line)) 8
  pub target-below-map : Refused (some (kept 1 log_root_lem (pair 0 1 ∷ []))) honest 8
  pub spare-node : Refused new (answering (kt_line ++ head_line ++ target_line ++ step_lines ++ entry_line ++ in_line ++ nl_line ++ ascii "node\t0470a5b73e5d7206f13eb1efafa43a2e45df17b7bca61b55cda03fac3c31c624\n" ++ end_line)) 9
  pub commitment-of-target : Refused new (answering (kt_line ++ head_line ++ target_line ++ ascii "step\t0\tc337ee9f07ed7b3ce06bb323f8170d5b410c219602c13456b3dbbe0f70f95d62\nstep\t1\t-\n" ++ entry_line ++ in_line ++ nl_line ++ end_line)) 9
  pub step-missing : Refused new (answering (kt_line ++ head_line ++ target_line ++ ascii "step\t0\t-\n" ++ entry_line ++ in_line ++ nl_line ++ end_line)) 9
  pub no-lookups : Refused new (answering (kt_line ++ head_line ++ target_line ++ step_lines ++ entry_line ++ end_line)) 9
  pub output-missing : Refused new (searching response configuration identifier 1000 sheet_0 signed 1) 10
  pub too-far-ahead : Refused new (searching response configuration identifier 989 (sheet_0 ++ sheet_1) signed 1) 11
  pub too-far-behind : Refused new (searching response configuration identifier 2001 (sheet_0 ++ sheet_1) signed 1) 11
  pub later-than-kept : Refused (some (record { label = x "61"; log = record { size = 1; timestamp = 999; values = log_root_lem ∷ [] }; monitoring_map = [] })) honest 11

pub refused_unhashed : RefusedUnhashed
unfolding opened
refused_unhashed =
    record {
      identifier-too-short = refl;
      mode-3 = refl;
      suite-2 = refl;
      byte-left-over = refl;
      no-state = refl;
      pair-not-below-size = refl;
      value-too-many = refl;
      sheet-falls = refl;
      sheet-cut = refl;
      leading-zero = refl;
      upper-case = refl;
      newline-missing = refl;
      end-missing = refl;
      after-end = refl;
      other-after-end = refl;
      lookup_first = refl;
      foreign-identifier = refl;
      foreign-label = refl;
      other-kind = refl;
      other-kind-asked = refl;
      no-entries-in-log = refl;
      size-falls = refl;
      no-version = refl;
      target-below-map = refl;
      spare-node = refl;
      commitment-of-target = refl;
      step-missing = refl;
      no-lookups = refl;
      output-missing = refl;
      too-far-ahead = refl;
      too-far-behind = refl;
      later-than-kept = refl;
    }

-- ---- monitoring, with little hashing

-- with lines after the first, a sheet and a signed text
abbrev pub watching : Bytes → Bytes → Bytes → Inputs
watching r sheet s = asking monitor (ascii "kt\tmonitor\t000102030405060708090a0b0c0d0e0f\t61\n" ++ r ++ end_line) configuration identifier 1000 sheet s 0

-- an entry whose prefix tree is empty
abbrev pub bare_entry : Bytes
bare_entry = ascii "entry\t0\t1000\t0000000000000000000000000000000000000000000000000000000000000000\n"

abbrev pub bare_root : Bytes
bare_root = x "1926b0eec68d03a909005453247b7c66591fbfe00c25d10b1e6c07850d1bad43"

-- nothing is watched: the frontier without lookups
pub nothing_watched : Accepted new (watching (head_line ++ bare_entry) [] (configuration ++ x "0000000000000001" ++ bare_root)) (kept 1 bare_root []) none
unfolding opened
nothing_watched = refl

-- a pair at entry 0, and a second entry, in whose prefix tree the other leaf is the searched one,
-- or nothing stands
abbrev watched : State
watched = kept 1 bare_root (pair 0 0 ∷ [])

abbrev watched_step : Bytes
watched_step = ascii "head\t2\nstep\t0\tc337ee9f07ed7b3ce06bb323f8170d5b410c219602c13456b3dbbe0f70f95d62\n"

pub record RefusedMonitoring : Type 0 where
  pub node-missing : Refused new (watching (ascii "head\t2\nentry\t1\t1000\t0000000000000000000000000000000000000000000000000000000000000000\n") [] []) 9
  pub commitment-left-out : Refused (some watched) (watching
      (ascii "head\t2\nstep\t0\t-\n" ++ ascii "entry\t1\t1000\t0000000000000000000000000000000000000000000000000000000000000000\nno\t0\t-\n") sheet_0 []) 9
  pub other-leaf-is-the-searched-one : Refused (some watched) (watching
      (watched_step ++ ascii "entry\t1\t1000\t0470a5b73e5d7206f13eb1efafa43a2e45df17b7bca61b55cda03fac3c31c624\n"
      ++ ascii "nl\t0\t0011111111111111111111111111111111111111111111111111111111111111\tc337ee9f07ed7b3ce06bb323f8170d5b410c219602c13456b3dbbe0f70f95d62\t-\n")
      sheet_0 []) 12
  pub nothing-stands : Refused (some watched) (watching
      (watched_step ++ ascii "entry\t1\t1000\t0000000000000000000000000000000000000000000000000000000000000000\nno\t0\t-\n") sheet_0 []) 13
  pub kept-value-differs : Refused (some (kept 1 log_root_lem [])) (watching (head_line ++ bare_entry) [] (configuration ++ x "0000000000000001" ++ bare_root)) 14
  pub other-root-signed : Refused new (watching (head_line ++ bare_entry) [] signed) 15

pub refused_monitoring : RefusedMonitoring
unfolding opened
refused_monitoring =
    record {
      node-missing = refl;
      commitment-left-out = refl;
      other-leaf-is-the-searched-one = refl;
      nothing-stands = refl;
      kept-value-differs = refl;
      other-root-signed = refl;
    }

-- ---- texts

-- the new state as text, and back
abbrev pub state_text : Bytes
state_text = ascii "size\t1\t1000\t61\nkeep\t6842d1bc293083ea7b011b18167d992105f9bcb8cf66364b49417fd93dbb2c23\npair\t0\t0\n"

-- a maximum lifetime of 5
abbrev with_lifetime : Bytes
with_lifetime = x "0001010001040000000000000000000a00000000000003e80000000000000000010000000000000005"

-- the program's files, with the honest sheet
abbrev pub folder : Option Bytes → Option Bytes → Option Bytes → Option Bytes → Option Bytes → Files
folder request r c st s = record { request = request; response = r; settings = c; state = st; sheet = some (sheet_0 ++ sheet_1); signed = s }

abbrev pub old_state : Option Bytes
old_state = some (ascii "size\t0\t0\t61\n")

-- the number for a request line, all else as it should be
abbrev asked_for : Bytes → ℕ
asked_for request = number_of (judge_files (folder (some request) (some response) (some configuration) old_state (some signed)))

pub record Texts : Type 0 where
  pub state-written : write_state after_search ≡ state_text
  pub state_read : read_state state_text ≡ some after_search
  pub response-back : map write_response (read_response response) ≡ some response
  pub configuration-back : map write_configuration (read_configuration configuration) ≡ some configuration
  pub lifetime-back : map write_configuration (read_configuration with_lifetime) ≡ some with_lifetime
  -- what follows the presence byte must be there
  pub lifetime-cut : read_configuration (x "0001010001040000000000000000000a00000000000003e800000000000000000100000000000000") ≡ none
  -- a foreign identifier, as the program sees it: one line, no file
  pub printed-refusal : printed (judge_files (folder (some (ascii "search\t000102030405060708090a0b0c0d0e0e\t1000\n")) (some response) (some configuration) old_state (some signed)))
      ≡ ascii "no\t6\n"
  -- a broken request line; an identifier of 15 bytes in a sound one
  pub broken-request : asked_for (ascii "find\t000102030405060708090a0b0c0d0e0f\t1000\n") ≡ 6
  pub clock-missing : asked_for (ascii "search\t000102030405060708090a0b0c0d0e0f\n") ≡ 6
  pub two-requests : asked_for (ascii "search\t000102030405060708090a0b0c0d0e0f\t1000\nsearch\t000102030405060708090a0b0c0d0e0f\t1000\n") ≡ 6
  pub short-identifier : asked_for (ascii "search\t000102030405060708090a0b0c0d0e\t1000\n") ≡ 1
  pub no-identifier : asked_for (ascii "search\t-\t1000\n") ≡ 1
  -- a missing file, whatever the request is
  pub request-missing : number_of (judge_files (folder none (some response) (some configuration) old_state (some signed))) ≡ 1
  pub response-missing : number_of (judge_files (folder (some []) none (some configuration) old_state (some signed))) ≡ 1
  pub settings-missing : number_of (judge_files (folder (some []) (some response) none old_state (some signed))) ≡ 1
  pub state-missing : number_of (judge_files (folder (some []) (some response) (some configuration) none (some signed))) ≡ 1
  pub signed-missing : number_of (judge_files (folder (some []) (some response) (some configuration) old_state none)) ≡ 1
  pub sheet-missing : number_of (judge_files (record {
    request = some [];
    response = some response;
    settings = some configuration;
    state = old_state;
    sheet = none;
    signed = some signed;
  })) ≡ 1

pub texts : Texts
unfolding opened
texts =
    record {
      state-written = refl;
      state_read = refl;
      response-back = refl;
      configuration-back = refl;
      lifetime-back = refl;
      lifetime-cut = refl;
      printed-refusal = refl;
      broken-request = refl;
      clock-missing = refl;
      two-requests = refl;
      short-identifier = refl;
      no-identifier = refl;
      request-missing = refl;
      response-missing = refl;
      settings-missing = refl;
      state-missing = refl;
      signed-missing = refl;
      sheet-missing = refl;
    }
