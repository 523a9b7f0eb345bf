-- The borders of what is read: fields and lines, valid states, sheets, settings. antt computes each
-- one.
use mathlib.Core.Path.{◌≡◌, refl}
use mathlib.Core.Bool.{Bool, true, false}
use mathlib.Core.List.{List, [], ◌∷◌, ◌++◌, map}
use mathlib.Core.Option.{none, some}
use Prim.Native.Nat.{ℕ, zero, suc, ◌+◌, ◌-◌, ◌^◌}
use lib.Dec.{leb}
use lib.ListN.{replicate}
use Rattle.lists.specs.Lists.{Bytes}
use Rattle.lines.specs.Number.{ascii, read_number}
use Rattle.lines.specs.Hex.{read_hex}
use Rattle.lines.specs.Field.{Field, number, bytes}
use Rattle.lines.specs.Line.{Form}
use Rattle.rules.specs.Configuration.{read_optional}
use Rattle.rules.specs.Limits.{state_text_limit}
use Rattle.rules.specs.VrfOutputs.{read_outputs, has_output, output_of}
use Rattle.rules.specs.State.{MapEntry, is_valid, empty_state, new_state}
use Rattle.rules.specs.StateText.{size_form, keep_form, pair_form, read_state_text}
use Rattle.rules.specs.Response.{search, monitor}
use Rattle.rules.specs.ResponseText.{kt_form, head_form, target_form, step_form, entry_form, in_form, no_form}
use Rattle.rules.specs.ResponseText.{nl_form, node_form}
use Rattle.rules.specs.Program.{within, request_form}
use Rattle.rules.proofs.Running.{opened, pair}

-- ---- fields: a number of this size, or a byte string of this length, is taken

unfoldable pub takes : Field → ℕ → Bool
takes (number bound) n = leb n bound
takes (bytes fits) n = fits n

-- the fields of a form, each at a number of its own
unfoldable pub each : List Field → List ℕ → List Bool
each [] ns = []
each (f ∷ fs) [] = []
each (f ∷ fs) (n ∷ ns) = takes f n ∷ each fs ns

abbrev form : Form → List ℕ → List Bool
form f ns = each f.fields ns

abbrev yes_2 : List Bool
yes_2 = true ∷ true ∷ []

abbrev no_2 : List Bool
no_2 = false ∷ false ∷ []

abbrev yes_3 : List Bool
yes_3 = true ∷ true ∷ true ∷ []

abbrev no_3 : List Bool
no_3 = false ∷ false ∷ false ∷ []

pub record Fields : Type 0 where
  pub first-line : form (kt_form search) (16 ∷ 255 ∷ []) ≡ yes_2
  pub first-line-over : form (kt_form monitor) (17 ∷ 256 ∷ []) ≡ no_2
  pub identifier-short : form (kt_form monitor) (15 ∷ 0 ∷ []) ≡ false ∷ true ∷ []
  pub head : form head_form ((2 ^ 64 - 1) ∷ []) ≡ true ∷ []
  pub head-over : form head_form ((2 ^ 64) ∷ []) ≡ false ∷ []
  pub target : form target_form ((2 ^ 32 - 1) ∷ 16 ∷ 1024 ∷ []) ≡ yes_3
  pub target-over : form target_form ((2 ^ 32) ∷ 17 ∷ 1025 ∷ []) ≡ no_3
  pub target-empty : form target_form (0 ∷ 0 ∷ 0 ∷ []) ≡ true ∷ false ∷ true ∷ []
  pub step : form step_form ((2 ^ 32 - 1) ∷ 32 ∷ []) ≡ yes_2
  pub step-over : form step_form ((2 ^ 32) ∷ 33 ∷ []) ≡ no_2
  pub step-left-out : form step_form (0 ∷ 0 ∷ []) ≡ yes_2
  pub step-short : form step_form (0 ∷ 31 ∷ []) ≡ true ∷ false ∷ []
  pub entry : form entry_form ((2 ^ 64 - 1) ∷ (2 ^ 64 - 1) ∷ 32 ∷ []) ≡ yes_3
  pub entry-over : form entry_form ((2 ^ 64) ∷ (2 ^ 64) ∷ 33 ∷ []) ≡ no_3
  pub entry-short : form entry_form (0 ∷ 0 ∷ 31 ∷ []) ≡ true ∷ true ∷ false ∷ []
  pub most-siblings : form in_form ((2 ^ 32 - 1) ∷ 8160 ∷ []) ≡ yes_2
  pub sibling-more : form in_form ((2 ^ 32) ∷ 8192 ∷ []) ≡ no_2
  pub no-siblings : form no_form (0 ∷ 0 ∷ []) ≡ yes_2
  pub sibling-cut : form no_form ((2 ^ 32) ∷ 31 ∷ []) ≡ no_2
  pub other-leaf : form nl_form ((2 ^ 32 - 1) ∷ 32 ∷ 32 ∷ 8160 ∷ []) ≡ true ∷ yes_3
  pub other-leaf-over : form nl_form ((2 ^ 32) ∷ 33 ∷ 33 ∷ 8192 ∷ []) ≡ false ∷ no_3
  pub other-leaf-short : form nl_form (0 ∷ 31 ∷ 31 ∷ 33 ∷ []) ≡ true ∷ no_3
  pub node : map (λ (n : ℕ). form node_form (n ∷ [])) (31 ∷ 32 ∷ 33 ∷ []) ≡ (false ∷ []) ∷ (true ∷ []) ∷ (false ∷ []) ∷ []
  pub state-size : form size_form ((2 ^ 64 - 1) ∷ (2 ^ 64 - 1) ∷ 255 ∷ []) ≡ yes_3
  pub state-size-over : form size_form ((2 ^ 64) ∷ (2 ^ 64) ∷ 256 ∷ []) ≡ no_3
  pub state-keep : map (λ (n : ℕ). form keep_form (n ∷ [])) (31 ∷ 32 ∷ 33 ∷ []) ≡ (false ∷ []) ∷ (true ∷ []) ∷ (false ∷ []) ∷ []
  pub state-pair : form pair_form ((2 ^ 64 - 1) ∷ (2 ^ 32 - 1) ∷ []) ≡ yes_2
  pub state-pair-over : form pair_form ((2 ^ 64) ∷ (2 ^ 32) ∷ []) ≡ no_2
  pub request : form (request_form search) (77 ∷ (2 ^ 64 - 1) ∷ []) ≡ yes_2
  pub request-over : form (request_form monitor) (0 ∷ (2 ^ 64) ∷ []) ≡ true ∷ false ∷ []

pub fields_borders : Fields
unfolding opened takes each
fields_borders =
    record {
      first-line = refl;
      first-line-over = refl;
      identifier-short = refl;
      head = refl;
      head-over = refl;
      target = refl;
      target-over = refl;
      target-empty = refl;
      step = refl;
      step-over = refl;
      step-left-out = refl;
      step-short = refl;
      entry = refl;
      entry-over = refl;
      entry-short = refl;
      most-siblings = refl;
      sibling-more = refl;
      no-siblings = refl;
      sibling-cut = refl;
      other-leaf = refl;
      other-leaf-over = refl;
      other-leaf-short = refl;
      node = refl;
      state-size = refl;
      state-size-over = refl;
      state-keep = refl;
      state-pair = refl;
      state-pair-over = refl;
      request = refl;
      request-over = refl;
    }

-- ---- numbers and hex

pub record Texts : Type 0 where
  pub just-zero : read_number 9 (ascii "0") ≡ some 0
  pub bound : read_number 10 (ascii "10") ≡ some 10
  pub over : read_number 10 (ascii "11") ≡ none
  pub leading : read_number 10 (ascii "01") ≡ none
  pub double-zero : read_number 10 (ascii "00") ≡ none
  pub sign : read_number 10 (ascii "+1") ≡ none
  pub nothing : read_number 10 [] ≡ none
  pub slash : read_number 10 (ascii "/") ≡ none
  pub colon : read_number 10 (ascii ":") ≡ none
  pub hex : read_hex (ascii "09af") ≡ some (0x09 ∷ 0xaf ∷ [])
  pub dash : read_hex (ascii "-") ≡ some []
  pub empty : read_hex [] ≡ none
  pub odd : read_hex (ascii "09a") ≡ none
  pub upper : read_hex (ascii "AF") ≡ none
  pub beyond : read_hex (ascii "0g") ≡ none
  pub backquote : read_hex (ascii "0`") ≡ none
  pub two-dashes : read_hex (ascii "--") ≡ none

pub texts_borders : Texts
unfolding opened
texts_borders =
    record {
      just-zero = refl;
      bound = refl;
      over = refl;
      leading = refl;
      double-zero = refl;
      sign = refl;
      nothing = refl;
      slash = refl;
      colon = refl;
      hex = refl;
      dash = refl;
      empty = refl;
      odd = refl;
      upper = refl;
      beyond = refl;
      backquote = refl;
      two-dashes = refl;
    }

-- ---- states

-- a label of so many bytes, size, time, values of so many bytes each, pairs
abbrev valid : ℕ → ℕ → ℕ → List ℕ → List MapEntry → Bool
valid l m t vs es =
    is_valid (record { label = replicate l 0; log = record { size = m; timestamp = t; values = map (λ (n : ℕ). replicate n 0) vs }; monitoring_map = es })

-- so many pairs, at 0, 1 and so on
unfoldable pub pairs_below : ℕ → List MapEntry
pairs_below zero = []
pairs_below (suc k) = pairs_below k ++ pair k 0 ∷ []

pub record States : Type 0 where
  pub new : valid 0 0 0 [] [] ≡ true
  pub longest-label : valid 255 0 0 [] [] ≡ true
  pub label_over : valid 256 0 0 [] [] ≡ false
  pub timestamp-at-0 : valid 0 0 1 [] [] ≡ false
  pub latest : valid 0 1 (2 ^ 64 - 1) (32 ∷ []) [] ≡ true
  pub timestamp-over : valid 0 1 (2 ^ 64) (32 ∷ []) [] ≡ false
  pub largest : valid 0 (2 ^ 40) 0 (32 ∷ []) [] ≡ true
  pub size-over : valid 0 (2 ^ 40 + 1) 0 (32 ∷ 32 ∷ []) [] ≡ false
  pub two-values : valid 0 3 0 (32 ∷ 32 ∷ []) [] ≡ true
  pub value-missing : valid 0 3 0 (32 ∷ []) [] ≡ false
  pub value-spare : valid 0 3 0 (32 ∷ 32 ∷ 32 ∷ []) [] ≡ false
  pub value_short : valid 0 3 0 (32 ∷ 31 ∷ []) [] ≡ false
  pub value-long : valid 0 3 0 (33 ∷ 32 ∷ []) [] ≡ false
  pub last-position : valid 0 2 0 (32 ∷ []) (pair 0 5 ∷ pair 1 3 ∷ []) ≡ true
  pub position-over : valid 0 2 0 (32 ∷ []) (pair 0 5 ∷ pair 2 3 ∷ []) ≡ false
  pub positions-equal : valid 0 2 0 (32 ∷ []) (pair 1 0 ∷ pair 1 0 ∷ []) ≡ false
  pub positions-fall : valid 0 2 0 (32 ∷ []) (pair 1 0 ∷ pair 0 0 ∷ []) ≡ false
  pub most-pairs : valid 0 64 0 (32 ∷ []) (pairs_below 48) ≡ true
  pub pairs-over : valid 0 64 0 (32 ∷ []) (pairs_below 49) ≡ false
  pub greatest-version : valid 0 2 0 (32 ∷ []) (pair 0 (2 ^ 32 - 2) ∷ []) ≡ true
  pub no-version : valid 0 2 0 (32 ∷ []) (pair 0 (2 ^ 32 - 1) ∷ []) ≡ false

pub states_borders : States
unfolding opened pairs_below
states_borders =
    record {
      new = refl;
      longest-label = refl;
      label_over = refl;
      timestamp-at-0 = refl;
      latest = refl;
      timestamp-over = refl;
      largest = refl;
      size-over = refl;
      two-values = refl;
      value-missing = refl;
      value-spare = refl;
      value_short = refl;
      value-long = refl;
      last-position = refl;
      position-over = refl;
      positions-equal = refl;
      positions-fall = refl;
      most-pairs = refl;
      pairs-over = refl;
      greatest-version = refl;
      no-version = refl;
    }

pub record MadeStates : Type 0 where
  pub made : new_state (replicate 255 5) ≡ record { number = 0; state = empty_state (replicate 255 5) }
  pub label-too-long : new_state (replicate 256 5) ≡ record { number = 1; state = empty_state [] }
  pub text_read : read_state_text (ascii "size\t0\t0\t61\n") ≡ record { number = 0; state = empty_state (0x61 ∷ []) }
  pub text-broken : read_state_text (ascii "size\t0\t0\t61") ≡ record { number = 3; state = empty_state [] }
  pub text_invalid : read_state_text (ascii "size\t0\t7\t61\n") ≡ record { number = 3; state = empty_state [] }
  pub text-at-limit : read_state_text (replicate state_text_limit 0) ≡ record { number = 3; state = empty_state [] }
  pub text-too-long : read_state_text (replicate (state_text_limit + 1) 0) ≡ record { number = 1; state = empty_state [] }

pub made_states : MadeStates
unfolding opened
made_states =
    record {
      made = refl;
      label-too-long = refl;
      text_read = refl;
      text-broken = refl;
      text_invalid = refl;
      text-at-limit = refl;
      text-too-long = refl;
    }

-- ---- sheets, settings, files

abbrev record_of : Bytes → Bytes
record_of version = version ++ replicate 32 7

pub record Others : Type 0 where
  pub no-records : read_outputs [] ≡ some []
  pub two_records : read_outputs (record_of (0 ∷ 0 ∷ 1 ∷ 2 ∷ []) ++ record_of (255 ∷ 255 ∷ 255 ∷ 255 ∷ []))
      ≡ some (record { version = 258; output = replicate 32 7 } ∷ record { version = 2 ^ 32 - 1; output = replicate 32 7 } ∷ [])
  pub version-twice : read_outputs (record_of (0 ∷ 0 ∷ 0 ∷ 1 ∷ []) ++ record_of (0 ∷ 0 ∷ 0 ∷ 1 ∷ [])) ≡ none
  pub own-output : output_of (record { version = 1; output = 8 ∷ [] } ∷ record { version = 3; output = 9 ∷ [] } ∷ []) 3 ≡ 9 ∷ []
  pub output-between : has_output (record { version = 1; output = 8 ∷ [] } ∷ record { version = 3; output = 9 ∷ [] } ∷ []) 2 ≡ false
  pub not-present : read_optional (0 ∷ 5 ∷ []) ≡ some (none, 5 ∷ [])
  pub present : read_optional (1 ∷ 0 ∷ 0 ∷ 0 ∷ 0 ∷ 0 ∷ 0 ∷ 1 ∷ 2 ∷ 5 ∷ []) ≡ some (some 258, 5 ∷ [])
  pub presence-2 : read_optional (2 ∷ 0 ∷ 0 ∷ 0 ∷ 0 ∷ 0 ∷ 0 ∷ 1 ∷ 2 ∷ []) ≡ none
  pub file-at-limit : within 2 (some (1 ∷ 2 ∷ [])) ≡ some (1 ∷ 2 ∷ [])
  pub file-over : within 2 (some (1 ∷ 2 ∷ 3 ∷ [])) ≡ none

pub others_borders : Others
unfolding opened
others_borders =
    record {
      no-records = refl;
      two_records = refl;
      version-twice = refl;
      own-output = refl;
      output-between = refl;
      not-present = refl;
      present = refl;
      presence-2 = refl;
      file-at-limit = refl;
      file-over = refl;
    }
