-- What the program makes of its files, as the library does it (paper 01, Sixteen numbers): what was
-- read of them, and what comes of them.
use Rattle.std.specs.Prelude.{◌≡◌, Bool, true, false, cond, [], ◌∷◌, ◌++◌, ℕ, leb, length}
use Rattle.std.specs.Prelude.{Some, None, Ok, Err, Result, Option as CodeOption}
use Rattle.std.proofs.Math.Option.{Option, none, some, get_or}
use Rattle.lists.specs.Choice.{is_some}
use Rattle.lists.specs.Lists.{Bytes, every, written}
use Rattle.lines.specs.Number.{ascii, decimal}
use Rattle.lines.specs.Line.{tab, newline, line}
use Rattle.rules.specs.Limits.{program_response_limit, configuration_limit, signed_text_limit, vrf_outputs_limit}
use Rattle.rules.specs.Limits.{state_text_limit, request_limit}
use Rattle.rules.specs.Refusals.{Judgement, refused}
use Rattle.rules.specs.Calls.{number_of, value_of, output_after, text_of, text_after}
use Rattle.rules.specs.Program.{Files, printed}
use Rattle.inputs.specs.declared.refusal.Refusal.{Refusal}
use Rattle.inputs.specs.Refusal.{refusal_number}
use Rattle.checks.specs.declared.call.Found.{Found}
use Rattle.verifier.specs.declared.files.Outcome.{Outcome as OutcomeBlock}
use Rattle.verifier.specs.declared.files.Written.{Written}

-- what was read of a file; where one could not be read none counts, since the answer is 1 whichever
-- it is
unfoldable pub file_read : Bool → Bytes → Option Bytes
file_read unread s = cond unread none (some s)

unfoldable pub files_read : Bool → Bytes → Bytes → Bytes → Bytes → Bytes → Bytes → Files
files_read unread request response settings state sheet signed =
    record {
      request = file_read unread request;
      response = file_read unread response;
      settings = file_read unread settings;
      state = file_read unread state;
      sheet = file_read unread sheet;
      signed = file_read unread signed;
    }

-- 0 for acceptance, or the number of the refusal; how many bytes the line, the value and the new
-- text have, and whether there is a value
pub record Outcome : Type 0 where
  pub number : ℕ
  pub line : ℕ
  pub found : Bool
  pub value : ℕ
  pub text : ℕ

-- of a judgement
unfoldable pub outcome_of : Judgement → Outcome
outcome_of j =
    record {
      number = number_of j;
      line = length (printed j);
      found = is_some (value_of j);
      value = length (get_or (value_of j) []);
      text = length (get_or (text_of j) []);
    }

-- of an acceptance, by the lengths
abbrev pub accepted_outcome : ℕ → CodeOption ℕ → ℕ → Outcome
accepted_outcome line None text = record { number = 0; line = line; found = false; value = 0; text = text }
accepted_outcome line (Some n) text = record { number = 0; line = line; found = true; value = n; text = text }

-- as the struct has it
abbrev pub told : ℕ → Result Written Refusal → Outcome
told line (Ok w) = accepted_outcome line w.value w.text
told line (Err r) =
    record { number = refusal_number r; line = line; found = false; value = 0; text = 0 }

unfoldable pub outcome_in : OutcomeBlock → Outcome
outcome_in b = told b.line b.judged

-- ==== for contracts of private functions alone

-- no file is too long
abbrev pub are_within : Bytes → Bytes → Bytes → Bytes → Bytes → Bytes → Bool
are_within request response settings state sheet signed =
    every
    (leb (length request) request_limit
    ∷ leb (length response) program_response_limit
    ∷ leb (length settings) configuration_limit
    ∷ leb (length state) state_text_limit
    ∷ leb (length sheet) vrf_outputs_limit
    ∷ leb (length signed) signed_text_limit
    ∷ [])

-- what comes of a call, and what it leaves in the bytes lent for the line, the value and the new
-- text
pub record Left (j : Judgement) (r : OutcomeBlock) (line value text line' value' text' : Bytes) : Type 0 where
  pub outcome : outcome_in r ≡ outcome_of j
  pub is_line : line' ≡ written line 0 (printed j)
  pub is_value : value' ≡ output_after value j
  pub is_text : text' ≡ text_after text j

-- what comes of a refusal
abbrev pub IsRefusal : ℕ → OutcomeBlock → Bytes → Bytes → Type 0
IsRefusal number r line line' =
    (outcome_in r ≡ outcome_of (refused number)) × (line' ≡ written line 0 (printed (refused number)))

-- how many bytes the value that was found has
abbrev pub length_found : CodeOption Found → CodeOption ℕ
length_found None = None
length_found (Some f) = Some f.length

-- the field of the version that was found, or of none
abbrev pub version_field : CodeOption Found → Bytes
version_field None = ascii "-"
version_field (Some f) = decimal f.version

-- the line of an acceptance, with a version or without
abbrev pub accepted_line : CodeOption Found → ℕ → ℕ → Bytes
accepted_line found size pairs =
    line (ascii "yes" ∷ version_field found ∷ decimal size ∷ decimal pairs ∷ [])

-- its last two fields and its end
abbrev pub counts_text : ℕ → ℕ → Bytes
counts_text size pairs = (tab ∷ decimal size) ++ (tab ∷ decimal pairs) ++ (newline ∷ [])
