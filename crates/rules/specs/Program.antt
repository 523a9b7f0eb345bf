-- The program: six files in, one line and up to two files out (paper 01, Sixteen numbers).
use Rattle.std.specs.Prelude.{true, List, [], ◌∷◌, ℕ, leb, length, replicate}
use Rattle.std.proofs.Math.Option.{Option, none, some, get_or, map, bind, bind as ◌>>=◌}
use Rattle.lists.specs.Choice.{or_else, ◌>>◌}
use Rattle.lists.specs.Lists.{Bytes}
use Rattle.lines.specs.Number.{ascii, decimal}
use Rattle.lines.specs.Field.{number, bytes}
use Rattle.lines.specs.Line.{Form, Read, read_lines, read_line, line}
use Rattle.rules.specs.Limits.{program_response_limit, configuration_limit, signed_text_limit}
use Rattle.rules.specs.Limits.{vrf_outputs_limit, value_limit, identifier_length, state_text_limit}
use Rattle.rules.specs.Limits.{request_limit, number_bound}
use Rattle.rules.specs.StateText.{read_state}
use Rattle.rules.specs.Response.{Kind, search, monitor, Target, target_of}
use Rattle.rules.specs.ResponseText.{kind_word}
use Rattle.rules.specs.Refusals.{Judgement, refused, passed, reading}
use Rattle.rules.specs.Calls.{Arguments, judge_call, next_state}

-- ---- the files

-- none: a file that is missing or cannot be read
pub record Files : Type 0 where
  pub request : Option Bytes
  pub response : Option Bytes
  pub settings : Option Bytes
  pub state : Option Bytes
  pub sheet : Option Bytes
  pub signed : Option Bytes

-- a file that is there and not too long
unfoldable pub within : ℕ → Option Bytes → Option Bytes
within limit file = do
  s ← file
  leb (length s) limit
  some s

-- ---- the request: kind, identifier, clock, in one line

pub record Request : Type 0 where
  pub kind : Option Kind
  pub identifier : Bytes
  pub clock : ℕ

abbrev pub request_form : Kind → Form
request_form kind =
    record { words = kind_word kind ∷ []; fields = bytes (λ (n : ℕ). true) ∷ number number_bound ∷ [] }

unfoldable pub request_of : Kind → Read (request_form search) → Request
request_of kind (identifier, (clock, _)) = record { kind = some kind; identifier = identifier; clock = clock }

unfoldable pub read_request_line : List Bytes → Option Request
read_request_line [] = none
read_request_line (l ∷ m ∷ ls) = none
read_request_line (l ∷ []) =
    or_else (map (request_of search) (read_line (request_form search) l))
    (map (request_of monitor) (read_line (request_form monitor) l))

-- a broken line asks for no kind, so that 6 applies where none of 1 to 5 does; its identifier and
-- clock stand for none
unfoldable pub broken_request : Request
broken_request = record { kind = none; identifier = replicate identifier_length 0; clock = 0 }

unfoldable pub read_request : Bytes → Request
read_request s = get_or (bind (read_lines s) read_request_line) broken_request

-- ---- the judgement

-- what a request asks for, with the other files
unfoldable pub requested : Request → Bytes → Bytes → Bytes → Arguments
requested q response settings sheet =
    record {
      response = response;
      configuration = settings;
      identifier = q.identifier;
      clock = q.clock;
      vrf_outputs = sheet;
    }

-- the library's call of the kind asked for, with room for every value, is made where each file is
-- there and not too long
unfoldable pub judge_files : Files → Judgement
judge_files f =
    reading 1 (within request_limit f.request) λ request.
    reading 1 (within program_response_limit f.response) λ response.
    reading 1 (within configuration_limit f.settings) λ settings.
    reading 1 (within state_text_limit f.state) λ state.
    reading 1 (within vrf_outputs_limit f.sheet) λ sheet.
    reading 1 (within signed_text_limit f.signed) λ signed.
    judge_call (read_request request).kind (read_state state)
    (requested (read_request request) response settings sheet)
    signed value_limit

-- ---- what is printed; the file `state.new` gets what `text_of` gives, the file `value` what
-- ---- `value_of` gives, and neither is written where that is none

unfoldable pub printed_version : Option Target → Bytes
printed_version none = ascii "-"
printed_version (some t) = decimal t.version

-- `yes`, t or `-`, n and the number of pairs; or `no` and the number
unfoldable pub printed : Judgement → Bytes
printed (refused k) = line (ascii "no" ∷ decimal k ∷ [])
printed (passed c) =
    line
    (ascii "yes" ∷ printed_version (target_of c.parts.finding) ∷ decimal c.parts.tree_size
    ∷ decimal (length (next_state c).monitoring_map) ∷ [])
