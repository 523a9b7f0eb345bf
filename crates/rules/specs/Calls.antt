-- What the calls answer, and what they leave in the bytes lent to them (paper 01, Sixteen numbers):
-- search and monitoring, and the signed text; first over states, then as C programs call them, over
-- state texts.
use Rattle.std.specs.Prelude.{[], ℕ, zero, suc, ◌+◌, ◌*◌, ◌^◌, leb, length}
use Rattle.std.proofs.Math.Option.{Option, none, some, Option-elim, get_or}
use Rattle.lists.specs.Choice.{choose}
use Rattle.lists.specs.Lists.{Bytes, written}
use Rattle.tree.specs.LogTree.{full_values}
use Rattle.rules.specs.Limits.{response_limit, state_text_limit}
use Rattle.rules.specs.State.{KeptLog, State}
use Rattle.rules.specs.StateText.{read_state, write_state}
use Rattle.rules.specs.Response.{Kind, search, monitor}
use Rattle.rules.specs.Refusals.{Inputs, Call, Judgement, refused, passed, judge, judge_without_head}
use Rattle.rules.specs.Refusals.{known, log_walk}
use Rattle.rules.specs.Refusals.{last_timestamp, value_found, map_after, tree_head_of}

-- ---- what the library's calls are given

-- besides the kind, the state, the signed text and the bytes lent
pub record Arguments : Type 0 where
  pub response : Bytes
  pub configuration : Bytes
  pub identifier : Bytes
  pub clock : ℕ
  pub vrf_outputs : Bytes

-- a response of so many bytes at most
unfoldable pub inputs_within : ℕ → Option Kind → Arguments → Bytes → ℕ → Inputs
inputs_within limit kind a signed room =
    record {
      limit = limit;
      kind = kind;
      response = a.response;
      configuration = a.configuration;
      identifier = a.identifier;
      clock = a.clock;
      vrf_outputs = a.vrf_outputs;
      signed_text = signed;
      room = room;
    }

unfoldable pub library_inputs : Option Kind → Arguments → Bytes → ℕ → Inputs
library_inputs kind a signed room = inputs_within response_limit kind a signed room

-- ---- search and monitoring

-- a call of the kind asked for, given so much room for the value
unfoldable pub judge_call : Option Kind → Option State → Arguments → Bytes → ℕ → Judgement
judge_call kind st a signed room = judge st (library_inputs kind a signed room)

-- a search, given output bytes
unfoldable pub judge_search : Option State → Arguments → Bytes → Bytes → Judgement
judge_search st a signed output = judge_call (some search) st a signed (length output)

unfoldable pub judge_monitoring : Option State → Arguments → Bytes → Judgement
judge_monitoring st a signed = judge_call (some monitor) st a signed 0

-- 0 for acceptance
unfoldable pub number_of : Judgement → ℕ
number_of (refused k) = k
number_of (passed c) = 0

-- the log as the response shows it
unfoldable pub next_log : Call → KeptLog
next_log c =
    record {
      size = c.parts.tree_size;
      timestamp = last_timestamp c;
      values = full_values c.parts.tree_size (known c) (log_walk c) c.parts.nodes;
    }

unfoldable pub next_state : Call → State
next_state c =
    record {
      label = c.state.label;
      log = next_log c;
      monitoring_map = map_after c;
    }

-- the state afterwards: a refusal returns it as given
unfoldable pub state_after : Option State → Judgement → Option State
state_after st (refused k) = st
state_after st (passed c) = some (next_state c)

unfoldable pub value_of : Judgement → Option Bytes
value_of (refused k) = none
value_of (passed c) = value_found c

-- lent bytes afterwards: what there is to write, from byte 0
unfoldable pub written_first : Bytes → Option Bytes → Bytes
written_first s t = Option-elim t s (written s 0)

-- a search's output bytes afterwards
unfoldable pub output_after : Bytes → Judgement → Bytes
output_after output j = written_first output (value_of j)

-- ---- signed text

-- given no signed text and no output bytes
unfoldable pub judge_unsigned : Option State → Option Kind → Arguments → Judgement
judge_unsigned st kind a = judge_without_head st (library_inputs kind a [] 0)

-- it is written from an offset on, if there is room for it; 16 if not
unfoldable pub placed : Bytes → ℕ → Bytes → ℕ × Bytes
placed buffer offset text =
    choose (leb (offset + length text) (length buffer)) (λ _. (length text, written buffer offset text))
    (λ _. (16, buffer))

-- the answer and the lent bytes: the length written, or the number of a refusal
unfoldable pub signed_text_after : Bytes → ℕ → Judgement → ℕ × Bytes
signed_text_after buffer offset (refused k) = (k, buffer)
signed_text_after buffer offset (passed c) = placed buffer offset (tree_head_of c)

-- ---- for C programs, over a state's text

-- the text must not be too long
unfoldable pub text_judged : Bytes → Judgement → Judgement
text_judged text j = choose (leb (length text) state_text_limit) (λ _. j) (λ _. refused 1)

-- and there must be room for the new one
unfoldable pub room_judged : Bytes → Judgement → Judgement
room_judged new_text j = choose (leb state_text_limit (length new_text)) (λ _. j) (λ _. refused 1)

-- a call of a kind: text is the state's text; signed text, room for the value, bytes lent for the
-- new text
unfoldable pub kt_call : Option Kind → Bytes → Arguments → Bytes → ℕ → Bytes → Judgement
kt_call kind text a signed room new_text =
    text_judged text (room_judged new_text (judge_call kind (read_state text) a signed room))

-- kt_search, with output bytes
unfoldable pub kt_search : Bytes → Arguments → Bytes → Bytes → Bytes → Judgement
kt_search text a signed output new_text = kt_call (some search) text a signed (length output) new_text

-- kt_monitor
unfoldable pub kt_monitor : Bytes → Arguments → Bytes → Bytes → Judgement
kt_monitor text a signed new_text = kt_call (some monitor) text a signed 0 new_text

-- the text of the new state
unfoldable pub text_of : Judgement → Option Bytes
text_of (refused k) = none
text_of (passed c) = some (write_state (next_state c))

-- the bytes lent for the new text afterwards
unfoldable pub text_after : Bytes → Judgement → Bytes
text_after new_text j = written_first new_text (text_of j)

-- one number: the refusal's in the low 8 bits, the value's length in the next 24, the new text's
-- length in the high 32
unfoldable pub answer_word : Judgement → ℕ
answer_word j =
    number_of j + length (get_or (value_of j) []) * 2 ^ 8 + length (get_or (text_of j) []) * 2 ^ 32

-- a kind as a number
unfoldable pub kind_numbered : ℕ → Option Kind
kind_numbered zero = some search
kind_numbered (suc zero) = some monitor
kind_numbered (suc (suc k)) = none

-- kt_signed_text: the answer, and the lent bytes afterwards
unfoldable pub kt_signed_text : ℕ → Bytes → Arguments → Bytes → ℕ → ℕ × Bytes
kt_signed_text kind text a buffer offset =
    signed_text_after buffer offset (text_judged text (judge_unsigned (read_state text) (kind_numbered kind) a))
