-- A request to the program, as it is read (paper 01, Sixteen numbers): how its struct stands for
-- that of the rules.
use Rattle.std.specs.Prelude.{◌≡◌, ℕ, take, Some, None, Option as CodeOption}
use Rattle.std.proofs.Math.Option.{Option, none, some, map, bind}
use Rattle.lists.specs.Lists.{Bytes}
use Rattle.lines.specs.Field.{read_fields}
use Rattle.lines.specs.Line.{read_lines}
use Rattle.lines.specs.Cursor.{fields_from}
use Rattle.rules.specs.Response.{search}
use Rattle.rules.specs.Program.{Request, request_form, read_request_line}
use Rattle.inputs.specs.declared.response_lines.Kind.{Kind as KindBlock}
use Rattle.checks.specs.Calls.{asked_kind}
use Rattle.verifier.specs.declared.request.Request.{Request as RequestBlock}

-- ==== for contracts of private functions alone

-- the room for an identifier
abbrev pub identifier_room : ℕ
identifier_room = 64

-- the request of a struct
unfoldable pub request_in : RequestBlock → Request
request_in b =
    record { kind = asked_kind b.asked; identifier = take b.length b.identifier; clock = b.clock }

-- the same, if there is one
abbrev pub request_said : CodeOption RequestBlock → Option Request
request_said (Some b) = some (request_in b)
request_said None = none

-- what a text says, if it is not broken
abbrev pub IsRequest : Bytes → CodeOption RequestBlock → Type 0
IsRequest text r = request_said r ≡ bind (read_lines text) read_request_line

-- identifier and clock stand in a line from an offset on, or there is no request
abbrev pub IsFields : KindBlock → Bytes → ℕ → CodeOption RequestBlock → Type 0
IsFields kind line at r =
    request_said r
    ≡ map (λ (x, (y, _)). record { kind = asked_kind (Some kind); identifier = x; clock = y })
    (read_fields (request_form search).fields (fields_from line at))
