-- Laws of a request's text (specs/Request.antt): one for each way in which the reading of its
-- fields, and of its line, ends.
use mathlib.Core.Path.{◌≡◌, refl, sym, ◌∙◌, ap}
use mathlib.Core.Bool.{Bool, true, false}
use mathlib.Core.List.{List, [], ◌∷◌}
use mathlib.Core.Option.{Option, none, some, bind, map, get_or}
use Rattle.std.specs.Prelude.{Some, None, Option as CodeOption}
use Prim.Native.Nat.{ℕ, ◌-◌, ◌≤◌, ◌<◌}
use native.Mathlib.Omega.{arith}
use lib.ListN.{length, take, drop, replicate}
use borrow.Author.Tests.{lt-ltb, le-ltb}
use Rattle.lists.specs.Choice.{provided, ◌>>◌, or_else}
use Rattle.lists.specs.Lists.{Bytes, same}
use Rattle.lists.proofs.ChoiceLaws.{provided_some, provided_then, test_none}
use Rattle.lists.proofs.ListLaws.{same_true}
use Rattle.hash.proofs.BytesLaws.{take_padded}
use Rattle.lines.specs.Number.{ascii, read_number}
use Rattle.lines.specs.Hex.{read_hex, decoded_length}
use Rattle.lines.specs.Field.{Field, number, bytes, Values, read_fields}
use Rattle.lines.specs.Line.{ended_lines, open_rest, read_lines}
use Rattle.lines.specs.Cursor.{line_at, field_at, fields_from, read_at, word_at}
use Rattle.lines.specs.declared.cursor.Cursor.{Cursor}
use Rattle.lines.specs.Readings.{read_of, next_of}
use Rattle.lines.specs.Writing.{put_any}
use Rattle.lines.proofs.FormLaws.{with_rest, here-read, read-ended, word-here, line_on, line-off, field-on}
use Rattle.lines.proofs.FormLaws.{field_off, read-number-on, bytes_fit, bytes-none}
use Rattle.lines.proofs.SectionLaws.{LineHere, line_none, line_end, line_more}
use Rattle.lines.proofs.HexLengthLaws.{decoded_was, length_unhex}
use Rattle.rules.specs.Limits.{number_bound, request_limit}
use Rattle.rules.specs.Response.{search, monitor}
use Rattle.rules.specs.Program.{Request, request_of, read_request_line, broken_request, read_request}
use Rattle.inputs.proofs.FrontLaws.{put_first}
use Rattle.inputs.specs.declared.response_lines.Kind.{Kind as KindBlock}
use Rattle.inputs.specs.declared.response_lines.Kind.TheVariants.{Search, Monitor}
use Rattle.verifier.specs.declared.request.Request.{Request as RequestBlock}
use Rattle.checks.specs.Calls.{asked_kind}
use Rattle.verifier.specs.Request.{identifier_room, request_in, request_said, IsRequest, IsFields}

-- ---- what the cursor's functions give back

-- an answer that is known is what is read
pub read_is : {A : Type 0} {o p : CodeOption (A × Cursor)} {x : Option (A × ℕ)} → read_of o ≡ x → o ≡ p → x ≡ read_of p
read_is e w = sym e ∙ ap read_of w

-- the same of a word
pub next_is : {o p : CodeOption Cursor} {x : Option ℕ} → next_of o ≡ x → o ≡ p → x ≡ next_of p
next_is e w = sym e ∙ ap next_of w

-- ---- the fields after the kind

-- a byte string of any length
abbrev any_length : ℕ → Bool
any_length n = true

-- the clock
abbrev clock_fields : List Field
clock_fields = number number_bound ∷ []

-- the identifier, and the clock
abbrev request_fields : List Field
request_fields = bytes any_length ∷ clock_fields

-- where they do not read, there is no request
unread : (kind : KindBlock) (l : Bytes) (at : ℕ) → read_fields request_fields (fields_from l at) ≡ none → IsFields kind l at None
unread kind l at e = rw e refl

module _ (l : Bytes) (at n next : ℕ) (e : read_at decoded_length l at ≡ some (n, next)) where
  -- an identifier in a line that is not too long has room
  pub identifier-within : length l ≤ request_limit → n ≤ identifier_room
  identifier-within h =
      let (f, r) = here-read l decoded_length at n next e in
      let (x, k) = decoded_was (field_at l at) n (sym r) in
      omega (arith, length_unhex (field_at l at), f.next_is, f.within)

  -- the clock is read where the identifier ends
  identifier-then : (b : Bytes) × (read_hex (field_at l at) ≡ some b) × (length b ≡ n)
      × (read_fields request_fields (fields_from l at) ≡ with_rest (bytes any_length) clock_fields b (read_fields clock_fields (fields_from l next)))
  identifier-then =
      let (b, r, k, f) = bytes_fit l any_length at n next e refl in
      (b, r, k, field-on l (bytes any_length) clock_fields at b next f)

module _ (kind : KindBlock) (l : Bytes) (at : ℕ) where
  -- without an identifier they do not
  pub fields-no-identifier : read_at decoded_length l at ≡ none → IsFields kind l at None
  fields-no-identifier e = unread kind l at (field_off l (bytes any_length) clock_fields at (bytes-none l any_length at e))

  module _ (n next : ℕ) (e : read_at decoded_length l at ≡ some (n, next)) where
    -- without a clock they do not read
    pub fields-no-clock : read_at (read_number number_bound) l next ≡ none → IsFields kind l at None
    unfolding bind
    fields-no-clock c =
        let (x, _, _, f) = identifier-then l at n next e in
        unread kind l at (f ∙ rw (field_off l (number number_bound) [] next (read-number-on l number_bound next ∙ c)) refl)

    module _ (t end : ℕ) (c : read_at (read_number number_bound) l next ≡ some (t, end)) where
      -- what follows is read where the clock ends
      clock-then : read_fields clock_fields (fields_from l next) ≡ with_rest (number number_bound) [] t (read_fields [] (fields_from l end))
      clock-then = field-on l (number number_bound) [] next t end (read-number-on l number_bound next ∙ c)

      -- nor do they where another field follows
      pub fields-more : end ≤ length l → IsFields kind l at None
      unfolding bind provided
      fields-more h =
          let (x, _, _, f) = identifier-then l at n next e in
          unread kind l at (f ∙ rw (clock-then, read-ended l end, le-ltb (length l) end h) refl)

      -- else the identifier is what its field encodes, at the front of its room
      pub fields_read : (s d : Bytes) → length l < end → length l ≤ request_limit → s ≡ field_at l at → d ≡ put_any (replicate identifier_room 0) 0 (read_hex s)
          → IsFields kind l at (Some (record { asked = Some kind; identifier = d; length = n; clock = t }))
      unfolding request_in bind provided
      fields_read s d h w es ed =
          let (x, r, k, f) = identifier-then l at n next e in
          let i = identifier-within l at n next e w in
          let p : take n d ≡ x =
          ap (take n) (ed ∙ put_first identifier_room (read_hex s) x (ap read_hex es ∙ r) (omega arith)) ∙ take_padded identifier_room n x k in
          rw (f, clock-then, read-ended l end, lt-ltb (length l) end h, p) refl

-- ---- the line

-- a text says the request that is read of it, or it is broken
pub said_read : (s : Bytes) (r : CodeOption RequestBlock) → IsRequest s r → get_or (request_said r) broken_request ≡ read_request s
unfolding read_request
said_read s r e = ap (λ (o : Option Request). get_or o broken_request) e

-- a text without a line says none
pub request_no_line : (s : Bytes) → line_at s 0 ≡ none → IsRequest s None
unfolding read_lines read_request_line
request_no_line s e =
    sym (provided_then (same (open_rest s) []) (ended_lines s) read_request_line ∙ rw (line_none s 0 e).0 (test_none (same (open_rest s) [])))

-- a line that begins with one kind's word does not begin with the other's
one_word : (l : Bytes) (a : ℕ) → word_at (ascii "search") l 0 ≡ some a → word_at (ascii "monitor") l 0 ≡ none
unfolding ascii same provided
one_word l a e =
    let f = (provided_some _ _ a (sym (word-here l (ascii "search") 0 (omega arith)) ∙ e)).0 in
    word-here l (ascii "monitor") 0 (omega arith) ∙ rw (same_true (field_at l 0) (ascii "search") f) refl

module _ (s : Bytes) (stop next : ℕ) (h : LineHere s 0 stop next) where
  -- the first line
  abbrev line : Bytes
  line = take (stop - 0) (drop 0 s)

  -- a text is read as its first line and the others, if nothing stands after the last
  text-lines : bind (read_lines s) read_request_line ≡ (same (open_rest (drop next s)) [] >> read_request_line (line ∷ ended_lines (drop next s)))
  unfolding read_lines
  text-lines = provided_then (same (open_rest s) []) (ended_lines s) read_request_line ∙ rw (h.lines, h.rest) refl

  -- with more than one line it says none
  pub request-longer : next < length s → IsRequest s None
  unfolding read_request_line ◌>>◌
  request-longer w = sym (text-lines ∙ go (ended_lines (drop next s)) refl (same (open_rest (drop next s)) []) refl)
    where
      go : (ls : List Bytes) → ended_lines (drop next s) ≡ ls → (t : Bool) → same (open_rest (drop next s)) [] ≡ t → (t >> read_request_line (line ∷ ls)) ≡ none
      go [] e true f = absurd (line_more s next w e (same_true (open_rest (drop next s)) [] f))
      go [] e false f = refl
      go (m ∷ ls) e t f = test_none t

  module _ (w : length s ≤ next) where
    -- with one line it is read as that line
    one_line : bind (read_lines s) read_request_line ≡ read_request_line (line ∷ [])
    unfolding same ◌>>◌
    one_line =
        let (e, f) = line_end s next w in
        let g : (same (open_rest (drop next s)) [] >> read_request_line (line ∷ ended_lines (drop next s))) ≡ read_request_line (line ∷ []) = rw (e, f) refl in
        text-lines ∙ g

    -- the fields after the word `search` say the request of a search
    pub request-search : (a : ℕ) (r : CodeOption RequestBlock) → word_at (ascii "search") line 0 ≡ some a → IsFields Search line a r → IsRequest s r
    unfolding read_request_line request_of asked_kind or_else
    request-search a r e f =
        f
        ∙ sym (one_line ∙ rw (line_on line (ascii "search") request_fields a e, line-off line (ascii "monitor") request_fields (one_word line a e))
        (go (read_fields request_fields (fields_from line a))))
      where
        go : (o : Option (Values request_fields)) → or_else (map (request_of search) o) none
            ≡ map (λ (x, (y, _)). record { kind = asked_kind (Some Search); identifier = x; clock = y }) o
        go none = refl
        go (some x) = refl

    module _ (n : word_at (ascii "search") line 0 ≡ none) where
      -- those after the word `monitor` say that of monitoring
      pub request-monitor : (a : ℕ) (r : CodeOption RequestBlock) → word_at (ascii "monitor") line 0 ≡ some a → IsFields Monitor line a r → IsRequest s r
      unfolding read_request_line request_of asked_kind or_else
      request-monitor a r e f =
          f
          ∙ sym (one_line ∙ rw (line-off line (ascii "search") request_fields n, line_on line (ascii "monitor") request_fields a e)
          (go (read_fields request_fields (fields_from line a))))
        where
          go : (o : Option (Values request_fields)) → map (request_of monitor) o
              ≡ map (λ (x, (y, _)). record { kind = asked_kind (Some Monitor); identifier = x; clock = y }) o
          go none = refl
          go (some x) = refl

      -- a line that begins with neither word says none
      pub request-neither : word_at (ascii "monitor") line 0 ≡ none → IsRequest s None
      unfolding read_request_line or_else
      request-neither m = sym (one_line ∙ rw (line-off line (ascii "search") request_fields n, line-off line (ascii "monitor") request_fields m) refl)
