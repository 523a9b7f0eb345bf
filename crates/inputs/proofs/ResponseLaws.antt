-- Laws of reading a response from its offsets (specs/ResponseHeader.antt): the lines before the
-- sections, one after the other.
use mathlib.Core.Path.{◌≡◌, refl, ◌∙◌, ap, ap₂}
use mathlib.Core.List.{List, [], ◌∷◌}
use mathlib.Core.Option.{Option, none, some, bind, map, some-injective}
use Prim.Native.Nat.{ℕ, ◌≤◌}
use lib.ListN.{length, drop}
use Rattle.lists.specs.Choice.{◌>>◌}
use Rattle.lists.specs.Lists.{Bytes, same}
use Rattle.lists.proofs.ChoiceLaws.{provided_then, test_none, bind_some}
use Rattle.lines.specs.Line.{Read as ReadForm, ended_lines, open_rest, read_lines, read_line}
use Rattle.rules.specs.Response.{Kind, search, monitor, Finding, searched, monitored, Parts}
use Rattle.rules.specs.ResponseText.{kt_form, head_form, target_form, read_body, read_rest, read_parts}
use Rattle.rules.specs.ResponseText.{read_response}
use Rattle.inputs.specs.TextLine.{read_from}
use Rattle.inputs.specs.ResponseHeader.{read_kt, read_finding}
use Rattle.inputs.proofs.TextLineLaws.{followed_by, lines_from, first, from_first, from_rest}

-- ---- the lines before the sections

-- a response is read from its lines, if nothing is open
response_lines : (s : Bytes) → read_response s ≡ (same (open_rest s) [] >> read_parts (ended_lines s))
unfolding read_response read_lines
response_lines s = provided_then (same (open_rest s) []) (ended_lines s) read_parts

-- lines that make no parts make no response
response_none : (s : Bytes) → read_parts (ended_lines s) ≡ none → read_response s ≡ none
response_none s e = response_lines s ∙ rw e (test_none (same (open_rest s) []))

-- what a first line says
abbrev Opening : Type 0
Opening = Kind × ReadForm (kt_form search)

-- what follows the fields of the first line and of the second
abbrev after_head : Opening → ReadForm head_form × List Bytes → Option Parts
after_head (kind, (identifier, (label, _))) ((n, _), ls) = read_rest kind identifier label n ls

-- what follows the fields of the first line
abbrev after_kt : Opening × List Bytes → Option Parts
after_kt (k, ls) = bind (first (read_line head_form) ls) (after_head k)

-- the first line is read, then the others
parts_first : (ls : List Bytes) → read_parts ls ≡ bind (first read_kt ls) after_kt
unfolding read_parts first bind
parts_first [] = refl
parts_first (l ∷ []) = go (read_kt l)
  where
    go : (o : Option Opening) → none ≡ bind (map (followed_by []) o) after_kt
    go none = refl
    go (some k) = refl
parts_first (l ∷ h ∷ ls) = go (read_kt l)
  where
    step : (k : Opening) (p : Option (ReadForm head_form)) → bind p (λ n. after_head k (followed_by ls n)) ≡ bind (map (followed_by ls) p) (after_head k)
    step k none = refl
    step k (some n) = refl

    go : (o : Option Opening)
        → bind o (λ k. bind (read_line head_form h) (λ n. after_head k (followed_by ls n))) ≡ bind (map (followed_by (h ∷ ls)) o) after_kt
    go none = refl
    go (some k) = step k (read_line head_form h)

-- what a search found, by its target line
abbrev sought : ReadForm target_form → Finding
sought (version, (opening, (value, _))) = searched (record { version = version; opening = opening; value = value })

module _ (identifier label : Bytes) (n : ℕ) where
  -- what follows the target line
  abbrev after_target : ReadForm target_form × List Bytes → Option Parts
  after_target (t, ls) = read_body identifier label n (sought t) ls

  -- a search has its target line first
  search_first : (ls : List Bytes) → read_rest search identifier label n ls ≡ bind (first (read_line target_form) ls) after_target
  unfolding read_rest first bind
  search_first [] = refl
  search_first (l ∷ ls) = go (read_line target_form l)
    where
      go : (o : Option (ReadForm target_form)) → bind o (λ t. after_target (followed_by ls t)) ≡ bind (map (followed_by ls) o) after_target
      go none = refl
      go (some t) = refl

  -- what follows what was found
  abbrev after_finding : Bytes → Finding × ℕ → Option Parts
  after_finding s (finding, next) = read_body identifier label n finding (ended_lines (drop next s))

  -- what was found is read, then the sections
  rest-finding : (kind : Kind) (s : Bytes) (at : ℕ) → read_rest kind identifier label n (ended_lines (drop at s)) ≡ bind (read_finding kind s at) (after_finding s)
  unfolding read_rest read_finding bind
  rest-finding monitor s at = refl
  rest-finding search s at =
      search_first (ended_lines (drop at s)) ∙ ap (λ o. bind o after_target) (from_first (read_line target_form) s at)
      ∙ go (read_from (read_line target_form) s at)
    where
      go : (o : Option (ReadForm target_form × ℕ))
          → bind (map (lines_from s) o) after_target ≡ bind (bind o (λ t. some (followed_by t.1 (sought t.0)))) (after_finding s)
      go none = refl
      go (some t) = refl

-- the same of what was found
finding_rest : (kind : Kind) (s : Bytes) (at : ℕ) (finding : Finding) (next : ℕ) → at ≤ length s → read_finding kind s at ≡ some (finding, next)
    → (open_rest (drop at s) ≡ open_rest (drop next s)) × (next ≤ length s)
unfolding read_finding
finding_rest monitor s at finding next h e =
    let n : at ≡ next = ap (λ (x : Finding × ℕ). x.1) (some-injective (monitored, at) (finding, next) e) in
    rw (← n) (refl, h)
finding_rest search s at finding next h e =
    let (t, q, p) = bind_some (read_from (read_line target_form) s at) (λ t. some (followed_by t.1 (sought t.0))) (finding, next) e in
    let n : t.1 ≡ next = ap (λ (x : Finding × ℕ). x.1) (some-injective (followed_by t.1 (sought t.0)) (finding, next) p) in
    rw (← n) (from_rest (read_line target_form) s at t.0 t.1 q)

module _ (s : Bytes) where
  -- without a first line there is no response
  pub response-unopened : read_from read_kt s 0 ≡ none → read_response s ≡ none
  unfolding bind
  response-unopened e =
      response_none s (parts_first (ended_lines s) ∙ ap (λ o. bind o after_kt) (from_first read_kt s 0 ∙ ap (map (lines_from s)) e))

  module _ (kind : Kind) (identifier label : Bytes) (at : ℕ) (e : read_from read_kt s 0 ≡ some ((kind, (identifier, (label, tt))), at)) where
    -- the second line follows the first
    parts-opened : read_parts (ended_lines s) ≡ bind (map (lines_from s) (read_from (read_line head_form) s at)) (after_head (kind, (identifier, (label, tt))))
    unfolding bind
    parts-opened =
        parts_first (ended_lines s) ∙ ap (λ o. bind o after_kt) (from_first read_kt s 0 ∙ ap (map (lines_from s)) e)
        ∙ ap (λ o. bind o (after_head (kind, (identifier, (label, tt))))) (from_first (read_line head_form) s at)

    -- without a second line there is no response
    pub response-unsized : read_from (read_line head_form) s at ≡ none → read_response s ≡ none
    unfolding bind
    response-unsized f = response_none s (parts-opened ∙ rw f refl)

    module _ (n after : ℕ) (f : read_from (read_line head_form) s at ≡ some ((n, tt), after)) where
      -- what was found follows the second line
      parts-sized : read_parts (ended_lines s) ≡ bind (read_finding kind s after) (after_finding identifier label n s)
      unfolding bind
      parts-sized = parts-opened ∙ rw f (rest-finding identifier label n kind s after)

      -- without a target line a search is no response
      pub response-unfound : read_finding kind s after ≡ none → read_response s ≡ none
      unfolding bind
      response-unfound g = response_none s (parts-sized ∙ rw g refl)

      module _ (finding : Finding) (next : ℕ) (g : read_finding kind s after ≡ some (finding, next)) where
        -- the sections begin within the text
        pub sections-within : next ≤ length s
        sections-within = (finding_rest kind s after finding next (from_rest (read_line head_form) s at (n, tt) after f).1 g).1

        -- a response is what its sections make with the lines before them
        pub response-headed : read_response s ≡ (same (open_rest (drop next s)) [] >> read_body identifier label n finding (ended_lines (drop next s)))
        unfolding bind
        response-headed =
            let (kt, _) = from_rest read_kt s 0 (kind, (identifier, (label, tt))) at e in
            let (head, w) = from_rest (read_line head_form) s at (n, tt) after f in
            let (found, _) = finding_rest kind s after finding next w g in
            let o : open_rest s ≡ open_rest (drop next s) = kt ∙ head ∙ found in
            response_lines s ∙ ap₂ (λ t p. same t [] >> p) o (parts-sized ∙ rw g refl)
