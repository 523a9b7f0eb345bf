-- Laws of the sections of a response (specs/ResponseSections.antt): what a line is in a section, a
-- section line by line, lookups that follow no entry.
use mathlib.Core.Path.{◌≡◌, refl, sym, ◌∙◌, ap}
use mathlib.Core.Bool.{Bool, true, false, not, false≢true}
use mathlib.Core.List.{List, [], ◌∷◌, ◌++◌, append-nil}
use mathlib.Core.Option.{Option, none, some, bind, map}
use Prim.Native.Nat.{ℕ, suc, ◌+◌, ◌-◌, ◌≤◌}
use native.Mathlib.Omega.{arith}
use lib.Dec.{ltb}
use lib.ListN.{length, length-append, take, drop}
use borrow.Author.Tests.{lt-ltb}
use Rattle.std.specs.Bool.{then_some}
use Rattle.lists.specs.Choice.{is_some, or_else}
use Rattle.lists.specs.Lists.{Bytes}
use Rattle.lists.proofs.ChoiceLaws.{map_some, given_none}
use Rattle.lines.specs.Line.{Read as ReadForm, ended_lines, read_line, leading}
use Rattle.lines.specs.Readings.{part_of}
use Rattle.lines.proofs.LineLaws.{leading_end, leading-some}
use Rattle.lines.proofs.SectionLaws.{Section, section_start, section_next}
use Rattle.lines.proofs.SectionLaws.{section-lines, section-rest, section-part, section-closed}
use Rattle.lines.proofs.SectionLaws.{leading-append, leading-snoc}
use Rattle.rules.specs.Response.{Entry, Lookup}
use Rattle.rules.specs.ResponseText.{entry_form, Item, entry_item, lookup_item, read_in, read_no, read_nl}
use Rattle.rules.specs.ResponseText.{read_entry_line, read_item, grouped}
use Rattle.inputs.specs.declared.response.Sort.{Sort}
use Rattle.inputs.specs.declared.response.Sort.TheVariants.{Steps, Entries, Nodes, Ends}
use Rattle.inputs.specs.declared.response.Role.TheVariants.{Begins, Continues}
use Rattle.inputs.specs.TextLine.{read_from}
use Rattle.inputs.specs.Response.{loose_in}
use Rattle.inputs.specs.ResponseSections.{Element, read_element, begins_element, read_role, role_of, count_of, SectionOf}
use Rattle.inputs.proofs.TextLineLaws.{ReadHere, from-was, from-unmapped, none-leads}

-- ---- one line

-- a line begins something where it reads, if every such line does
pub line-begins : {A : Type 0} (t : Bool) (o : Option A) → t ≡ is_some o → role_of (then_some t Begins) ≡ map (λ _. true) o
unfolding is_some
line-begins t none e = rw e refl
line-begins t (some a) e = rw e refl

-- an entry line as an item
abbrev entry : ReadForm entry_form → Option Item
entry (position, (timestamp, (root, _))) = some (entry_item (record { position = position; timestamp = timestamp; prefix_root = root; lookups = [] }))

-- a lookup line
abbrev read_lookup : Bytes → Option Lookup
read_lookup l = or_else (read_in l) (or_else (read_no l) (read_nl l))

module _ (l : Bytes) where
  -- an entry line begins an entry
  pub entry-begins : is_some (read_entry_line l) ≡ true → read_role Entries l ≡ some true
  unfolding read_item read_entry_line or_else bind is_some
  entry-begins e = go (read_line entry_form l) e
    where
      go : (o : Option (ReadForm entry_form)) → is_some (bind o entry) ≡ true
          → map (begins_element Entries) (or_else (bind o entry) (map lookup_item (read_lookup l))) ≡ some true
      go none e = absurd (false≢true e)
      go (some x) e = refl

  module _ (n : is_some (read_entry_line l) ≡ false) where
    -- a lookup line continues one, and every other line is neither
    pub line-continues : (t : Bool) → t ≡ is_some (read_lookup l) → role_of (then_some t Continues) ≡ read_role Entries l
    unfolding read_item or_else is_some
    line-continues t e = rw (given_none (read_entry_line l) n) (go (read_lookup l) e)
      where
        go : (o : Option Lookup) → t ≡ is_some o → role_of (then_some t Continues) ≡ map (begins_element Entries) (map lookup_item o)
        go none e = rw e refl
        go (some x) e = rw e refl

-- ---- the line at an offset

module _ (sort : Sort) (s : Bytes) (at : ℕ) where
  -- a role is that of a line that reads
  role-was : (b : Bool) (next : ℕ) → read_from (read_role sort) s at ≡ some (b, next)
      → (x : Element sort) × ReadHere (read_element sort) s at x next × (begins_element sort x ≡ b)
  role-was b next e =
      let h = from-was (read_role sort) s at b next e in
      let (x, q, i) = map_some (begins_element sort) (read_element sort (take (h.stop - at) (drop at s))) b h.reads in
      (x, record { stop = h.stop; here = h.here; reads = q }, i)

  -- where there is none, no line that reads leads
  role_not : read_from (read_role sort) s at ≡ none → leading (read_element sort) (ended_lines (drop at s)) ≡ ([], ended_lines (drop at s))
  role_not e = none-leads (read_element sort) s at (from-unmapped (begins_element sort) (read_element sort) s at e)

-- ---- how many

-- an entry at the end is one more
entry_more : (xs : List Item) (e : Entry) → length (grouped (xs ++ entry_item e ∷ [])).1 ≡ suc (length (grouped xs).1)
unfolding grouped
entry_more [] e = refl
entry_more (lookup_item l ∷ xs) e = entry_more xs e
entry_more (entry_item x ∷ xs) e = ap suc (entry_more xs e)

-- a lookup at the end is none more
lookup_same : (xs : List Item) (l : Lookup) → length (grouped (xs ++ lookup_item l ∷ [])).1 ≡ length (grouped xs).1
unfolding grouped
lookup_same [] l = refl
lookup_same (lookup_item x ∷ xs) l = lookup_same xs l
lookup_same (entry_item x ∷ xs) l = ap suc (lookup_same xs l)

-- an element at the end is one more
length_more : {A : Type 0} (xs : List A) (x : A) → length (xs ++ x ∷ []) ≡ length xs + 1
length_more xs x = length-append xs (x ∷ [])

-- what begins something is one more
count_more : (sort : Sort) (xs : List (Element sort)) (x : Element sort) → begins_element sort x ≡ true → count_of sort (xs ++ x ∷ []) ≡ count_of sort xs + 1
count_more Steps xs x e = length_more xs x
count_more Entries xs (entry_item x) e = let h = entry_more xs x in omega arith
count_more Entries xs (lookup_item x) e = absurd (false≢true e)
count_more Nodes xs x e = length_more xs x
count_more Ends xs x e = length_more xs x

-- what continues something is none more
count_same : (sort : Sort) (xs : List (Element sort)) (x : Element sort) → begins_element sort x ≡ false → count_of sort (xs ++ x ∷ []) ≡ count_of sort xs
count_same Steps xs x e = absurd (false≢true (sym e))
count_same Entries xs (entry_item x) e = absurd (false≢true (sym e))
count_same Entries xs (lookup_item x) e = lookup_same xs x
count_same Nodes xs x e = absurd (false≢true (sym e))
count_same Ends xs x e = absurd (false≢true (sym e))

-- nothing begins where no line is
count_none : (sort : Sort) → 0 ≡ count_of sort []
unfolding grouped
count_none Steps = refl
count_none Entries = refl
count_none Nodes = refl
count_none Ends = refl

-- ---- a section, line by line

-- the lines from an offset to another all belong to a section, which has so many elements up to
-- there
pub record Running (sort : Sort) (s : Bytes) (from at count : ℕ) : Type 0 where
  pub lines : List Bytes
  pub elements : List (Element sort)
  pub stand : Section s from at lines
  pub read : leading (read_element sort) lines ≡ (elements, [])
  pub counted : count ≡ count_of sort elements

module _ (sort : Sort) (s : Bytes) (from : ℕ) where
  -- at its start it has no line
  pub running-start : from ≤ length s → Running sort s from from 0
  running-start h = record { lines = []; elements = []; stand = section_start s from h; read = leading_end (read_element sort); counted = count_none sort }

  module _ (at count : ℕ) (r : Running sort s from at count) where
    -- a line that reads belongs to it
    line_more : (x : Element sort) (next : ℕ) → ReadHere (read_element sort) s at x next → Running sort s from next (count_of sort (r.elements ++ x ∷ []))
    line_more x next h =
        let l = take (h.stop - at) (drop at s) in
        record {
          lines = r.lines ++ l ∷ [];
          elements = r.elements ++ x ∷ [];
          stand = section_next s from at h.stop next r.lines r.stand h.here;
          read = leading-snoc (read_element sort) r.lines r.elements l x r.read h.reads;
          counted = refl;
        }

    -- one that begins something is counted
    pub running-begins : (next : ℕ) → read_from (read_role sort) s at ≡ some (true, next) → Running sort s from next (count + 1)
    running-begins next e =
        let (x, h, b) = role-was sort s at true next e in
        rw (r.counted, ← count_more sort r.elements x b) (line_more x next h)

    -- one that continues something is not
    pub running-continues : (next : ℕ) → read_from (read_role sort) s at ≡ some (false, next) → Running sort s from next count
    running-continues next e =
        let (x, h, b) = role-was sort s at false next e in
        rw (r.counted, ← count_same sort r.elements x b) (line_more x next h)

    -- it ends where no line that belongs to it follows
    pub running-ends : read_from (read_role sort) s at ≡ none → SectionOf sort s from (record { part = record { start = from; stop = at }; count = count })
    unfolding part_of
    running-ends e =
        let c = r.stand in
        let read = read_element sort in
        let own : leading read (ended_lines (take (at - from) (drop from s))) ≡ (r.elements, []) =
        ap (leading read) (section-part s from at r.lines c) ∙ r.read in
        let all = ap (leading read) (section-lines s from at r.lines c) ∙ leading-append read r.lines (ended_lines (drop at s)) r.elements r.read in
        record {
          starts = refl;
          forward = c.forward;
          within = c.within;
          lines = rw own (all ∙ rw (role_not sort s at e, append-nil r.elements) refl);
          rest = section-rest s from at r.lines c;
          whole = (ap (λ (p : List (Element sort) × List Bytes). p.1) own, section-closed s from at r.lines c);
          counted = rw own r.counted;
        }

-- ---- lookups that follow no entry

-- there are some where the first line is no entry
loose_first : (x : Item) (xs : List Item) → ltb 0 (length (grouped (x ∷ xs)).0) ≡ not (begins_element Entries x)
unfolding grouped
loose_first (entry_item e) xs = refl
loose_first (lookup_item l) xs = lt-ltb 0 (suc (length (grouped xs).0)) (omega arith)

module _ (s : Bytes) (at : ℕ) where
  -- they stand among the leading lines
  loose-leading : (xs : List Item) (ls : List Bytes) → leading read_item (ended_lines (drop at s)) ≡ (xs, ls)
      → ltb 0 (length (loose_in (drop at s))) ≡ ltb 0 (length (grouped xs).0)
  unfolding loose_in
  loose-leading xs ls e = ap (λ (p : List Item × List Bytes). ltb 0 (length (grouped p.0).0)) e

  -- there are some where the line there is a lookup
  pub loose-line : (b : Bool) (next : ℕ) → read_from (read_role Entries) s at ≡ some (b, next) → ltb 0 (length (loose_in (drop at s))) ≡ not b
  loose-line b next e =
      let (x, h, i) = role-was Entries s at b next e in
      let l = take (h.stop - at) (drop at s) in
      let (xs, ls) = leading read_item (ended_lines (drop next s)) in
      let f = ap (leading read_item) h.here.lines ∙ leading-some read_item l (ended_lines (drop next s)) x h.reads in
      loose-leading (x ∷ xs) ls f ∙ loose_first x xs ∙ ap not i

  -- there are none where no line of an entry stands
  pub loose_none : read_from (read_role Entries) s at ≡ none → ltb 0 (length (loose_in (drop at s))) ≡ false
  unfolding grouped
  loose_none e = loose-leading [] (ended_lines (drop at s)) (role_not Entries s at e)
