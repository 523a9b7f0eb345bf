-- Lines of a response read field by field: what a reader finds at an offset shows what the rest of
-- the line's form reads as.
use mathlib.Core.Path.{◌≡◌, refl, sym, ◌∙◌, ap}
use mathlib.Core.Bool.{Bool, true, false, ◌&&◌, ◌||◌}
use mathlib.Core.List.{List, [], ◌∷◌}
use mathlib.Core.Option.{Option, none, some, bind, map}
use Prim.Native.Nat.{ℕ, ◌-◌, ◌≤◌, ◌<◌}
use native.Mathlib.Omega.{arith}
use lib.Dec.{leb, ltb}
use lib.ListN.{length}
use Rattle.lists.specs.Choice.{provided, is_some, or_else}
use Rattle.lists.specs.Lists.{Bytes}
use Rattle.lists.proofs.ChoiceLaws.{none_given, given_or_else, bind_some, given_provided, given_bind}
use Rattle.lines.specs.Number.{ascii, read_number}
use Rattle.lines.specs.Hex.{decoded_length}
use Rattle.lines.specs.Field.{Field, number, bytes, exactly, up_to, read_field, read_fields}
use Rattle.lines.specs.Line.{Read, read_line}
use Rattle.lines.specs.Cursor.{field_at, fields_from, read_at, word_at}
use Rattle.lines.specs.Readings.{part_of}
use Rattle.std.specs.Prelude.{MatchOption, Some, None, Option as CodeOption}
use Rattle.std.specs.Bool.{then_some}
use Rattle.lines.specs.declared.part.Part.{Part}
use Rattle.lines.proofs.FormLaws.{word_form, word_on, word-off, line_on, line-off, field-on, field_off}
use Rattle.lines.proofs.FormLaws.{field-given, with_rest, here-read, read-form, words-over, read-ended}
use Rattle.lines.proofs.FormLaws.{read-number-on, bytes_fit, bytes-unfit}
use Rattle.lines.proofs.NumberLaws.{decimal_read}
use Rattle.rules.specs.Response.{Kind, search}
use Rattle.rules.specs.Limits.{number_bound, version_bound, opening_length, value_limit}
use Rattle.rules.specs.ResponseText.{version_field, head_form, target_form}
use Rattle.rules.specs.ResponseText.{kind_word, kt_form, read_kind_line}
use Rattle.rules.specs.ResponseText.{step_form, entry_form, in_form, no_form, nl_form, node_form, read_step}
use Rattle.rules.specs.ResponseText.{read_entry_line, read_in, read_no, read_nl, read_node}
use Rattle.inputs.specs.ResponseLines.{number_after, decoded, head_of, last_bytes_of, last_parts_of, Decodes}
use Rattle.inputs.specs.ResponseLines.{StandsIn}

-- ---- forms, parts and kinds

-- the part that a field fills, from its offset and the offset after it
abbrev field_part : ℕ → ℕ → Part
field_part at next = record { start = at; stop = next - 1 }

-- the values of a first line, with its kind
abbrev pub with_kind : Kind → Option (Read (kt_form search)) → Option (Kind × Read (kt_form search))
with_kind kind o = map (λ (r : Read (kt_form search)). (kind, r)) o

-- ---- words, numbers and other fields

module _ (l : Bytes) where
  module _ (w : Bytes) (bound : ℕ) (fs : List Field) where
    -- a line of one word and a number reads as the number and the fields after it
    pub number-on : (v next : ℕ) → number_after w bound l ≡ some (v, next)
        → read_line (word_form w (number bound ∷ fs)) l ≡ with_rest (number bound) fs v (read_fields fs (fields_from l next))
    number-on v next e =
        let (at, p, q) = bind_some (word_at w l 0) (read_at (read_number bound) l) (v, next) e in
        line_on l w (number bound ∷ fs) at p ∙ field-on l (number bound) fs at v next (read-number-on l bound at ∙ q)

    -- one without that word or without a number does not read
    pub number-off : number_after w bound l ≡ none → read_line (word_form w (number bound ∷ fs)) l ≡ none
    unfolding bind
    number-off e = go (word_at w l 0) refl e
      where
        go : (o : Option ℕ) → word_at w l 0 ≡ o → bind o (read_at (read_number bound) l) ≡ none → read_line (word_form w (number bound ∷ fs)) l ≡ none
        go none p q = line-off l w (number bound ∷ fs) p
        go (some at) p q = line_on l w (number bound ∷ fs) at p ∙ field_off l (number bound) fs at (read-number-on l bound at ∙ q)

    -- a line of one word and a number is given if the fields after the number are
    pub number-given : (v next : ℕ) → number_after w bound l ≡ some (v, next)
        → is_some (read_line (word_form w (number bound ∷ fs)) l) ≡ is_some (read_fields fs (fields_from l next))
    number-given v next e =
        let (at, p, q) = bind_some (word_at w l 0) (read_at (read_number bound) l) (v, next) e in
        ap is_some (line_on l w (number bound ∷ fs) at p) ∙ field-given l (number bound) fs at v next (read-number-on l bound at ∙ q)

  -- a `head` line is its word and a number
  pub head-alone : (v next : ℕ) → number_after (ascii "head") number_bound l ≡ some (v, next)
      → read_line head_form l ≡ head_of (then_some (ltb (length l) next) v)
  unfolding bind provided
  head-alone v next e = number-on (ascii "head") number_bound [] v next e ∙ ap (with_rest (number number_bound) [] v) (read-ended l next) ∙ go (ltb (length l) next)
    where
      go : (t : Bool) → with_rest (number number_bound) [] v (provided t tt) ≡ head_of (then_some t v)
      go true = refl
      go false = refl

  -- a `target` line is its word, a version and two parts
  pub target-parts : (v next : ℕ) → number_after (ascii "target") version_bound l ≡ some (v, next)
      → (r : CodeOption (Part × Part)) → last_parts_of l r ≡ read_fields (exactly opening_length ∷ up_to value_limit ∷ []) (fields_from l next)
      → read_line target_form l ≡ with_rest version_field (exactly opening_length ∷ up_to value_limit ∷ []) v (last_parts_of l r)
  target-parts v next e r h =
      let rest = exactly opening_length ∷ up_to value_limit ∷ [] in
      number-on (ascii "target") version_bound rest v next e ∙ ap (with_rest version_field rest v) (sym h)

  -- the number after a word is not above its bound
  pub number-below : (w : Bytes) (bound v next : ℕ) → number_after w bound l ≡ some (v, next) → v ≤ bound
  number-below w bound v next e =
      let (at, p, q) = bind_some (word_at w l 0) (read_at (read_number bound) l) (v, next) e in
      (decimal_read bound (field_at l at) v (here-read l (read_number bound) at v next q).1).1

  -- ---- byte strings

  module _ (at n next : ℕ) (e : read_at decoded_length l at ≡ some (n, next)) where
    -- it is encoded by the part that the field fills
    part-decodes : Decodes l (field_part at next)
    unfolding part_of is_some
    part-decodes =
        let f = (here-read l decoded_length at n next e).0 in
        let (b, h, _, _) = bytes_fit l (λ _. true) at n next e refl in
        rw (f.part, h) refl

    -- the field of a byte string stands in the line
    pub part-stands : (0 < next) × StandsIn l (field_part at next)
    part-stands =
        let f = (here-read l decoded_length at n next e).0 in
        let p = f.begins in
        let q = f.next_is in
        let r = f.within in
        (omega arith, (omega arith, omega arith, part-decodes))

    -- and encodes as many bytes as were told
    pub part-length : length (decoded (part_of l (field_part at next))) ≡ n
    unfolding decoded part_of
    part-length =
        let f = (here-read l decoded_length at n next e).0 in
        let (b, h, q, d) = bytes_fit l (λ _. true) at n next e refl in
        rw (f.part, h) q

    -- a byte string whose length fits is read of that part
    pub part-read : (fits : ℕ → Bool) → fits n ≡ true → read_at (read_field (bytes fits)) l at ≡ some (decoded (part_of l (field_part at next)), next)
    unfolding decoded part_of
    part-read fits t =
        let f = (here-read l decoded_length at n next e).0 in
        let (b, h, q, d) = bytes_fit l fits at n next e t in
        rw (f.part, h) d

    -- it is all that is left where the line ends after it, and its length fits
    pub last-field : (fits : ℕ → Bool)
        → read_fields (bytes fits ∷ []) (fields_from l at) ≡ provided (ltb (length l) next && fits n) (decoded (part_of l (field_part at next)), tt)
    unfolding provided bind
    last-field fits = go (ltb (length l) next) refl (fits n) refl
      where
        go : (u : Bool) → ltb (length l) next ≡ u → (t : Bool) → fits n ≡ t
            → read_fields (bytes fits ∷ []) (fields_from l at) ≡ provided (u && t) (decoded (part_of l (field_part at next)), tt)
        go true p true q = field-on l (bytes fits) [] at _ next (part-read fits q) ∙ rw (read-ended l next, p) refl
        go true p false q = field_off l (bytes fits) [] at (bytes-unfit l fits at n next e q)
        go false p true q = field-on l (bytes fits) [] at _ next (part-read fits q) ∙ rw (read-ended l next, p) refl
        go false p false q = field_off l (bytes fits) [] at (bytes-unfit l fits at n next e q)

  -- ---- the last field

  -- two byte strings are the last where the first is read, and then the last
  pub first-part : (at wanted : ℕ) (b : Bytes) (next : ℕ) → read_at (read_field (exactly wanted)) l at ≡ some (b, next)
      → (r : CodeOption (ℕ × Part)) (longest : ℕ)
      → ((fits : ℕ → Bool) → last_bytes_of l fits r ≡ read_fields (bytes fits ∷ []) (fields_from l next))
      → read_fields (exactly wanted ∷ up_to longest ∷ []) (fields_from l at)
      ≡ with_rest (exactly wanted) (up_to longest ∷ []) b (last_bytes_of l (λ (n : ℕ). leb n longest) r)
  first-part at wanted b next e r longest h =
      field-on l (exactly wanted) (up_to longest ∷ []) at b next e ∙ ap (with_rest (exactly wanted) (up_to longest ∷ []) b) (sym (h (λ (n : ℕ). leb n longest)))

  module _ (fits : ℕ → Bool) (at : ℕ) (r : CodeOption (ℕ × Part)) (e : (fits : ℕ → Bool) → last_bytes_of l fits r ≡ read_fields (bytes fits ∷ []) (fields_from l at)) where
    -- a last byte string is given if its length fits
    last-given : (n : ℕ) (p : Part) → r ≡ Some (n, p) → is_some (read_fields (bytes fits ∷ []) (fields_from l at)) ≡ fits n
    last-given n p i = ap is_some (sym (e fits)) ∙ ap (λ (x : CodeOption (ℕ × Part)). is_some (last_bytes_of l fits x)) i ∙ given_provided (fits n) (decoded (part_of l p), tt)

    -- so it is where a judgement of it says so
    pub last-judged : (b : Bool) (P : ℕ × Part → Type 0) → MatchOption r (b ≡ false) P → ((n : ℕ) (p : Part) → P (n, p) → b ≡ fits n)
        → b ≡ is_some (read_fields (bytes fits ∷ []) (fields_from l at))
    last-judged b P m h = go r refl m
      where
        go : (o : CodeOption (ℕ × Part)) → r ≡ o → MatchOption o (b ≡ false) P → b ≡ is_some (read_fields (bytes fits ∷ []) (fields_from l at))
        go None i q = q ∙ sym (none_given (read_fields (bytes fits ∷ []) (fields_from l at)) (sym (e fits) ∙ ap (last_bytes_of l fits) i))
        go (Some (n, p)) i q = h n p q ∙ sym (last-given n p i)

  -- ---- a first line

  module _ (kind : Kind) where
    -- after its two words it reads as the identifier and the label
    pub kind-on : (at next : ℕ) → word_at (ascii "kt") l 0 ≡ some at → word_at (kind_word kind) l at ≡ some next
        → read_kind_line kind l ≡ with_kind kind (read_fields (kt_form kind).fields (fields_from l next))
    unfolding read_kind_line
    kind-on at next p q =
        let fs = (kt_form kind).fields in
        ap (with_kind kind)
        (read-form l (kt_form kind) ∙ word_on l (ascii "kt") (kind_word kind ∷ []) fs 0 at p ∙ word_on l (kind_word kind) [] fs at next q ∙ words-over l fs next)

    -- without the first it does not read
    pub kind-off : word_at (ascii "kt") l 0 ≡ none → read_kind_line kind l ≡ none
    unfolding read_kind_line
    kind-off p = rw (read-form l (kt_form kind), word-off l (ascii "kt") (kind_word kind ∷ []) (kt_form kind).fields 0 p) refl

    -- nor without the second
    pub kind-other : (at : ℕ) → word_at (ascii "kt") l 0 ≡ some at → word_at (kind_word kind) l at ≡ none → read_kind_line kind l ≡ none
    unfolding read_kind_line
    kind-other at p q =
        let fs = (kt_form kind).fields in
        rw (read-form l (kt_form kind), word_on l (ascii "kt") (kind_word kind ∷ []) fs 0 at p, word-off l (kind_word kind) [] fs at q) refl

-- ---- lines of which values are made

-- a step is given if its form reads
pub step_given : (l : Bytes) → is_some (read_step l) ≡ is_some (read_line step_form l)
unfolding read_step is_some
step_given l = given_bind (read_line step_form l) _ (λ vs. refl)

-- so is an entry
pub entry_given : (l : Bytes) → is_some (read_entry_line l) ≡ is_some (read_line entry_form l)
unfolding read_entry_line is_some
entry_given l = given_bind (read_line entry_form l) _ (λ vs. refl)

-- so is an inclusion
in_given : (l : Bytes) → is_some (read_in l) ≡ is_some (read_line in_form l)
unfolding read_in is_some
in_given l = given_bind (read_line in_form l) _ (λ vs. refl)

-- so is a non-inclusion
no_given : (l : Bytes) → is_some (read_no l) ≡ is_some (read_line no_form l)
unfolding read_no is_some
no_given l = given_bind (read_line no_form l) _ (λ vs. refl)

-- so is a non-inclusion that shows another leaf
nl_given : (l : Bytes) → is_some (read_nl l) ≡ is_some (read_line nl_form l)
unfolding read_nl is_some
nl_given l = given_bind (read_line nl_form l) _ (λ vs. refl)

-- so is a node
pub node_given : (l : Bytes) → is_some (read_node l) ≡ is_some (read_line node_form l)
unfolding read_node is_some
node_given l = given_bind (read_line node_form l) _ (λ vs. refl)

-- a lookup is given if one of the forms of lookups reads
pub lookup_given : (l : Bytes)
    → is_some (or_else (read_in l) (or_else (read_no l) (read_nl l))) ≡ (is_some (read_line in_form l) || (is_some (read_line no_form l) || is_some (read_line nl_form l)))
lookup_given l =
    rw (given_or_else (read_in l) (or_else (read_no l) (read_nl l)), given_or_else (read_no l) (read_nl l), in_given l, no_given l, nl_given l) refl
