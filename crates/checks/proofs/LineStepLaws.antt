-- Laws of the lines of a response's sections, one at a time (specs/Sections.antt): what they say
-- where, and a section from its first line on.
use mathlib.Core.Path.{◌≡◌, refl, sym, ◌∙◌, ap, ap₂}
use mathlib.Core.Bool.{Bool, true, false, ◌||◌, false≢true}
use mathlib.Core.Logic.{◌⊎◌, inl, inr}
use mathlib.Core.List.{List, [], ◌∷◌, ◌++◌, append_assoc, cons-ne-nil}
use mathlib.Core.Option.{Option, none, some, bind, map, none-ne-some, some-injective}
use Prim.Native.Nat.{ℕ, ◌+◌, ◌-◌, ◌≤◌, ◌<◌}
use native.Mathlib.Omega.{arith}
use lib.Dec.{eqb}
use lib.ListN.{length, length-append, length-drop, take, drop, get_or}
use lib.Seq.{length-take-le, drop-drop, drop-append_seam}
use borrow.Author.Tests.{eq-eqb, ne_eqb, eqb-true}
use Rattle.std.specs.Prelude.{Some, is_some as is_given, unwrap_or}
use Rattle.std.specs.Bool.{then_some}
use Rattle.lists.specs.Choice.{is_some, or_else}
use Rattle.lists.specs.Lists.{Bytes}
use Rattle.lists.proofs.ChoiceLaws.{or_holds, provided_some, bind_some, bind_by, map_some}
use Rattle.lists.proofs.ListLaws.{same_true}
use Rattle.hash.specs.Bytes.{AreBytes}
use Rattle.lines.specs.Number.{ascii, decimal, read_number}
use Rattle.lines.specs.Hex.{dash, hex, hex_field}
use Rattle.lines.specs.Field.{Field, number, Values, read_field, read_fields, write_field, write_fields}
use Rattle.lines.specs.Line.{tab, newline, Read, read_after, read_line, ended_lines, leading, joined}
use Rattle.lines.specs.Cursor.{line_at, field_at, fields_from, read_at, word_at}
use Rattle.lines.proofs.NumberLaws.{decimal_read}
use Rattle.lines.proofs.HexLaws.{length_hex, hex_field_some}
use Rattle.lines.proofs.OffsetLaws.{at_cons}
use Rattle.lines.proofs.LineLaws.{line_text, line_read, leading_end, leading-none, leading-some}
use Rattle.lines.proofs.SectionLaws.{LineHere, line_here, line_none, line_end, line_more}
use Rattle.lines.proofs.FormLaws.{word_form, with_rest, here-read, read-form, word-here, read_word, words-over}
use Rattle.lines.proofs.FormLaws.{read-field-on, read-number-on}
use Rattle.lines.specs.Layout.{entry_fields, step_fields, value_digits}
use Rattle.tree.specs.LogText.{value_in, entry_in}
use Rattle.tree.proofs.LogTextLaws.{value_front, entry_written}
use Rattle.rules.specs.Limits.{hash_length, version_bound}
use Rattle.rules.specs.Response.{Step, Lookup, Entry, log_entry}
use Rattle.rules.specs.ResponseText.{commitment_field, step_form, entry_form}
use Rattle.rules.specs.ResponseText.{read_commitment, read_step, Item, entry_item, lookup_item, read_entry_line}
use Rattle.rules.specs.ResponseText.{read_item, grouped}
use Rattle.inputs.specs.Response.{steps_in, loose_in, entries_in, AllRead}
use Rattle.checks.specs.Sections.{StepLines, EntryLines, CommitmentAt, IsNextStep, with_lookups}
use Rattle.checks.specs.Sections.{IsNextEntry, read_lookup, IsNextLookup}
use Rattle.checks.proofs.LookupLineLaws.{first_letter, lookup-line, letter_other}

-- ---- lines of one word and fields

module _ (l w : Bytes) where
  -- such a line is read from the offset after its word on
  fields-after : (fs : List Field) (vs : Values fs) → read_line (word_form w fs) l ≡ some vs → read_fields fs (fields_from l (length w + 1)) ≡ some vs
  fields-after fs vs e =
      let (at, p, q) = bind_some (word_at w l 0) (λ (n : ℕ). read_after [] fs (fields_from l n)) vs
      (sym (read-form l (word_form w fs) ∙ read_word l w [] fs 0) ∙ e) in
      let (t, i) = provided_some _ (0 + length (field_at l 0) + 1) at (sym (word-here l w 0 (omega arith)) ∙ p) in
      let n : at ≡ length w + 1 = let k = ap length (same_true (field_at l 0) w t) in omega arith in
      ap (λ (n : ℕ). read_fields fs (fields_from l n)) (sym n) ∙ sym (words-over l fs at) ∙ q

  -- the number that follows the word is read there
  number-after : (bound : ℕ) (fs : List Field) (v : ℕ) (vs : Values fs) → read_line (word_form w (number bound ∷ fs)) l ≡ some (v, vs)
      → read_at (read_number bound) l (length w + 1) ≡ some (v, length w + 1 + length (decimal v) + 1)
  number-after bound fs v vs e =
      bind_by (read_at (read_field (number bound)) l at) (λ (x : ℕ × ℕ). with_rest (number bound) fs x.0 (read_fields fs (fields_from l x.1))) (v, vs)
      (sym (read-field-on l (number bound) fs at) ∙ fields-after (number bound ∷ fs) (v, vs) e) go
    where
      at : ℕ
      at = length w + 1

      go : (x : ℕ × ℕ) → read_at (read_field (number bound)) l at ≡ some x
          → with_rest (number bound) fs x.0 (read_fields fs (fields_from l x.1)) ≡ some (v, vs)
          → read_at (read_number bound) l at ≡ some (v, at + length (decimal v) + 1)
      go x p q =
          let (us, _, u) = bind_some (read_fields fs (fields_from l x.1)) (λ (us : Values fs). some (x.0, us)) (v, vs) q in
          let i : x.0 ≡ v = ap (λ (y : ℕ × Values fs). y.0) (some-injective (x.0, us) (v, vs) u) in
          let r : read_at (read_number bound) l at ≡ some x = sym (read-number-on l bound at) ∙ p in
          let (h, d) = here-read l (read_number bound) at x.0 x.1 r in
          let f : field_at l at ≡ decimal v = (decimal_read bound (field_at l at) x.0 d).0 ∙ ap decimal i in
          r ∙ ap₂ (λ (a b : ℕ). some (a, b)) i (h.next_is ∙ ap (λ (t : Bytes). at + length t + 1) f)

-- such a line begins with the first byte of its word
word_begins : (l : Bytes) (b : ℕ) (w : Bytes) (fs : List Field) (vs : Values fs) → read_line (word_form (b ∷ w) fs) l ≡ some vs → (t : Bytes) × (l ≡ b ∷ t)
unfolding line_text joined
word_begins l b w fs vs e = go (write_fields fs vs) (line_read (word_form (b ∷ w) fs) l vs e).0
  where
    go : (ps : List Bytes) → l ≡ joined tab ((b ∷ w) ∷ ps) → (t : Bytes) × (l ≡ b ∷ t)
    go [] e = (w, e)
    go (p ∷ ps) e = (w ++ tab ∷ joined tab (p ∷ ps), e)

-- ---- what the lines of the sections say

-- a step line says the step's version, and its commitment or no bytes
step_was : (l : Bytes) (x : Step) → read_step l ≡ some x → (c : Bytes) × (read_line step_form l ≡ some (x.version, (c, tt))) × (x.commitment ≡ read_commitment c)
unfolding read_step
step_was l x e =
    let (vs, r, q) = bind_some (read_line step_form l) (λ (vs : Read step_form). some (record { version = vs.0; commitment = read_commitment vs.1.0 })) x e in
    let i : record { version = vs.0; commitment = read_commitment vs.1.0 } ≡ x = some-injective _ x q in
    rw (← i) (vs.1.0, r, refl)

-- an entry line without its lookups, as an item
abbrev entry_of : Read entry_form → Option Item
entry_of (position, (timestamp, (root, _))) = some (entry_item (record { position = position; timestamp = timestamp; prefix_root = root; lookups = [] }))

-- what is read of an item's line: of an entry line its position, time and prefix root, of a lookup
-- line the lookup
abbrev ItemLine : Bytes → Item → Type 0
ItemLine l (entry_item e) = read_line entry_form l ≡ some (e.position, (e.timestamp, (e.prefix_root, tt)))
ItemLine l (lookup_item x) = read_lookup l ≡ some x

-- a line that reads as an item is that item's line
item_was : (l : Bytes) (i : Item) → read_item l ≡ some i → ItemLine l i
unfolding read_item read_entry_line read_lookup or_else bind
item_was l i e = go (read_line entry_form l) refl e
  where
    go : (o : Option (Read entry_form)) → read_line entry_form l ≡ o → or_else (bind o entry_of) (map lookup_item (read_lookup l)) ≡ some i → ItemLine l i
    go none q e = let (x, p, r) = map_some lookup_item (read_lookup l) i e in rw (← r) p
    go (some vs) q e = let j = some-injective _ i e in rw (← j) q

-- ---- the first line of a section

-- where no line leads and no line is left, there is none
no_lines : {A : Type 0} (read : Bytes → Option A) (ls : List Bytes) → (leading read ls).0 ≡ [] → (leading read ls).1 ≡ [] → ls ≡ []
no_lines read [] e f = refl
no_lines {A} read (l ∷ ls) e f = go (read l) refl
  where
    go : (o : Option A) → read l ≡ o → l ∷ ls ≡ []
    go none q = sym (ap (λ (p : List A × List Bytes). p.1) (leading-none read l ls q)) ∙ f
    go (some a) q = absurd (cons-ne-nil a (leading read ls).0 (sym (ap (λ (p : List A × List Bytes). p.0) (leading-some read l ls a q)) ∙ e))

module _ {A : Type 0} (read : Bytes → Option A) (s : Bytes) (at : ℕ) where
  -- the line at an offset of lines that all read: its value, and the lines after it
  record FirstLine (stop next : ℕ) : Type 0 where
    pub here : LineHere s at stop next
    pub value : A
    pub reads : read (take (stop - at) (drop at s)) ≡ some value
    pub values : (leading read (ended_lines (drop at s))).0 ≡ value ∷ (leading read (ended_lines (drop next s))).0
    pub others : AllRead read (drop next s)

  -- where lines all read, the first does, and the others follow it
  first-line : (stop next : ℕ) → line_at s at ≡ some (stop, next) → AllRead read (drop at s) → FirstLine stop next
  first-line stop next e (a, o) = go (read (take (stop - at) (drop at s))) refl
    where
      here : LineHere s at stop next
      here = line_here s at stop next e

      ls : List Bytes
      ls = ended_lines (drop next s)

      go : (r : Option A) → read (take (stop - at) (drop at s)) ≡ r → FirstLine stop next
      go none q =
          let i = ap (λ (p : List A × List Bytes). length p.1) (ap (leading read) here.lines ∙ leading-none read (take (stop - at) (drop at s)) ls q) in
          let z = ap length a in
          absurd (omega arith)
      go (some v) q =
          let i = ap (leading read) here.lines ∙ leading-some read (take (stop - at) (drop at s)) ls v q in
          record {
            here = here;
            value = v;
            reads = q;
            values = ap (λ (p : List A × List Bytes). p.0) i;
            others = (sym (ap (λ (p : List A × List Bytes). p.1) i) ∙ a, sym here.rest ∙ o);
          }

  -- where no line stands, nothing is read
  no_line : line_at s at ≡ none → (leading read (ended_lines (drop at s))).0 ≡ []
  no_line e = ap (λ (p : List A × List Bytes). p.0) (ap (leading read) (line_none s at e).0 ∙ leading_end read)

  -- nor at the end
  pub no-line-end : length s ≤ at → (leading read (ended_lines (drop at s))).0 ≡ []
  no-line-end h = ap (λ (p : List A × List Bytes). p.0) (ap (leading read) (line_end s at h).0 ∙ leading_end read)

  -- before the end something is, where lines all read
  pub some-line : AllRead read (drop at s) → at < length s → (leading read (ended_lines (drop at s))).0 ≡ [] → ⊥
  some-line (a, o) h e = line_more s at h (no_lines read (ended_lines (drop at s)) e a) o

-- the length of a line is what lies between its offsets
line_length : (s : Bytes) (at stop next : ℕ) → LineHere s at stop next → length (take (stop - at) (drop at s)) ≡ stop - at
line_length s at stop next h = let f = h.forward in let w = h.within in length-take-le (stop - at) (drop at s) (omega (arith, length-drop at s))

-- the byte at a line's offset is the line's first
first_byte : (s : Bytes) (at stop next b : ℕ) (t : Bytes) → LineHere s at stop next → take (stop - at) (drop at s) ≡ b ∷ t → get_or s at 0 ≡ b
first_byte s at stop next b t h e =
    let f = h.forward in
    let w = h.within in
    ap (λ (u : Bytes). get_or u 0 0) (sym (at_cons s at (omega arith)) ∙ h.text ∙ ap (λ (l : Bytes). l ++ newline ∷ drop next s) e)

-- ---- steps

-- the text of a step line
abbrev step_text : ℕ → Bytes → Bytes
step_text v c = ascii "step" ++ tab ∷ (decimal v ++ tab ∷ hex_field c)

-- a line that reads as a step is that text
step_text_lem : (l : Bytes) (v : ℕ) (c : Bytes) → read_line step_form l ≡ some (v, (c, tt)) → l ≡ step_text v c
unfolding line_text joined write_fields write_field
step_text_lem l v c e = (line_read step_form l (v, (c, tt)) e).0

-- the commitment's field stands after the version
step_field : (v : ℕ) (c rest : Bytes) → drop (5 + length (decimal v) + 1) (step_text v c ++ rest) ≡ hex_field c ++ rest
unfolding ascii
step_field v c rest =
    let n : step_fields + length (decimal v) + 1 ≡ length (ascii "step" ++ tab ∷ (decimal v ++ tab ∷ [])) = omega (arith, length-append (decimal v) (tab ∷ [])) in
    ap (λ (k : ℕ). drop k (step_text v c ++ rest)) n
    ∙ ap (drop (length (ascii "step" ++ tab ∷ (decimal v ++ tab ∷ []))))
    (ap (λ (t : Bytes). ascii "step" ++ tab ∷ t)
    (append_assoc (decimal v) (tab ∷ hex_field c) rest ∙ sym (append_assoc (decimal v) (tab ∷ []) (hex_field c ++ rest))))
    ∙ drop-append_seam (ascii "step" ++ tab ∷ (decimal v ++ tab ∷ [])) (hex_field c ++ rest)

-- a commitment has the length of a hash
commitment_length : (x : ℕ) (c : Bytes) → (eqb (length (x ∷ c)) 0 || eqb (length (x ∷ c)) hash_length) ≡ true → length (x ∷ c) ≡ hash_length
commitment_length x c e = pick (or_holds (eqb (length (x ∷ c)) 0) (eqb (length (x ∷ c)) hash_length) e)
  where
    pick : (eqb (length (x ∷ c)) 0 ≡ true) ⊎ (eqb (length (x ∷ c)) hash_length ≡ true) → length (x ∷ c) ≡ hash_length
    pick (inl e) = let n = eqb-true (length (x ∷ c)) 0 e in absurd (omega arith)
    pick (inr e) = eqb-true (length (x ∷ c)) hash_length e

-- the commitment of a step stands where its digits do
step_commitment_lem : (s : Bytes) (offset : ℕ) (c rest : Bytes) → (eqb (length c) 0 || eqb (length c) hash_length) ≡ true → AreBytes c
    → drop offset s ≡ hex_field c ++ rest → CommitmentAt s offset (read_commitment c)
unfolding read_commitment
step_commitment_lem s offset [] rest f b e = tt
step_commitment_lem s offset (x ∷ c) rest f b e =
    let n = commitment_length x c f in
    let d : hex_field (x ∷ c) ≡ hex (x ∷ c) = hex_field_some (x ∷ c) (omega arith) in
    ap (λ (t : Bytes). value_in (take value_digits t)) (e ∙ ap (λ (t : Bytes). t ++ rest) d) ∙ value_front (x ∷ c) rest (n, b)

-- the length of a step line tells whether it has a commitment
commitment_told : (c : Bytes) (k m : ℕ) → (eqb (length c) 0 || eqb (length c) hash_length) ≡ true → k ≡ m + length (hex_field c)
    → is_some (read_commitment c) ≡ eqb k (m + value_digits)
unfolding read_commitment is_some hex_field dash ascii
commitment_told [] k m f e = sym (ne_eqb k (m + value_digits) (λ i. omega arith))
commitment_told (x ∷ c) k m f e =
    let n = commitment_length x c f in
    sym (eq-eqb k (m + value_digits) (omega (arith, length_hex (x ∷ c))))

-- an offset that is noted where there is a commitment is given there
noted_given : (b : Bool) (offset : ℕ) → is_given (then_some b offset) ≡ b
noted_given true offset = refl
noted_given false offset = refl

-- where there is one it stands at the offset noted
noted_right : (s : Bytes) (b : Bool) (offset : ℕ) (o : Option Bytes) → is_some o ≡ b → CommitmentAt s offset o
    → CommitmentAt s (unwrap_or (then_some b offset) 0) o
unfolding is_some
noted_right s b offset none e h = tt
noted_right s true offset (some c) e h = h
noted_right s false offset (some c) e h = absurd (false≢true (sym e))

-- the offset noted is within the same bound
pub noted_within : (b : Bool) (offset n : ℕ) → offset ≤ n → unwrap_or (then_some b offset) 0 ≤ n
noted_within true offset n h = h
noted_within false offset n h = omega arith

module _ (s : Bytes) (at : ℕ) (a : StepLines (drop at s)) where
  module _ (stop next : ℕ) (e : line_at s at ≡ some (stop, next)) where
    -- the line at an offset of step lines is that of the next step
    pub step-next : (v field : ℕ) → read_at (read_number version_bound) (take (stop - at) (drop at s)) step_fields ≡ some (v, field)
        → IsNextStep s at
        (Some (record {
          version = v;
          commitment = then_some (eqb (length (take (stop - at) (drop at s))) (field + value_digits)) (at + field);
          next = next;
        }))
        × (at + field ≤ length s)
    unfolding steps_in ascii
    step-next v field r =
        let l = take (stop - at) (drop at s) in
        let f = first-line read_step s at stop next e a in
        let h = f.here in
        let x = f.value in
        let (c, w, k) = step_was l x f.reads in
        let (_, ((g, b), _)) = (line_read step_form l (x.version, (c, tt)) w).1 in
        let p = some-injective (v, field) (x.version, step_fields + length (decimal x.version) + 1)
        (sym r ∙ number-after l (ascii "step") version_bound (commitment_field ∷ []) x.version (c, tt) w) in
        let n : field ≡ step_fields + length (decimal x.version) + 1 = ap (λ (y : ℕ × ℕ). y.1) p in
        let t : l ≡ step_text x.version c = step_text_lem l x.version c w in
        let d : drop (at + field) s ≡ hex_field c ++ newline ∷ drop next s =
        sym (drop-drop field at s) ∙ ap₂ drop n (h.text ∙ ap (λ (u : Bytes). u ++ newline ∷ drop next s) t)
        ∙ step_field x.version c (newline ∷ drop next s) in
        let m : length l ≡ field + length (hex_field c) = ap length t ∙ omega (arith, length-append (decimal x.version) (tab ∷ hex_field c)) in
        let z = line_length s at stop next h in
        let hf = h.forward in
        let hw = h.within in
        let hn = h.next_is in
        let committed = eqb (length l) (field + value_digits) in
        let given : is_some x.commitment ≡ committed = ap is_some k ∙ commitment_told c (length l) field g m in
        let within : at + field ≤ length s = omega arith in (
          (
            x,
            f.values,
            sym (ap (λ (y : ℕ × ℕ). y.0) p),
            given ∙ sym (noted_given committed (at + field)),
            noted_right s committed (at + field) x.commitment given
                (rw k (step_commitment_lem s (at + field) c (newline ∷ drop next s) g b d)),
            f.others,
            omega arith,
            omega arith,
            noted_within committed (at + field) (length s) within,
          ),
          within,
        )

    -- its version is read after its word
    pub step-number : read_at (read_number version_bound) (take (stop - at) (drop at s)) step_fields ≡ none → ⊥
    unfolding ascii
    step-number r =
        let l = take (stop - at) (drop at s) in
        let f = first-line read_step s at stop next e a in
        let (c, w, _) = step_was l f.value f.reads in
        none-ne-some _ (sym r ∙ number-after l (ascii "step") version_bound (commitment_field ∷ []) f.value.version (c, tt) w)

  -- where no line stands, there is no step
  pub no_step : line_at s at ≡ none → steps_in (drop at s) ≡ []
  unfolding steps_in
  no_step e = no_line read_step s at e

-- ---- entries and lookups

module _ (s : Bytes) (at next : ℕ) where
  -- after a lookup the lookups and the entries go on
  lookup-grouped : (x : Lookup) → (leading read_item (ended_lines (drop at s))).0 ≡ lookup_item x ∷ (leading read_item (ended_lines (drop next s))).0
      → (loose_in (drop at s) ≡ x ∷ loose_in (drop next s)) × (entries_in (drop at s) ≡ entries_in (drop next s))
  unfolding loose_in entries_in grouped
  lookup-grouped x e = (ap (λ (is : List Item). (grouped is).0) e, ap (λ (is : List Item). (grouped is).1) e)

  -- an entry takes the lookups that follow it
  entry-grouped : (x : Entry) → (leading read_item (ended_lines (drop at s))).0 ≡ entry_item x ∷ (leading read_item (ended_lines (drop next s))).0
      → (loose_in (drop at s) ≡ []) × (entries_in (drop at s) ≡ with_lookups x (loose_in (drop next s)) ∷ entries_in (drop next s))
  unfolding loose_in entries_in grouped with_lookups
  entry-grouped x e = (ap (λ (is : List Item). (grouped is).0) e, ap (λ (is : List Item). (grouped is).1) e)

-- where no item stands, there is no lookup and no entry
none_grouped : (s : Bytes) → (leading read_item (ended_lines s)).0 ≡ [] → (loose_in s ≡ []) × (entries_in s ≡ [])
unfolding loose_in entries_in grouped
none_grouped s e = (ap (λ (is : List Item). (grouped is).0) e, ap (λ (is : List Item). (grouped is).1) e)

-- where no line stands, there is no lookup and no entry
pub no_item : (s : Bytes) (at : ℕ) → line_at s at ≡ none → (loose_in (drop at s) ≡ []) × (entries_in (drop at s) ≡ [])
no_item s at e = none_grouped (drop at s) (no_line read_item s at e)

-- nor at the end
pub no_item_end : (s : Bytes) (at : ℕ) → length s ≤ at → (loose_in (drop at s) ≡ []) × (entries_in (drop at s) ≡ [])
no_item_end s at h = none_grouped (drop at s) (no-line-end read_item s at h)

-- an entry line begins with `e`
entry_line_begins : (l : Bytes) (x : Entry) → ItemLine l (entry_item x) → (t : Bytes) × (l ≡ 101 ∷ t)
unfolding ascii
entry_line_begins l x h = word_begins l 101 (110 ∷ 116 ∷ 114 ∷ 121 ∷ []) entry_form.fields (x.position, (x.timestamp, (x.prefix_root, tt))) h

-- the fields of an entry
abbrev fields_of : Entry → Bytes
fields_of x = joined tab (decimal x.position ∷ decimal x.timestamp ∷ hex_field x.prefix_root ∷ [])

-- the text of an entry line
entry_text : (l : Bytes) (x : Entry) → ItemLine l (entry_item x) → l ≡ (ascii "entry" ++ tab ∷ []) ++ fields_of x
unfolding line_text joined write_fields write_field ascii
entry_text l x h = (line_read entry_form l (x.position, (x.timestamp, (x.prefix_root, tt))) h).0

-- the entry of an entry line, where its position stands
entry_told : (l rest : Bytes) (x : Entry) → ItemLine l (entry_item x) → (entry_in (drop entry_fields (l ++ rest)) ≡ log_entry x) × (entry_fields ≤ length l)
unfolding ascii log_entry
entry_told l rest x h =
    let (g, (i, ((f, b), _))) = (line_read entry_form l (x.position, (x.timestamp, (x.prefix_root, tt))) h).1 in
    let t = entry_text l x h in
    let e = entry_written x.position x.timestamp x.prefix_root rest g i (eqb-true _ hash_length f, b) in
    (ap (λ (u : Bytes). entry_in (drop entry_fields (u ++ rest))) t ∙ e, rw t (omega arith))

module _ (s : Bytes) (at : ℕ) (a : EntryLines (drop at s)) where
  module _ (stop next : ℕ) (e : line_at s at ≡ some (stop, next)) where
    -- where no lookup stands, the line at an offset is that of the next entry
    pub entry_next : loose_in (drop at s) ≡ [] → IsNextEntry s at (Some next)
    entry_next n = let f = first-line read_item s at stop next e a in go f.value f.values (item_was _ f.value f.reads) f
      where
        go : (i : Item) → (leading read_item (ended_lines (drop at s))).0 ≡ i ∷ (leading read_item (ended_lines (drop next s))).0
            → ItemLine (take (stop - at) (drop at s)) i → FirstLine read_item s at stop next → IsNextEntry s at (Some next)
        go (lookup_item x) v r f = let k = ap length (sym n ∙ (lookup-grouped s at next x v).0) in absurd (omega arith)
        go (entry_item x) v r f =
            let h = f.here in
            let l = take (stop - at) (drop at s) in
            let (p, q) = entry_told l (newline ∷ drop next s) x r in
            let z = line_length s at stop next h in
            let hf = h.forward in
            let hw = h.within in
            let hn = h.next_is in (
              x,
              (entry-grouped s at next x v).1,
              ap entry_in (sym (drop-drop entry_fields at s) ∙ ap (drop entry_fields) h.text) ∙ p,
              f.others,
              omega arith,
              omega arith,
            )

    -- where the byte at an offset does not begin an entry line, the line is that of the next lookup
    pub lookup-next : (get_or s at 0 ≡ 101 → ⊥) → IsNextLookup s at (Some (stop, next))
    lookup-next n = let f = first-line read_item s at stop next e a in go f.value f.values (item_was _ f.value f.reads) f
      where
        go : (i : Item) → (leading read_item (ended_lines (drop at s))).0 ≡ i ∷ (leading read_item (ended_lines (drop next s))).0
            → ItemLine (take (stop - at) (drop at s)) i → FirstLine read_item s at stop next → IsNextLookup s at (Some (stop, next))
        go (lookup_item x) v r f =
            let h = f.here in
            let (p, q) = lookup-grouped s at next x v in
            let hf = h.forward in
            let hw = h.within in
            let hn = h.next_is in
            (x, r, p, q, f.others, omega arith, omega arith, omega arith)
        go (entry_item x) v r f = let (t, k) = entry_line_begins _ x r in absurd (n (first_byte s at stop next 101 t f.here k))

  -- where it begins one, no lookup stands there
  pub no-lookup : get_or s at 0 ≡ 101 → loose_in (drop at s) ≡ []
  no-lookup n = line (line_at s at) refl
    where
      go : (stop next : ℕ) (i : Item) → (leading read_item (ended_lines (drop at s))).0 ≡ i ∷ (leading read_item (ended_lines (drop next s))).0
          → ItemLine (take (stop - at) (drop at s)) i → LineHere s at stop next → loose_in (drop at s) ≡ []
      go stop next (lookup_item x) v r h =
          absurd (letter_other x.result (sym (first_byte s at stop next (first_letter x.result) _ h (lookup-line _ x r).text) ∙ n))
      go stop next (entry_item x) v r h = (entry-grouped s at next x v).0

      line : (o : Option (ℕ × ℕ)) → line_at s at ≡ o → loose_in (drop at s) ≡ []
      line none e = (no_item s at e).0
      line (some (stop, next)) e =
          let f = first-line read_item s at stop next e a in
          go stop next f.value f.values (item_was _ f.value f.reads) f.here
