-- Fields of a line from an offset on (specs/Cursor.antt): a form is read field by field, each where
-- the one before it ends.
use mathlib.Core.Path.{◌≡◌, refl, sym, ◌∙◌, ap}
use mathlib.Core.Bool.{Bool, true, false}
use mathlib.Core.List.{List, [], ◌∷◌}
use mathlib.Core.Option.{Option, none, some, bind, map, none-ne-some, some-injective}
use Prim.Native.Nat.{ℕ, ◌+◌, ◌-◌, ◌≤◌, ◌<◌}
use native.Mathlib.Decide.{dec_lt}
use native.Mathlib.Omega.{arith}
use lib.Dec.{leb, ltb}
use lib.ListN.{length, length-drop, take, drop}
use borrow.Author.Tests.{le-leb, lt-leb, leb-true, lt-ltb, le-ltb}
use Rattle.lists.specs.Choice.{is_some, provided, ◌>>◌}
use Rattle.lists.specs.Lists.{Bytes, same}
use Rattle.lists.proofs.ChoiceLaws.{bind_at, bind_none, given_bind, choose_true, choose_false, test_some}
use Rattle.lists.proofs.ChoiceLaws.{bind_some, map_some}
use Rattle.lines.specs.Number.{read_number}
use Rattle.lines.specs.Hex.{read_hex, decoded_length}
use Rattle.lines.specs.Field.{Field, number, bytes, Value, Values, read_field, read_fields}
use Rattle.lines.specs.Line.{tab, Form, parts_at, before, after, read_after, read_line}
use Rattle.lines.specs.Cursor.{field_at, fields_from, read_at, word_at}
use Rattle.lines.proofs.LineLaws.{parts_last, parts_more}
use Rattle.lines.proofs.OffsetLaws.{before_front, after_at}
use Rattle.lines.proofs.CursorLaws.{read-beyond, read_some, word-beyond}
use Rattle.lines.proofs.HexLengthLaws.{decoded_some}
use Rattle.lines.proofs.SectionLaws.{before_free, split_before, all_before, before_short}

-- a field's value before those of the fields after it
abbrev pub with_rest : (f : Field) (fs : List Field) → Value f → Option (Values fs) → Option (Values (f ∷ fs))
with_rest f fs v o = bind o (λ (vs : Values fs). some (v, vs))

-- a field that encodes a byte string of fitting length reads as that string
pub field_fits : (fits : ℕ → Bool) (f b : Bytes) → read_hex f ≡ some b → fits (length b) ≡ true
    → read_field (bytes fits) f ≡ some b
unfolding read_field bind ◌>>◌
field_fits fits f b e t = rw (e, t) refl

-- one of another length does not read
pub field_unfit : (fits : ℕ → Bool) (f b : Bytes) → read_hex f ≡ some b → fits (length b) ≡ false
    → read_field (bytes fits) f ≡ none
unfolding read_field bind ◌>>◌
field_unfit fits f b e t = rw (e, t) refl

-- nor does one that encodes none
pub field_not : (fits : ℕ → Bool) (f : Bytes) → read_hex f ≡ none → read_field (bytes fits) f ≡ none
unfolding read_field bind
field_not fits f e = rw e refl

-- the form of a word and fields after it
abbrev pub word_form : Bytes → List Field → Form
word_form w fs = record { words = w ∷ []; fields = fs }

-- ---- the fields of a line

module _ (l : Bytes) where
  -- a line's fields are those from its start on
  pub fields-start : parts_at tab l ≡ fields_from l 0
  unfolding fields_from
  fields-start =
      sym (choose_true (leb 0 (length l)) (λ _. parts_at tab l) (λ _. []) (le-leb 0 (length l) (omega arith)))

  -- beyond the line's end there is none
  pub fields-beyond : (at : ℕ) → length l < at → fields_from l at ≡ []
  unfolding fields_from
  fields-beyond at h =
      choose_false (leb at (length l)) (λ _. parts_at tab (drop at l)) (λ _. []) (lt-leb at (length l) h)

  -- up to there they are the field at the offset, and those after it
  pub fields-here : (at : ℕ) → at ≤ length l
      → fields_from l at ≡ field_at l at ∷ fields_from l (at + length (field_at l at) + 1)
  unfolding fields_from field_at
  fields-here at h =
      choose_true (leb at (length l)) (λ _. parts_at tab (drop at l)) (λ _. []) (le-leb at (length l) h)
      ∙ go (dec_lt (length b) (length (drop at l)))
    where
      b : Bytes
      b = before tab (drop at l)

      next : ℕ
      next = at + length b + 1

      go : Dec (length b < length (drop at l)) → parts_at tab (drop at l) ≡ b ∷ fields_from l next
      go (yes i) =
          let e : drop next l ≡ after tab (drop at l) = after_at tab l at (at + length b) refl in
          let w : next ≤ length l = omega (arith, length-drop at l) in
          ap (parts_at tab) (split_before tab (drop at l) i)
          ∙ parts_more tab b (after tab (drop at l)) (before_free tab (drop at l))
          ∙ ap (λ (ps : List Bytes). b ∷ ps) (ap (parts_at tab) (sym e)
          ∙ sym (choose_true (leb next (length l)) (λ _. parts_at tab (drop next l)) (λ _. [])
          (le-leb next (length l) w)))
      go (no i) =
          let e : b ≡ drop at l = all_before tab (drop at l) (omega arith) in
          let w : length l < next = let z = ap length e in omega (arith, length-drop at l) in
          ap (parts_at tab) (sym e) ∙ parts_last tab b (before_free tab (drop at l))
          ∙ ap (λ (ps : List Bytes). b ∷ ps) (sym (fields-beyond next w))

  -- ---- one field

  -- the field at an offset, and the offset after it
  pub record FieldHere (at next : ℕ) : Type 0 where
    pub begins : at ≤ length l
    pub next_is : next ≡ at + length (field_at l at) + 1
    pub within : next ≤ length l + 1
    pub part : take (next - 1 - at) (drop at l) ≡ field_at l at

  -- a field stands at each offset up to the line's end
  pub field-here : (at : ℕ) → at ≤ length l → FieldHere at (at + length (field_at l at) + 1)
  unfolding field_at
  field-here at h =
      let b = before tab (drop at l) in
      let f : b ≡ take (length b) (drop at l) = before_front tab (drop at l) in
      let n : at + length b + 1 - 1 - at ≡ length b = omega arith in
      let s : length b ≤ length (drop at l) = before_short tab (drop at l) in
      record {
        begins = h;
        next_is = refl;
        within = omega (arith, length-drop at l);
        part = ap (λ (k : ℕ). take k (drop at l)) n ∙ sym f;
      }

  module _ {A : Type 0} (read : Bytes → Option A) (at : ℕ) where
    -- what was read at an offset was read of the field there
    pub here-read : (a : A) (next : ℕ) → read_at read l at ≡ some (a, next) → FieldHere at next
        × (read (field_at l at) ≡ some a)
    unfolding read_at
    here-read a next e =
        let n = at + length (field_at l at) + 1 in
        let (t, u) = test_some (leb at (length l)) (bind (read (field_at l at)) (λ (x : A). some (x, n))) (a, next) e in
        let (x, r, q) = bind_some (read (field_at l at)) (λ (x : A). some (x, n)) (a, next) u in
        let p = some-injective (x, n) (a, next) q in
        let p0 : x ≡ a = ap (λ (y : A × ℕ). y.0) p in
        let p1 : n ≡ next = ap (λ (y : A × ℕ). y.1) p in
        let f = field-here at (leb-true at (length l) t) in
        (rw (← p1) f, rw (← p0) r)

    -- where the field does not read, nothing is read
    pub read-not : read (field_at l at) ≡ none → read_at read l at ≡ none
    unfolding read_at ◌>>◌ bind
    read-not e = go (leb at (length l))
      where
        go : (t : Bool)
            → ◌>>◌ {A = A × ℕ} t (bind (read (field_at l at)) (λ (x : A). some (x, at + length (field_at l at) + 1)))
            ≡ none
        go true = rw e refl
        go false = refl

  -- ---- a form, field by field

  -- a form's line is read from its start
  pub read-form : (f : Form) → read_line f l ≡ read_after f.words f.fields (fields_from l 0)
  unfolding read_line
  read-form f = ap (read_after f.words f.fields) fields-start

  -- the word at an offset, if the field there is that word
  pub word-here : (w : Bytes) (at : ℕ) → at ≤ length l
      → word_at w l at ≡ provided (same (field_at l at) w) (at + length (field_at l at) + 1)
  unfolding word_at read_at ◌>>◌ bind provided
  word-here w at h = rw (le-leb at (length l) h) (go (same (field_at l at) w))
    where
      go : (t : Bool)
          → map (λ (x : Unit {0} × ℕ). x.1)
          (bind (provided t tt) (λ (a : Unit {0}). some (a, at + length (field_at l at) + 1)))
          ≡ provided t (at + length (field_at l at) + 1)
      go true = refl
      go false = refl

  -- the next word, then what follows it
  pub read_word : (w : Bytes) (ws : List Bytes) (fs : List Field) (at : ℕ)
      → read_after (w ∷ ws) fs (fields_from l at) ≡ bind (word_at w l at)
      (λ (next : ℕ). read_after ws fs (fields_from l next))
  unfolding read_after bind provided ◌>>◌
  read_word w ws fs at = go (dec_lt (length l) at)
    where
      step : (t : Bool) (next : ℕ)
          → (t >> read_after ws fs (fields_from l next)) ≡ bind (provided t next)
          (λ (n : ℕ). read_after ws fs (fields_from l n))
      step true next = refl
      step false next = refl

      go : Dec (length l < at)
          → read_after (w ∷ ws) fs (fields_from l at) ≡ bind (word_at w l at)
          (λ (next : ℕ). read_after ws fs (fields_from l next))
      go (yes h) = rw (fields-beyond at h, word-beyond w l at h) refl
      go (no h) =
          let b : at ≤ length l = omega arith in
          rw (fields-here at b, word-here w at b) (step (same (field_at l at) w) (at + length (field_at l at) + 1))

  -- the words are over
  pub words-over : (fs : List Field) (at : ℕ) → read_after [] fs (fields_from l at) ≡ read_fields fs (fields_from l at)
  unfolding read_after
  words-over fs at = refl

  -- the next field, then those after it
  pub read-field-on : (f : Field) (fs : List Field) (at : ℕ)
      → read_fields (f ∷ fs) (fields_from l at)
      ≡ bind (read_at (read_field f) l at)
      (λ (x : Value f × ℕ). with_rest f fs x.0 (read_fields fs (fields_from l x.1)))
  unfolding read_fields bind
  read-field-on f fs at = go (dec_lt (length l) at)
    where
      step : (o : Option (Value f)) → read_field f (field_at l at) ≡ o → at ≤ length l
          → bind o (λ (v : Value f). with_rest f fs v
          (read_fields fs (fields_from l (at + length (field_at l at) + 1))))
          ≡ bind (read_at (read_field f) l at)
          (λ (x : Value f × ℕ). with_rest f fs x.0 (read_fields fs (fields_from l x.1)))
      step none e b = rw (read-not (read_field f) at e) refl
      step (some v) e b = rw (read_some (read_field f) l at (field_at l at) refl b v e) refl

      go : Dec (length l < at) → read_fields (f ∷ fs) (fields_from l at)
          ≡ bind (read_at (read_field f) l at)
          (λ (x : Value f × ℕ). with_rest f fs x.0 (read_fields fs (fields_from l x.1)))
      go (yes h) = rw (fields-beyond at h, read-beyond (read_field f) l at h) refl
      go (no h) =
          let b : at ≤ length l = omega arith in
          rw (fields-here at b) (step (read_field f (field_at l at)) refl b)

  -- no field is left
  pub read-ended : (at : ℕ) → read_fields [] (fields_from l at) ≡ provided (ltb (length l) at) tt
  unfolding read_fields provided
  read-ended at = go (dec_lt (length l) at)
    where
      go : Dec (length l < at) → read_fields [] (fields_from l at) ≡ provided (ltb (length l) at) tt
      go (yes h) = rw (fields-beyond at h, lt-ltb (length l) at h) refl
      go (no h) = let b : at ≤ length l = omega arith in rw (fields-here at b, le-ltb (length l) at b) refl

  -- ---- a form read on, step by step

  module _ (w : Bytes) (ws : List Bytes) (fs : List Field) (at : ℕ) where
    -- after a word the form is read on from the offset after it
    pub word_on : (next : ℕ) → word_at w l at ≡ some next
        → read_after (w ∷ ws) fs (fields_from l at) ≡ read_after ws fs (fields_from l next)
    word_on next e =
        read_word w ws fs at ∙ bind_at (word_at w l at) (λ (n : ℕ). read_after ws fs (fields_from l n)) next e

    -- without the word it does not read
    pub word-off : word_at w l at ≡ none → read_after (w ∷ ws) fs (fields_from l at) ≡ none
    word-off e = read_word w ws fs at ∙ bind_none (word_at w l at) (λ (n : ℕ). read_after ws fs (fields_from l n)) e

  module _ (w : Bytes) (fs : List Field) where
    -- a line of one word reads as the fields after it
    pub line_on : (next : ℕ) → word_at w l 0 ≡ some next
        → read_line (word_form w fs) l ≡ read_fields fs (fields_from l next)
    line_on next e = read-form (word_form w fs) ∙ word_on w [] fs 0 next e ∙ words-over fs next

    -- one without that word does not read
    pub line-off : word_at w l 0 ≡ none → read_line (word_form w fs) l ≡ none
    line-off e = read-form (word_form w fs) ∙ word-off w [] fs 0 e

  module _ (f : Field) (fs : List Field) (at : ℕ) where
    -- a field's value stands before those of the fields from the next offset on
    pub field-on : (v : Value f) (next : ℕ) → read_at (read_field f) l at ≡ some (v, next)
        → read_fields (f ∷ fs) (fields_from l at) ≡ with_rest f fs v (read_fields fs (fields_from l next))
    field-on v next e =
        read-field-on f fs at
        ∙ bind_at (read_at (read_field f) l at)
        (λ (x : Value f × ℕ). with_rest f fs x.0 (read_fields fs (fields_from l x.1))) (v, next) e

    -- without it there are none
    pub field_off : read_at (read_field f) l at ≡ none → read_fields (f ∷ fs) (fields_from l at) ≡ none
    field_off e =
        read-field-on f fs at
        ∙ bind_none (read_at (read_field f) l at)
        (λ (x : Value f × ℕ). with_rest f fs x.0 (read_fields fs (fields_from l x.1))) e

    -- after a field the fields are given if those from the next offset on are
    pub field-given : (v : Value f) (next : ℕ) → read_at (read_field f) l at ≡ some (v, next)
        → is_some (read_fields (f ∷ fs) (fields_from l at)) ≡ is_some (read_fields fs (fields_from l next))
    unfolding is_some
    field-given v next e =
        ap is_some (field-on v next e)
        ∙ given_bind (read_fields fs (fields_from l next)) (λ (vs : Values fs). some (v, vs)) (λ vs. refl)

  -- ---- what a field is read as

  -- a number
  pub read-number-on : (bound at : ℕ) → read_at (read_field (number bound)) l at ≡ read_at (read_number bound) l at
  unfolding read_field
  read-number-on bound at = refl

  -- a byte string that was encoded, with a length that fits
  pub bytes_fit : (fits : ℕ → Bool) (at n next : ℕ) → read_at decoded_length l at ≡ some (n, next) → fits n ≡ true
      → (b : Bytes) × (read_hex (field_at l at) ≡ some b) × (length b ≡ n)
      × (read_at (read_field (bytes fits)) l at ≡ some (b, next))
  unfolding decoded_length
  bytes_fit fits at n next e t =
      let (f, r) = here-read decoded_length at n next e in
      let (b, h, q) = map_some (λ (x : Bytes). length x) (read_hex (field_at l at)) n r in
      let d = field_fits fits (field_at l at) b h (ap fits q ∙ t) in (
        b,
        h,
        q,
        read_some (read_field (bytes fits)) l at (field_at l at) refl f.begins b d
            ∙ ap (λ (k : ℕ). some (b, k)) (sym f.next_is),
      )

  -- one with another length is not read
  pub bytes-unfit : (fits : ℕ → Bool) (at n next : ℕ) → read_at decoded_length l at ≡ some (n, next) → fits n ≡ false
      → read_at (read_field (bytes fits)) l at ≡ none
  unfolding decoded_length
  bytes-unfit fits at n next e t =
      let (f, r) = here-read decoded_length at n next e in
      let (b, h, q) = map_some (λ (x : Bytes). length x) (read_hex (field_at l at)) n r in
      read-not (read_field (bytes fits)) at (field_unfit fits (field_at l at) b h (ap fits q ∙ t))

  -- nor is a field that encodes none
  pub bytes-none : (fits : ℕ → Bool) (at : ℕ) → read_at decoded_length l at ≡ none
      → read_at (read_field (bytes fits)) l at ≡ none
  bytes-none fits at e = go (dec_lt (length l) at)
    where
      step : (o : Option Bytes) → read_hex (field_at l at) ≡ o → at ≤ length l
          → read_at (read_field (bytes fits)) l at ≡ none
      step none h b = read-not (read_field (bytes fits)) at (field_not fits (field_at l at) h)
      step (some x) h b =
          absurd (none-ne-some (length x, at + length (field_at l at) + 1)
          (sym e ∙ read_some decoded_length l at (field_at l at) refl b (length x) (decoded_some (field_at l at) x h)))

      go : Dec (length l < at) → read_at (read_field (bytes fits)) l at ≡ none
      go (yes h) = read-beyond (read_field (bytes fits)) l at h
      go (no h) = step (read_hex (field_at l at)) refl (omega arith)
