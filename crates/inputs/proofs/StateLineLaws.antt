-- Laws of the single lines of a state's text, read field by field (specs/StateReader.antt): one law
-- for each way in which a reading ends.
use mathlib.Core.Path.{◌≡◌, refl, sym, ◌∙◌, ap}
use mathlib.Core.List.{List, [], ◌∷◌}
use mathlib.Core.Option.{Option, none, some, bind, map, some-injective, none-ne-some}
use mathlib.Core.Bool.{Bool, true, false≢true}
use Rattle.std.proofs.Math.Option.{get_or}
use Prim.Native.Nat.{ℕ, ◌-◌, ◌≤◌, ◌<◌}
use native.Mathlib.Omega.{arith}
use lib.Dec.{leb}
use lib.ListN.{length, replicate}
use borrow.Author.Tests.{lt-ltb, le-ltb, le-leb, lt-leb}
use Rattle.std.specs.Prelude.{Some, None, Option as CodeOption}
use Rattle.lists.specs.Choice.{provided, is_some}
use Rattle.lists.specs.Lists.{Bytes}
use Rattle.hash.specs.Bytes.{padded}
use Rattle.lines.specs.Number.{ascii, read_number}
use Rattle.lines.specs.Hex.{read_hex}
use Rattle.lines.specs.Readings.{part_of}
use Rattle.lines.specs.declared.part.Part.{Part}
use Rattle.lines.specs.Field.{Field, bytes, number, exactly, up_to, Value, Values, read_field, read_fields}
use Rattle.lines.specs.Line.{read_line}
use Rattle.lines.specs.Cursor.{field_at, fields_from, read_at, word_at}
use Rattle.lines.specs.Writing.{put_any}
use Rattle.lines.proofs.NumberLaws.{decimal_read}
use Rattle.lines.proofs.CursorLaws.{read-beyond, read_some}
use Rattle.lines.proofs.FormLaws.{with_rest, here-read, read-not, read-ended, read-number-on}
use Rattle.lines.proofs.FormLaws.{line_on, line-off, field-on, field_off}
use Rattle.rules.specs.Limits.{label_limit, hash_length, number_bound, version_bound}
use Rattle.rules.specs.StateText.{size_form, keep_form, pair_form, read_keep, read_pair}
use Rattle.inputs.specs.declared.state.Label.{Label}
use Rattle.inputs.specs.State.{label_block}
use Rattle.inputs.specs.ResponseLines.{decoded, last_bytes_of}
use Rattle.inputs.specs.StateReader.{label_read, size_read}
use Rattle.inputs.proofs.FrontLaws.{put_first}

-- ---- the last field

module _ (l : Bytes) (at : ℕ) (f : Field) where
  -- where another field follows, it is not the last
  last_more : (v : Value f) (next : ℕ) → read_at (read_field f) l at ≡ some (v, next) → next ≤ length l → read_fields (f ∷ []) (fields_from l at) ≡ none
  unfolding bind provided
  last_more v next e h = rw (field-on l f [] at v next e, read-ended l next, le-ltb (length l) next h) refl

  -- where none does, it is read alone
  last-read : (v : Value f) (next : ℕ) → read_at (read_field f) l at ≡ some (v, next) → length l < next
      → read_fields (f ∷ []) (fields_from l at) ≡ some (v, tt)
  unfolding bind provided
  last-read v next e h = rw (field-on l f [] at v next e, read-ended l next, lt-ltb (length l) next h) refl

module _ (f : Field) (l : Bytes) (at : ℕ) (h : at ≤ length l) where
  -- a field after which the line goes on is not the last
  ends-not : length (field_at l at) < length l - at → read_fields (f ∷ []) (fields_from l at) ≡ none
  ends-not w = go (read_field f (field_at l at)) refl
    where
      go : (o : Option (Value f)) → read_field f (field_at l at) ≡ o → read_fields (f ∷ []) (fields_from l at) ≡ none
      go none e = field_off l f [] at (read-not l (read_field f) at e)
      go (some v) e = last_more l at f v _ (read_some (read_field f) l at (field_at l at) refl h v e) (omega arith)

  -- one that ends the line is read alone
  ends-line : length l - at ≤ length (field_at l at)
      → read_fields (f ∷ []) (fields_from l at) ≡ bind (read_field f (field_at l at)) (λ (v : Value f). some (v, tt))
  unfolding bind
  ends-line w = go (read_field f (field_at l at)) refl
    where
      go : (o : Option (Value f)) → read_field f (field_at l at) ≡ o → read_fields (f ∷ []) (fields_from l at) ≡ bind o (λ (v : Value f). some (v, tt))
      go none e = field_off l f [] at (read-not l (read_field f) at e)
      go (some v) e = last-read l at f v _ (read_some (read_field f) l at (field_at l at) refl h v e) (omega arith)

-- ---- the `size` line

-- its fields from the time on, and from the label on
abbrev pub time_fields : List Field
time_fields = number number_bound ∷ up_to label_limit ∷ []

abbrev pub label_fields : List Field
label_fields = up_to label_limit ∷ []

module _ (l : Bytes) where
  -- without the word there is none
  pub size-no-word : word_at (ascii "size") l 0 ≡ none → read_line size_form l ≡ none
  size-no-word e = line-off l (ascii "size") size_form.fields e

  module _ (a : ℕ) (ea : word_at (ascii "size") l 0 ≡ some a) where
    -- without a size there is none
    pub size-no-size : read_at (read_number number_bound) l a ≡ none → read_line size_form l ≡ none
    size-no-size e =
        line_on l (ascii "size") size_form.fields a ea ∙ field_off l (number number_bound) time_fields a (read-number-on l number_bound a ∙ e)

    module _ (m b : ℕ) (eb : read_at (read_number number_bound) l a ≡ some (m, b)) where
      -- from the time on it is read where the size ends
      size-then : read_line size_form l ≡ with_rest (number number_bound) time_fields m (read_fields time_fields (fields_from l b))
      size-then =
          line_on l (ascii "size") size_form.fields a ea ∙ field-on l (number number_bound) time_fields a m b (read-number-on l number_bound a ∙ eb)

      -- without a time there is none
      pub size-no-timestamp : read_at (read_number number_bound) l b ≡ none → read_line size_form l ≡ none
      unfolding bind
      size-no-timestamp e = size-then ∙ rw (field_off l (number number_bound) label_fields b (read-number-on l number_bound b ∙ e)) refl

      -- what it says is said once the label is read where the time ends
      pub size-labelled : (t d : ℕ) → read_at (read_number number_bound) l b ≡ some (t, d)
          → read_line size_form l ≡ with_rest (number number_bound) time_fields m (with_rest (number number_bound) label_fields t (read_fields label_fields (fields_from l d)))
      unfolding bind
      size-labelled t d e = rw (size-then, field-on l (number number_bound) label_fields b t d (read-number-on l number_bound b ∙ e)) refl

-- where no label is read, the line says nothing
pub size-unlabelled : (m t : ℕ) (o : Option (Values label_fields)) → none ≡ map label_read o
    → none ≡ map size_read (with_rest (number number_bound) time_fields m (with_rest (number number_bound) label_fields t o))
unfolding bind
size-unlabelled m t none e = refl
size-unlabelled m t (some vs) e = absurd (none-ne-some (label_read vs) e)

-- where one is, it is said with the size and the time
pub size-whole : (m t : ℕ) (o : Option (Values label_fields)) (x : Label) → some x ≡ map label_read o
    → some (record { size = m; timestamp = t; label = x })
    ≡ map size_read (with_rest (number number_bound) time_fields m (with_rest (number number_bound) label_fields t o))
unfolding bind
size-whole m t none x e = absurd (none-ne-some x (sym e))
size-whole m t (some vs) x e = ap (λ (y : Label). some (record { size = m; timestamp = t; label = y })) (some-injective x (label_read vs) e)

-- ---- its label

-- a field that encodes a byte string encodes what it decodes to
decoded_some : (f : Bytes) → is_some (read_hex f) ≡ true → read_hex f ≡ some (decoded f)
unfolding decoded is_some
decoded_some f h = go (read_hex f) h
  where
    go : (o : Option Bytes) → is_some o ≡ true → o ≡ some (get_or o [])
    go none q = absurd (false≢true q)
    go (some b) q = refl

module _ (l : Bytes) (at : ℕ) (r : CodeOption (ℕ × Part))
    (e : (fits : ℕ → Bool) → last_bytes_of l fits r ≡ read_fields (bytes fits ∷ []) (fields_from l at)) where
  -- the bytes that were last, if they are not too long
  label-last : last_bytes_of l (λ (k : ℕ). leb k label_limit) r ≡ read_fields label_fields (fields_from l at)
  label-last = e (λ (k : ℕ). leb k label_limit)

  -- where no bytes are last, there is no label
  pub label-none : r ≡ None → none ≡ read_fields label_fields (fields_from l at)
  label-none q = rw q at label-last

  module _ (n : ℕ) (p : Part) (q : r ≡ Some (n, p)) where
    -- nor where they are too long
    pub label-long : label_limit < n → none ≡ read_fields label_fields (fields_from l at)
    unfolding provided
    label-long h = rw (q, lt-leb n label_limit h) at label-last

    -- else the label is what the field encodes, with zeros after it
    pub label-read : n ≤ label_limit → is_some (read_hex (part_of l p)) ≡ true → length (decoded (part_of l p)) ≡ n
        → (s d : Bytes) → s ≡ part_of l p → d ≡ put_any (replicate label_limit 0) 0 (read_hex s)
        → some (record { bytes = d; length = n }) ≡ map label_read (read_fields label_fields (fields_from l at))
    unfolding label_block provided
    label-read h t k s d es ed =
        let b = decoded (part_of l p) in
        let g : d ≡ padded label_limit b =
        ed ∙ put_first label_limit (read_hex s) b (ap read_hex es ∙ decoded_some (part_of l p) t) (omega arith) in
        let f : some (b, tt) ≡ read_fields label_fields (fields_from l at) = rw (q, le-leb n label_limit h) at label-last in
        rw (sym f, g, sym k) refl

-- ---- the `keep` line

module _ (l : Bytes) where
  -- without the word there is none
  pub keep-no-word : word_at (ascii "keep") l 0 ≡ none → read_keep l ≡ none
  unfolding read_keep bind
  keep-no-word e = rw (line-off l (ascii "keep") keep_form.fields e) refl

  module _ (a : ℕ) (ea : word_at (ascii "keep") l 0 ≡ some a) where
    -- after the word its field is read
    keep-form : read_line keep_form l ≡ read_fields (exactly hash_length ∷ []) (fields_from l a)
    keep-form = line_on l (ascii "keep") keep_form.fields a ea

    -- without a field there is none
    pub keep-beyond : length l < a → read_keep l ≡ none
    unfolding read_keep bind
    keep-beyond h = rw (keep-form ∙ field_off l (exactly hash_length) [] a (read-beyond (read_field (exactly hash_length)) l a h)) refl

    -- nor with more than one
    pub keep-more : (s : Bytes) → s ≡ field_at l a → a ≤ length l → length s < length l - a → read_keep l ≡ none
    unfolding read_keep bind
    keep-more s e h w = rw (keep-form ∙ ends-not (exactly hash_length) l a h (rw (← e) w)) refl

    -- else its value is what the field encodes
    pub keep-read : (s : Bytes) → s ≡ field_at l a → a ≤ length l → length l - a ≤ length s → read_field (exactly hash_length) s ≡ read_keep l
    unfolding read_keep bind
    keep-read s e h w = rw (keep-form ∙ ends-line (exactly hash_length) l a h (rw (← e) w), ← e) (go (read_field (exactly hash_length) s))
      where
        go : (o : Option Bytes) → o ≡ bind (bind o (λ (v : Bytes). some (v, tt))) (λ (x : Bytes × Unit {0}). some x.0)
        go none = refl
        go (some v) = refl

-- ---- the `pair` line

-- a number that is read at an offset is not above the bound
pub number_within : (bound : ℕ) (l : Bytes) (at n next : ℕ) → read_at (read_number bound) l at ≡ some (n, next) → n ≤ bound
number_within bound l at n next e = (decimal_read bound (field_at l at) n (here-read l (read_number bound) at n next e).1).1

module _ (l : Bytes) where
  -- without the word there is none
  pub pair-no-word : word_at (ascii "pair") l 0 ≡ none → read_pair l ≡ none
  unfolding read_pair bind
  pair-no-word e = rw (line-off l (ascii "pair") pair_form.fields e) refl

  module _ (a : ℕ) (ea : word_at (ascii "pair") l 0 ≡ some a) where
    -- after the word its fields are read
    pair-form : read_line pair_form l ≡ read_fields pair_form.fields (fields_from l a)
    pair-form = line_on l (ascii "pair") pair_form.fields a ea

    -- without a position there is none
    pub pair-no-position : read_at (read_number number_bound) l a ≡ none → read_pair l ≡ none
    unfolding read_pair bind
    pair-no-position e = rw (pair-form ∙ field_off l (number number_bound) (number version_bound ∷ []) a (read-number-on l number_bound a ∙ e)) refl

    module _ (p b : ℕ) (eb : read_at (read_number number_bound) l a ≡ some (p, b)) where
      -- the version is read where the position ends
      pair_then : read_line pair_form l ≡ with_rest (number number_bound) (number version_bound ∷ []) p (read_fields (number version_bound ∷ []) (fields_from l b))
      pair_then = pair-form ∙ field-on l (number number_bound) (number version_bound ∷ []) a p b (read-number-on l number_bound a ∙ eb)

      -- without a version there is none
      pub pair-no-version : read_at (read_number version_bound) l b ≡ none → read_pair l ≡ none
      unfolding read_pair bind
      pair-no-version e = rw (pair_then, field_off l (number version_bound) [] b (read-number-on l version_bound b ∙ e)) refl

      module _ (v d : ℕ) (ed : read_at (read_number version_bound) l b ≡ some (v, d)) where
        -- nor where another field follows
        pub pair-more : d ≤ length l → read_pair l ≡ none
        unfolding read_pair bind
        pair-more h = rw (pair_then, last_more l b (number version_bound) v d (read-number-on l version_bound b ∙ ed) h) refl

        -- else it is the pair of both
        pub pair_read : length l < d → read_pair l ≡ some (record { position = p; version = v })
        unfolding read_pair bind
        pair_read h = rw (pair_then, last-read l b (number version_bound) v d (read-number-on l version_bound b ∙ ed) h) refl
