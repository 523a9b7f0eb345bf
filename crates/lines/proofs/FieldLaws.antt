-- Laws of fields, and of words and fields (specs/Field.antt, specs/Line.antt): what is written
-- reads as itself, and what reads is what is written.
use mathlib.Core.Path.{◌≡◌, refl, ◌∙◌, ap₂}
use mathlib.Core.Bool.{Bool, true}
use mathlib.Core.List.{List, [], ◌∷◌, ◌++◌}
use mathlib.Core.Option.{some, bind, some-injective, none-ne-some}
use Prim.Native.Nat.{◌≤◌}
use lib.ListN.{length}
use Rattle.lists.specs.Choice.{◌>>◌}
use Rattle.lists.specs.Lists.{Bytes, all, same}
use Rattle.lists.proofs.ChoiceLaws.{holds_and, test_true, test_some, bind_at, bind_some}
use Rattle.lists.proofs.ListLaws.{same_refl, same_true}
use Rattle.hash.specs.Bytes.{AreBytes}
use Rattle.lines.specs.Hex.{read_hex}
use Rattle.lines.specs.Field.{Field, number, bytes, Value, Values, read_field, read_fields, write_field}
use Rattle.lines.specs.Field.{write_fields}
use Rattle.lines.specs.Line.{read_after}
use Rattle.lines.proofs.NumberLaws.{is_plain, read_decimal, decimal_read, decimal_plain}
use Rattle.lines.proofs.HexLaws.{read_hex_lem, hex_read, hex_field_plain}

-- a string has no tab and no newline
abbrev pub are_plain : Bytes → Bool
are_plain s = all is_plain s

-- a value fits its field: a number is not above its bound; a byte string has bytes, and a length
-- that passes the test
abbrev pub FitsField : (f : Field) → Value f → Type 0
FitsField (number bound) n = n ≤ bound
FitsField (bytes fits) b = (fits (length b) ≡ true) × AreBytes b

-- each value fits its field
abbrev pub Fits : (fs : List Field) → Values fs → Type 0
Fits [] u = Unit {0}
Fits (f ∷ fs) (v, vs) = FitsField f v × Fits fs vs

-- a value that fits, once written, reads as itself
pub read_field_lem : (f : Field) (v : Value f) → FitsField f v → read_field f (write_field f v) ≡ some v
unfolding read_field write_field
read_field_lem (number bound) v h = read_decimal bound v h
read_field_lem (bytes fits) v h =
    bind_at _ (λ (b : Bytes). fits (length b) >> some b) v (read_hex_lem v h.1)
    ∙ test_true (fits (length v)) (some v) h.0

-- what reads as a value is what is written for it, and the value fits
pub field_read : (f : Field) (p : Bytes) (v : Value f) → read_field f p ≡ some v → (p ≡ write_field f v) × FitsField f v
unfolding read_field write_field
field_read (number bound) p v e = decimal_read bound p v e
field_read (bytes fits) p v e =
    let (b, r, t) = bind_some (read_hex p) (λ (b : Bytes). fits (length b) >> some b) v e in
    let (l, q) = test_some (fits (length b)) (some b) v t in
    let i : b ≡ v = some-injective b v q in
    let (w, a) = hex_read p b r in
    rw (← i) (w, (l, a))

-- values that fit, once written, read as themselves
pub read_fields_lem : (fs : List Field) (vs : Values fs) → Fits fs vs → read_fields fs (write_fields fs vs) ≡ some vs
unfolding read_fields write_fields bind
read_fields_lem [] vs h = refl
read_fields_lem (f ∷ fs) (v, vs) (h, i) = rw (read_field_lem f v h, read_fields_lem fs vs i) refl

-- parts that read as values are what is written for them, and the values fit
pub fields_read : (fs : List Field) (ps : List Bytes) (vs : Values fs) → read_fields fs ps ≡ some vs
    → (ps ≡ write_fields fs vs) × Fits fs vs
unfolding read_fields write_fields
fields_read [] [] vs e = (refl, tt)
fields_read [] (p ∷ ps) vs e = absurd (none-ne-some vs e)
fields_read (f ∷ fs) [] vs e = absurd (none-ne-some vs e)
fields_read (f ∷ fs) (p ∷ ps) vs e =
    let (v, r, t) =
    bind_some (read_field f p) (λ (v : Value f). bind (read_fields fs ps) (λ (us : Values fs). some (v, us))) vs e in
    let (us, q, u) = bind_some (read_fields fs ps) (λ (us : Values fs). some (v, us)) vs t in
    let i : ◌≡◌ {A = Values (f ∷ fs)} (v, us) vs = some-injective (v, us) vs u in
    let (w, h) = field_read f p v r in
    let (x, j) = fields_read fs ps us q in
    rw (← i) (ap₂ ◌∷◌ w x, (h, j))

-- the words of a line are passed over
pub read_after_lem : (ws : List Bytes) (fs : List Field) (ps : List Bytes)
    → read_after ws fs (ws ++ ps) ≡ read_fields fs ps
unfolding read_after
read_after_lem [] fs ps = refl
read_after_lem (w ∷ ws) fs ps =
    test_true (same w w) (read_after ws fs (ws ++ ps)) (same_refl w) ∙ read_after_lem ws fs ps

-- parts that read after words are the words and what is written for the values
pub after_read : (ws : List Bytes) (fs : List Field) (ps : List Bytes) (vs : Values fs) → read_after ws fs ps ≡ some vs
    → (ps ≡ ws ++ write_fields fs vs) × Fits fs vs
unfolding read_after
after_read [] fs ps vs e = fields_read fs ps vs e
after_read (w ∷ ws) fs [] vs e = absurd (none-ne-some vs e)
after_read (w ∷ ws) fs (p ∷ ps) vs e =
    let (t, r) = test_some (same p w) (read_after ws fs ps) vs e in
    let (q, h) = after_read ws fs ps vs r in
    (ap₂ ◌∷◌ (same_true p w t) q, h)

-- a value as written has no tab and no newline
field_plain : (f : Field) (v : Value f) → FitsField f v → all is_plain (write_field f v) ≡ true
unfolding write_field
field_plain (number bound) v h = decimal_plain v
field_plain (bytes fits) v h = hex_field_plain v h.1

-- nor have values as written
pub fields_plain : (fs : List Field) (vs : Values fs) → Fits fs vs → all are_plain (write_fields fs vs) ≡ true
unfolding write_fields all
fields_plain [] vs h = refl
fields_plain (f ∷ fs) (v, vs) (h, i) =
    holds_and (all is_plain (write_field f v)) (all are_plain (write_fields fs vs)) (field_plain f v h)
    (fields_plain fs vs i)
