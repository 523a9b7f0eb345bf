-- Laws of the byte string that a field encodes, and of its length (specs/Hex.antt).
use mathlib.Core.Path.{◌≡◌, refl, sym, ◌∙◌, ap}
use mathlib.Core.Bool.{Bool, true, false, ◌&&◌, false≢true}
use mathlib.Core.List.{[], ◌∷◌}
use mathlib.Core.Option.{Option, none, some, map}
use Prim.Native.Nat.{ℕ, zero, suc, ◌/◌, ◌%◌, ◌<◌}
use native.Mathlib.Omega.{arith}
use lib.Dec.{eqb}
use lib.ListN.{length, get_or}
use lib.Pointwise.{pointwise}
use Rattle.std.specs.List.{list_all}
use Rattle.lists.proofs.SameLaws.{slices_same}
use Rattle.lists.specs.Choice.{provided}
use Rattle.lists.specs.Lists.{Bytes, all, same}
use Rattle.lists.proofs.ChoiceLaws.{map_some, provided_true}
use Rattle.lists.proofs.ListLaws.{all_cons}
use Rattle.hash.specs.Bytes.{AreBytes}
use Rattle.lines.specs.Number.{ascii}
use Rattle.lines.specs.Hex.{dash, is_hex_digit, unhex, is_hex, read_hex, decoded_length, hex_field}
use Rattle.lines.proofs.HexLaws.{hex_parts, parts_hex, hex_unhex, length_hex, unhex_hex, hex_digits}
use Rattle.lines.proofs.HexLaws.{hex_read}

-- ---- by its length

-- a field that encodes a byte string has that string's length
pub decoded_some : (f b : Bytes) → read_hex f ≡ some b → decoded_length f ≡ some (length b)
unfolding decoded_length
decoded_some f b e = rw e refl

-- two digits encode one byte
pub length_unhex : (f : Bytes) → length (unhex f) ≡ length f / 2
unfolding unhex
length_unhex [] = refl
length_unhex (a ∷ []) = refl
length_unhex (a ∷ b ∷ f) = omega (arith, length_unhex f)

-- fewer than two encode none
pub unhex_short : (f : Bytes) → length f < 2 → unhex f ≡ []
unfolding unhex
unhex_short [] h = refl
unhex_short (a ∷ []) h = refl
unhex_short (a ∷ b ∷ f) h = absurd (omega arith)

-- the field of a byte string encodes it
unhex_field : (s : Bytes) → AreBytes s → unhex (hex_field s) ≡ s
unfolding hex_field dash ascii unhex
unhex_field [] h = refl
unhex_field (b ∷ s) h = unhex_hex (b ∷ s) h

-- where a field encodes a byte string of some length, it is the one that its digits encode
pub decoded_was : (f : Bytes) (n : ℕ) → some n ≡ decoded_length f → (read_hex f ≡ some (unhex f))
    × (length (unhex f) ≡ n)
unfolding decoded_length
decoded_was f n e =
    let (v, r, l) = map_some (λ (b : Bytes). length b) (read_hex f) n (sym e) in
    let (w, b) = hex_read f v r in
    let u : unhex f ≡ v = ap unhex w ∙ unhex_field v b in
    (r ∙ ap some (sym u), ap length u ∙ l)

-- where it encodes one of no length, it encodes none
pub decoded_not : (f : Bytes) → none ≡ decoded_length f → read_hex f ≡ none
unfolding decoded_length
decoded_not f e = go (read_hex f) e
  where
    go : (o : Option Bytes) → none ≡ map (λ (b : Bytes). length b) o → o ≡ none
    go none e = refl
    go (some v) e = cc

-- each byte of a field that encodes a byte string, if there are several, is a hex digit
pub decoded_digit : (f v : Bytes) (i : ℕ) → read_hex f ≡ some v → 1 < length f → i < length f
    → is_hex_digit (get_or f i 0) ≡ true
unfolding hex_field dash ascii
decoded_digit f v i e m h = let (w, b) = hex_read f v e in there f i (digits v w b) h
  where
    digits : (v : Bytes) → f ≡ hex_field v → AreBytes v → all is_hex_digit f ≡ true
    digits [] w b = absurd (omega (arith, ap length w))
    digits (x ∷ v) w b = rw w (hex_digits (x ∷ v) b)

    there : (f : Bytes) (i : ℕ) → all is_hex_digit f ≡ true → i < length f → is_hex_digit (get_or f i 0) ≡ true
    there [] i a h = absurd (omega arith)
    there (x ∷ f) zero a h = (all_cons is_hex_digit x f a).0
    there (x ∷ f) (suc i) a h = there f i (all_cons is_hex_digit x f a).1 (omega arith)

-- ---- the length, for each way in which it is worked out

-- the dash encodes the empty byte string
pub decoded_dash : (s : Bytes) → same s dash ≡ true → decoded_length s ≡ some 0
unfolding decoded_length read_hex
decoded_dash s e = rw e refl

module _ (s : Bytes) (d : same s dash ≡ false) where
  -- any other field that is not hex encodes none
  decoded-none : (is_hex s ≡ true → ⊥) → decoded_length s ≡ none
  unfolding decoded_length read_hex provided
  decoded-none n = rw d (go (is_hex s) refl)
    where
      go : (t : Bool) → is_hex s ≡ t → map (λ (b : Bytes). length b) (provided t (unhex s)) ≡ none
      go true e = absurd (n e)
      go false e = refl

  -- the empty field encodes none
  pub decoded-empty : length s ≡ 0 → decoded_length s ≡ none
  decoded-empty h = decoded-none (λ e. let p = (hex_parts s e).0 in omega arith)

  -- nor does one of an odd length
  pub decoded-odd : (length s % 2 ≡ 0 → ⊥) → decoded_length s ≡ none
  decoded-odd h = decoded-none (λ e. h (hex_parts s e).1)

  -- nor one with a byte that is no digit
  pub decoded-other : all is_hex_digit s ≡ false → decoded_length s ≡ none
  decoded-other h = decoded-none (λ e. false≢true (sym h ∙ (hex_parts s e).2))

  -- pairs of digits encode a byte each
  pub decoded-half : 0 < length s → length s % 2 ≡ 0 → all is_hex_digit s ≡ true
      → decoded_length s ≡ some (length s / 2)
  unfolding decoded_length read_hex
  decoded-half p m a =
      let n : length (unhex s) ≡ length s / 2 = omega (arith, length_hex (unhex s), ap length (hex_unhex s a m).0) in
      rw (d, provided_true (is_hex s) (unhex s) (parts_hex s p m a), n) refl

-- whether a field is the dash, as the code has it
pub is_dash : (s d : Bytes) (e : Bool) → d ≡ 45 ∷ [] → e ≡ pointwise eqb s d → same s dash ≡ e
unfolding dash ascii
is_dash s d e p q = rw p at (sym (q ∙ slices_same s d))

-- what `all` tests is as std has it
pub all_listed : (f : ℕ → Bool) (s : Bytes) → list_all f s ≡ all f s
unfolding all
all_listed f [] = refl
all_listed f (x ∷ s) = ap (λ (b : Bool). f x && b) (all_listed f s)

-- what the code that reads a field's length is proved by
pub ruleset length_rules = (
  is_dash,
  decoded_dash,
  decoded-empty,
  decoded-odd,
  decoded-other,
  decoded-half,
)
