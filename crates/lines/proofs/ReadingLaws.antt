-- Laws of the readers of single fields: a decimal number digit by digit, a value of 32 bytes digit
-- pair by digit pair.
use mathlib.Core.Path.{◌≡◌, refl, sym, ◌∙◌, ap}
use mathlib.Core.Bool.{Bool, true, false, ◌&&◌, false≢true}
use mathlib.Core.List.{List, [], ◌∷◌, ◌++◌, append-nil}
use mathlib.Core.Option.{Option, none, some}
use Prim.Native.Nat.{ℕ, ◌+◌, ◌-◌, ◌*◌, ◌/◌, ◌≤◌, ◌<◌}
use native.Mathlib.Numerals.{add-one}
use native.Mathlib.Omega.{arith}
use lib.Dec.{eqb, leb}
use lib.ListN.{length, take, drop, get_or, set, length-set}
use lib.Seq.{take-suc-set, append_snoc, take_all}
use borrow.Author.Tests.{eq-eqb, ne_eqb, le-leb, lt-leb, eqb-true}
use Rattle.lists.specs.Choice.{provided, ◌>>◌}
use Rattle.lists.specs.Lists.{Bytes, all, same}
use Rattle.lists.proofs.ChoiceLaws.{provided_true, bind_at, test_true}
use Rattle.lists.proofs.ListLaws.{differ_same}
use Rattle.std.specs.Simd.{first_chunks}
use Rattle.hash.specs.Bytes.{AreBytes}
use Rattle.hash.proofs.BytesLaws.{chunk_byte}
use Rattle.hash.specs.Sha256.{digest_length}
use Rattle.lines.specs.Number.{ascii, is_digit, is_decimal, digits_after, read_number}
use Rattle.lines.specs.Hex.{dash, is_hex_digit, digit_value, unhex, is_hex, read_hex, hex}
use Rattle.lines.specs.Field.{exactly, read_field, write_field}
use Rattle.lines.proofs.NumberLaws.{is_digit_lem}
use Rattle.lines.proofs.HexLaws.{parts_hex, hex_unhex, hex_digits, length_hex, hex_field_some}
use Rattle.lines.proofs.FieldLaws.{field_read}
use Rattle.lines.proofs.OffsetLaws.{at_cons, at_end}

-- ---- numbers

-- the number that digits after those of n encode with them, if it is not above a bound
unfoldable pub number_after : ℕ → ℕ → Bytes → Option ℕ
number_after bound n s = provided (all is_digit s && leb (digits_after n s) bound) (digits_after n s)

-- the empty string is no number
pub number_empty : (bound : ℕ) (s : Bytes) → length s ≡ 0 → read_number bound s ≡ none
unfolding read_number is_decimal provided
number_empty bound [] h = refl
number_empty bound (b ∷ s) h = absurd (omega arith)

-- nor are several bytes of which the first is 0
pub number_zero : (bound : ℕ) (s : Bytes) → 1 < length s → get_or s 0 0 ≡ 48 → read_number bound s ≡ none
unfolding read_number is_decimal provided
number_zero bound [] h e = absurd (omega arith)
number_zero bound (b ∷ []) h e = absurd (omega arith)
number_zero bound (b ∷ c ∷ s) h e = rw (eq-eqb b 48 e) refl

-- one byte is read as a digit after none
pub number_one : (bound : ℕ) (s : Bytes) → length s ≡ 1 → read_number bound s ≡ number_after bound 0 s
unfolding read_number is_decimal number_after all
number_one bound [] h = absurd (omega arith)
number_one bound (b ∷ []) h = go (is_digit b)
  where
    go : (t : Bool) → provided (t && leb (digits_after 0 (b ∷ [])) bound) (digits_after 0 (b ∷ []))
        ≡ provided ((t && true) && leb (digits_after 0 (b ∷ [])) bound) (digits_after 0 (b ∷ []))
    go true = refl
    go false = refl
number_one bound (b ∷ c ∷ s) h = absurd (omega arith)

-- so are several of which the first is not 0
pub number_many : (bound : ℕ) (s : Bytes) → 1 < length s → (get_or s 0 0 ≡ 48 → ⊥)
    → read_number bound s ≡ number_after bound 0 s
unfolding read_number is_decimal number_after
number_many bound [] h e = absurd (omega arith)
number_many bound (b ∷ []) h e = absurd (omega arith)
number_many bound (b ∷ c ∷ s) h e = rw (ne_eqb b 48 e) refl

-- digits never lessen what they come after
digits_least : (n : ℕ) (s : Bytes) → n ≤ digits_after n s
unfolding digits_after
digits_least n [] = omega arith
digits_least n (b ∷ s) = omega (arith, digits_least (n * 10 + (b - 48)) s)

-- nothing is provided where the second of two tests fails
provided_second : {A : Type 0} (t u : Bool) (a : A) → u ≡ false → provided (t && u) a ≡ none
unfolding provided
provided_second true u a e = rw e refl
provided_second false u a e = refl

module _ (bound : ℕ) (s : Bytes) (i n : ℕ) where
  -- after the last digit the number is read
  pub digits-end : length s ≤ i → n ≤ bound → number_after bound n (drop i s) ≡ some n
  unfolding number_after digits_after all provided
  digits-end h b = rw (at_end s i h, le-leb n bound b) refl

  -- another byte than a digit is in no number
  pub digits-other : i < length s → is_digit (get_or s i 0) ≡ false → number_after bound n (drop i s) ≡ none
  unfolding number_after all provided
  digits-other h e = rw (at_cons s i h, e) refl

  -- a digit that takes the number above the bound is in none that is read
  pub digits-beyond : i < length s → bound < n * 10 + (get_or s i 0 - 48) → number_after bound n (drop i s) ≡ none
  unfolding number_after digits_after
  digits-beyond h b =
      let m = n * 10 + (get_or s i 0 - 48) in
      let l : bound < digits_after m (drop (i + 1) s) = omega (arith, digits_least m (drop (i + 1) s)) in
      rw (at_cons s i h) (provided_second (all is_digit (get_or s i 0 ∷ drop (i + 1) s)) _ _ (lt-leb _ _ l))

  -- any other digit is taken in
  pub digits_more : i < length s → 48 ≤ get_or s i 0 → get_or s i 0 ≤ 57
      → number_after bound n (drop i s) ≡ number_after bound (n * 10 + (get_or s i 0 - 48)) (drop (i + 1) s)
  unfolding number_after digits_after all
  digits_more h l u = rw (at_cons s i h, is_digit_lem (get_or s i 0) l u) refl

-- ---- values

-- a field that encodes a value has 64 bytes, all of them digits; and the value has 32 bytes
pub digest_was : (s v : Bytes) → read_field (exactly digest_length) s ≡ some v
    → (length s ≡ 64) × (all is_hex_digit s ≡ true) × (length v ≡ digest_length) × AreBytes v
unfolding write_field
digest_was s v e =
    let (w, (l, b)) = field_read (exactly digest_length) s v e in
    let n : length v ≡ digest_length = eqb-true (length v) digest_length l in
    let q : s ≡ hex v = w ∙ hex_field_some v (omega arith) in
    rw q (omega (arith, length_hex v), hex_digits v b, n, b)

-- a field that encodes no value
no_digest : (s : Bytes) → ((v : Bytes) → read_field (exactly digest_length) s ≡ some v → ⊥)
    → read_field (exactly digest_length) s ≡ none
no_digest s n = go (read_field (exactly digest_length) s) refl
  where
    go : (o : Option Bytes) → read_field (exactly digest_length) s ≡ o → o ≡ none
    go none e = refl
    go (some v) e = absurd (n v e)

-- a field of another length encodes none
pub digest_long : (s : Bytes) → (length s ≡ 64 → ⊥) → read_field (exactly digest_length) s ≡ none
digest_long s n = no_digest s (λ v e. n (digest_was s v e).0)

-- nor does one with a byte that is no digit
pub digest_other : (s : Bytes) → all is_hex_digit s ≡ false → read_field (exactly digest_length) s ≡ none
digest_other s n = no_digest s (λ v e. false≢true (sym n ∙ (digest_was s v e).1))

-- 64 digits encode the bytes of their pairs
pub digest_some : (s : Bytes) → length s ≡ 64 → all is_hex_digit s ≡ true
    → read_field (exactly digest_length) s ≡ some (unhex s)
unfolding read_field read_hex dash ascii
digest_some s l a =
    let (h, b) = hex_unhex s a (omega arith) in
    let n : length (unhex s) ≡ digest_length = omega (arith, length_hex (unhex s), ap length h) in
    let i = parts_hex s (omega arith) (omega arith) a in
    let d : same s dash ≡ false = differ_same s dash (λ q. let e : length s ≡ 1 = ap length q in omega arith) in
    let r : read_hex s ≡ some (unhex s) = rw d (provided_true (is_hex s) (unhex s) i) in
    bind_at (read_hex s) (λ (b : Bytes). eqb (length b) digest_length >> some b) (unhex s) r
    ∙ test_true _ _ (eq-eqb (length (unhex s)) digest_length n)

module _ (s : Bytes) (i : ℕ) where
  -- a digit is passed over
  pub digit-one : i < length s → is_hex_digit (get_or s i 0) ≡ true
      → all is_hex_digit (drop i s) ≡ all is_hex_digit (drop (i + 1) s)
  unfolding all
  digit-one h e = rw (at_cons s i h, e) refl

  -- a byte that is no digit is found
  pub digit-other : i < length s → is_hex_digit (get_or s i 0) ≡ false → all is_hex_digit (drop i s) ≡ false
  unfolding all
  digit-other h e = rw (at_cons s i h, e) refl

  -- a pair of digits encodes a byte
  pub unhex-pair : i + 1 < length s
      → unhex (drop i s) ≡ (digit_value (get_or s i 0) * 16 + digit_value (get_or s (i + 1) 0)) ∷ unhex (drop (i + 2) s)
  unfolding unhex
  unhex-pair h =
      let l : i < length s = omega arith in
      let p : i + 1 + 1 ≡ i + 2 = omega arith in
      rw (at_cons s i l, at_cons s (i + 1) h, p) refl

  -- no digits encode nothing
  pub unhex-end : length s ≤ i → unhex (drop i s) ≡ []
  unfolding unhex
  unhex-end h = rw (at_end s i h) refl

  -- of no bytes all are digits
  pub digits_none : length s ≤ i → all is_hex_digit (drop i s) ≡ true
  unfolding all
  digits_none h = rw (at_end s i h) refl

module _ (s : Bytes) (i : ℕ) where
  -- two digits are passed over
  pub digit-pair : i + 1 < length s → is_hex_digit (get_or s i 0) ≡ true → is_hex_digit (get_or s (i + 1) 0) ≡ true
      → all is_hex_digit (drop i s) ≡ all is_hex_digit (drop (i + 2) s)
  digit-pair h d e =
      let p : i + 1 + 1 ≡ i + 2 = omega arith in
      digit-one s i (omega arith) d ∙ digit-one s (i + 1) h e ∙ ap (λ (k : ℕ). all is_hex_digit (drop k s)) p

  -- a byte that is no digit is found after a digit too
  pub digit-other-second : i + 1 < length s → is_hex_digit (get_or s i 0) ≡ true
      → is_hex_digit (get_or s (i + 1) 0) ≡ false → all is_hex_digit (drop i s) ≡ false
  digit-other-second h d e = digit-one s i (omega arith) d ∙ digit-other s (i + 1) h e

-- the bytes of a pair, by where they stand in what is cut into pairs
module _ (s : Bytes) (cs : List Bytes) (i : ℕ) (d : Bytes) (e : cs ≡ first_chunks 2 (length s / 2) s)
    (h : i < length s / 2) where
  pub pair_high : get_or (get_or cs i d) 0 0 ≡ get_or s (2 * i) 0
  pair_high = let z : 2 * i + 0 ≡ 2 * i = omega arith in rw e (rw z at (chunk_byte 2 (length s / 2) s i 0 d h (omega arith)))

  pub pair_low : get_or (get_or cs i d) 1 0 ≡ get_or s (2 * i + 1) 0
  pair_low = rw e (chunk_byte 2 (length s / 2) s i 1 d h (omega arith))

-- one element more of a list that is filled from the front: what is filled and what is left stay
-- the whole
pub fill_step : (r ys vs : List ℕ) (k v : ℕ) → k < length r → take k r ++ v ∷ ys ≡ vs
    → take (k + 1) (set r k v) ++ ys ≡ vs
fill_step r ys vs k v h e = rw (add-one, take-suc-set r k v h, append_snoc) e

-- a list filled to its end is the whole
pub fill_end : (r vs : List ℕ) (k : ℕ) → length r ≤ k → take k r ++ [] ≡ vs → r ≡ vs
fill_end r vs k h e = sym (append-nil r) ∙ (rw (take_all k r h) at e)

-- what the code that reads numbers is proved by
pub ruleset numbers =
    (number_empty, number_zero, number_one, number_many, digits-end, digits-other, digits-beyond, digits_more)

-- what the code that reads values is proved by
pub ruleset digest_rules = (
  digest_long,
  digest_other,
  digest_some,
  digit-pair,
  digit-other,
  digit-other-second,
  unhex-pair,
  unhex-end,
  digits_none,
  fill_step,
  fill_end,
  length-set,
)
