-- Laws of byte strings in hex (specs/Hex.antt): what is written reads as itself, and what reads is
-- what is written.
use mathlib.Core.Path.{◌≡◌, refl, sym, ◌∙◌, ap, ap₂}
use mathlib.Core.Logic.{◌⊎◌, inl, inr}
use mathlib.Core.Bool.{Bool, true, false, ◌&&◌, cond}
use mathlib.Core.List.{[], ◌∷◌}
use mathlib.Core.Option.{some, some-injective}
use Prim.Native.Nat.{ℕ, ◌+◌, ◌-◌, ◌*◌, ◌/◌, ◌%◌, ◌≤◌, ◌<◌}
use native.Mathlib.Decide.{dec_lt}
use native.Mathlib.Omega.{arith}
use lib.Dec.{eqb, leb, ltb}
use lib.ListN.{length}
use borrow.Author.Tests.{eq-eqb, lt-ltb, le-ltb, le-leb, lt-leb, leb-true, ltb-true, eqb-true}
use Rattle.lists.specs.Choice.{provided}
use Rattle.lists.specs.Lists.{Bytes, all, same}
use Rattle.lists.proofs.ChoiceLaws.{and_holds, holds_and, or_holds, provided_true, provided_some}
use Rattle.lists.proofs.ListLaws.{all_cons, cons_all, all_implied, same_refl, same_true, differ_same}
use Rattle.hash.specs.Bytes.{AreBytes}
use Rattle.lines.specs.Number.{ascii, is_digit}
use Rattle.lines.specs.Hex.{dash, is_hex_digit, digit_value, unhex, is_hex, read_hex, hex_digit, hex}
use Rattle.lines.specs.Hex.{hex_field}
use Rattle.lines.proofs.NumberLaws.{digit_bounds, is_digit_lem, above_digits, is_plain, is_plain_lem}

-- ---- digits

-- a digit below 10 is written from 48 on
pub hex_digit_low : (d : ℕ) → d < 10 → hex_digit d ≡ 48 + d
unfolding hex_digit
hex_digit_low d h = rw (lt-ltb d 10 h) refl

-- a digit from 10 on is written from 97 on
pub hex_digit_high : (d : ℕ) → 10 ≤ d → hex_digit d ≡ 87 + d
unfolding hex_digit
hex_digit_high d h = rw (le-ltb d 10 h) refl

-- the value of a byte from 48 to 57
pub value_low : (b : ℕ) → 48 ≤ b → b ≤ 57 → digit_value b ≡ b - 48
unfolding digit_value
value_low b l h = rw (is_digit_lem b l h) refl

-- the value of a byte above 57
pub value_high : (b : ℕ) → 57 < b → digit_value b ≡ b - 87
unfolding digit_value
value_high b h = rw (above_digits b h) refl

-- a byte from 48 to 57 is a hex digit
pub is_hex_low : (b : ℕ) → 48 ≤ b → b ≤ 57 → is_hex_digit b ≡ true
unfolding is_hex_digit
is_hex_low b l h = rw (is_digit_lem b l h) refl

-- so is a byte from 97 to 102
pub is_hex_high : (b : ℕ) → 97 ≤ b → b ≤ 102 → is_hex_digit b ≡ true
unfolding is_hex_digit
is_hex_high b l h = let p : 57 < b = omega arith in rw (above_digits b p, le-leb 97 b l, le-leb b 102 h) refl

-- above 57, the hex digits are the bytes from 97 to 102
is_hex_above : (b : ℕ) → 57 < b → (leb 97 b && leb b 102) ≡ is_hex_digit b
unfolding is_hex_digit
is_hex_above b h = rw (above_digits b h) refl

-- no other byte is
pub no_hex_digit : (b : ℕ) → (48 ≤ b → 57 < b) → (97 ≤ b → 102 < b) → is_hex_digit b ≡ false
unfolding is_hex_digit is_digit
no_hex_digit b l h = go (dec_lt b 48) (dec_lt b 97)
  where
    go : Dec (b < 48) → Dec (b < 97) → is_hex_digit b ≡ false
    go (yes p) k = let q : b < 97 = omega arith in rw (lt-leb 48 b p, lt-leb 97 b q) refl
    go (no p) (yes q) =
        let m : 48 ≤ b = omega arith in
        rw (le-leb 48 b m, lt-leb b 57 (l m), lt-leb 97 b q) refl
    go (no p) (no q) =
        let m : 48 ≤ b = omega arith in
        let n : 97 ≤ b = omega arith in
        rw (le-leb 48 b m, lt-leb b 57 (l m), le-leb 97 b n, lt-leb b 102 (h n)) refl

-- a digit that is written is a hex digit with its value
pub digit_value_lem : (d : ℕ) → d < 16 → (is_hex_digit (hex_digit d) ≡ true) × (digit_value (hex_digit d) ≡ d)
digit_value_lem d h = go (dec_lt d 10)
  where
    go : Dec (d < 10) → (is_hex_digit (hex_digit d) ≡ true) × (digit_value (hex_digit d) ≡ d)
    go (yes p) =
        let v : digit_value (48 + d) ≡ d = value_low (48 + d) (omega arith) (omega arith) ∙ omega arith in
        rw (hex_digit_low d p) (is_hex_low (48 + d) (omega arith) (omega arith), v)
    go (no p) =
        let v : digit_value (87 + d) ≡ d = value_high (87 + d) (omega arith) ∙ omega arith in
        rw (hex_digit_high d (omega arith)) (is_hex_high (87 + d) (omega arith) (omega arith), v)

-- a hex digit has a value below 16 and is what is written for it
pub value_digit : (b : ℕ) → is_hex_digit b ≡ true → (digit_value b < 16) × (hex_digit (digit_value b) ≡ b)
unfolding is_hex_digit
value_digit b e = go (or_holds (is_digit b) (leb 97 b && leb b 102) e)
  where
    go : (is_digit b ≡ true) ⊎ ((leb 97 b && leb b 102) ≡ true) → (digit_value b < 16) × (hex_digit (digit_value b) ≡ b)
    go (inl d) =
        let (l, h) = digit_bounds b d in
        let p : b - 48 < 10 = omega arith in
        let q : hex_digit (b - 48) ≡ b = hex_digit_low (b - 48) p ∙ omega arith in
        rw (value_low b l h) (omega arith, q)
    go (inr d) =
        let (s, t) = and_holds (leb 97 b) (leb b 102) d in
        let l = leb-true 97 b s in
        let h = leb-true b 102 t in
        let p : 10 ≤ b - 87 = omega arith in
        let q : hex_digit (b - 87) ≡ b = hex_digit_high (b - 87) p ∙ omega arith in
        rw (value_high b (omega arith)) (omega arith, q)

-- a hex digit is at least 48
pub hex_digit_bound : (b : ℕ) → is_hex_digit b ≡ true → 48 ≤ b
unfolding is_hex_digit
hex_digit_bound b e = go (or_holds (is_digit b) (leb 97 b && leb b 102) e)
  where
    go : (is_digit b ≡ true) ⊎ ((leb 97 b && leb b 102) ≡ true) → 48 ≤ b
    go (inl d) = (digit_bounds b d).0
    go (inr d) = let l = leb-true 97 b (and_holds (leb 97 b) (leb b 102) d).0 in omega arith

-- a hex digit above 57 is at most 102, and at least 97
pub hex_digit_high_bound : (b : ℕ) → is_hex_digit b ≡ true → 57 < b → (97 ≤ b) × (b ≤ 102)
hex_digit_high_bound b e h =
    let (s, t) = and_holds (leb 97 b) (leb b 102) (is_hex_above b h ∙ e) in
    (leb-true 97 b s, leb-true b 102 t)

-- ---- reading what is written

-- the digits of bytes encode them
pub unhex_hex : (s : Bytes) → AreBytes s → unhex (hex s) ≡ s
unfolding unhex hex
unhex_hex [] h = refl
unhex_hex (b ∷ s) (h, r) =
    ap₂ ◌∷◌ (rw ((digit_value_lem (b / 16) (omega arith)).1, (digit_value_lem (b % 16) (omega arith)).1) (omega arith))
    (unhex_hex s r)

-- bytes are written in hex digits
pub hex_digits : (s : Bytes) → AreBytes s → all is_hex_digit (hex s) ≡ true
unfolding hex all
hex_digits [] h = refl
hex_digits (b ∷ s) (h, r) =
    cons_all is_hex_digit (hex_digit (b / 16)) (hex_digit (b % 16) ∷ hex s) (digit_value_lem (b / 16) (omega arith)).0
    (cons_all is_hex_digit (hex_digit (b % 16)) (hex s) (digit_value_lem (b % 16) (omega arith)).0 (hex_digits s r))

-- hex is not empty, of even length, and has digits alone
pub hex_parts : (s : Bytes) → is_hex s ≡ true → (0 < length s) × (length s % 2 ≡ 0) × (all is_hex_digit s ≡ true)
unfolding is_hex
hex_parts s e =
    let (p, a) = and_holds (ltb 0 (length s) && eqb (length s % 2) 0) (all is_hex_digit s) e in
    let (l, m) = and_holds (ltb 0 (length s)) (eqb (length s % 2) 0) p in
    (ltb-true 0 (length s) l, eqb-true (length s % 2) 0 m, a)

-- and what is so is hex
pub parts_hex : (s : Bytes) → 0 < length s → length s % 2 ≡ 0 → all is_hex_digit s ≡ true → is_hex s ≡ true
unfolding is_hex
parts_hex s p m a =
    let q = holds_and (ltb 0 (length s)) (eqb (length s % 2) 0) (lt-ltb 0 (length s) p) (eq-eqb (length s % 2) 0 m) in
    holds_and (ltb 0 (length s) && eqb (length s % 2) 0) (all is_hex_digit s) q a

-- two digits for each byte
pub length_hex : (s : Bytes) → length (hex s) ≡ 2 * length s
unfolding hex
length_hex [] = refl
length_hex (b ∷ s) = omega (arith, length_hex s)

-- bytes once written, at least one, are hex
pub is_hex_lem : (s : Bytes) → AreBytes s → 0 < length s → is_hex (hex s) ≡ true
is_hex_lem s h p = let e = length_hex s in parts_hex (hex s) (omega arith) (omega arith) (hex_digits s h)

-- hex is not the dash
hex_no_dash : (s : Bytes) → same (hex s) dash ≡ false
unfolding dash ascii
hex_no_dash s =
    differ_same (hex s) (45 ∷ []) (λ q. let e : length (hex s) ≡ 1 = ap length q in omega (arith, length_hex s))

-- a byte string once written reads as itself
pub read_hex_lem : (s : Bytes) → AreBytes s → read_hex (hex_field s) ≡ some s
unfolding read_hex hex_field
read_hex_lem [] h = rw (same_refl dash) refl
read_hex_lem (b ∷ s) h =
    rw (hex_no_dash (b ∷ s), unhex_hex (b ∷ s) h)
    (provided_true (is_hex (hex (b ∷ s))) (b ∷ s) (is_hex_lem (b ∷ s) h (omega arith)))

-- ---- writing what is read

-- an even number of hex digits is what is written for the bytes that they encode
pub hex_unhex : (f : Bytes) → all is_hex_digit f ≡ true → length f % 2 ≡ 0 → (hex (unhex f) ≡ f) × AreBytes (unhex f)
unfolding unhex hex
hex_unhex [] e h = (refl, tt)
hex_unhex (a ∷ []) e h = absurd (omega arith)
hex_unhex (a ∷ b ∷ f) e h =
    let p = all_cons is_hex_digit a (b ∷ f) e in
    let q = all_cons is_hex_digit b f p.1 in
    let (u, v) = value_digit a p.0 in
    let (w, x) = value_digit b q.0 in
    let (y, z) = hex_unhex f q.1 (omega arith) in
    let d : (digit_value a * 16 + digit_value b) / 16 ≡ digit_value a = omega arith in
    let m : (digit_value a * 16 + digit_value b) % 16 ≡ digit_value b = omega arith in
    (rw (d, m, v, x, y) refl, (omega arith, z))

-- a field that is hex is what is written for the bytes that it encodes
pub hex_was : (f : Bytes) → is_hex f ≡ true → (f ≡ hex_field (unhex f)) × AreBytes (unhex f)
unfolding hex_field unhex
hex_was f e =
    let (p, m, a) = hex_parts f e in
    let (y, z) = hex_unhex f a m in
    (go f p m y, z)
  where
    go : (f : Bytes) → 0 < length f → length f % 2 ≡ 0 → hex (unhex f) ≡ f → f ≡ hex_field (unhex f)
    go [] p q y = absurd (omega arith)
    go (a ∷ []) p q y = absurd (omega arith)
    go (a ∷ b ∷ f) p q y = sym y

-- what reads as a byte string is what is written for it, and its elements are bytes
pub hex_read : (f s : Bytes) → read_hex f ≡ some s → (f ≡ hex_field s) × AreBytes s
unfolding read_hex hex_field
hex_read f s e = go (same f dash) refl e
  where
    go : (t : Bool) → same f dash ≡ t → cond t (some []) (provided (is_hex f) (unhex f)) ≡ some s → (f ≡ hex_field s)
        × AreBytes s
    go true p e = let q : [] ≡ s = some-injective [] s e in rw (← q) (same_true f dash p, tt)
    go false p e = let (t, q) = provided_some (is_hex f) (unhex f) s e in rw (← q) (hex_was f t)

-- ---- what is written

-- a byte string of at most n bytes takes at most 2n, and the empty one takes 1
pub length_hex_field : (n : ℕ) (s : Bytes) → 0 < n → length s ≤ n → length (hex_field s) ≤ 2 * n
unfolding hex_field dash ascii
length_hex_field n [] p h = omega arith
length_hex_field n (b ∷ s) p h = omega (arith, length_hex (b ∷ s))

-- a byte string that is not empty is written in hex
pub hex_field_some : (s : Bytes) → 0 < length s → hex_field s ≡ hex s
unfolding hex_field
hex_field_some [] p = absurd (omega arith)
hex_field_some (b ∷ s) p = refl

-- a byte string as written has no tab and no newline
pub hex_field_plain : (s : Bytes) → AreBytes s → all is_plain (hex_field s) ≡ true
unfolding hex_field dash ascii all
hex_field_plain [] h = refl
hex_field_plain (b ∷ s) h = all_implied is_hex_digit is_plain (hex (b ∷ s)) plain (hex_digits (b ∷ s) h)
  where
    plain : (b : ℕ) → is_hex_digit b ≡ true → is_plain b ≡ true
    plain b e = is_plain_lem b (omega (arith, hex_digit_bound b e))

-- what the code of single digits is proved by
pub ruleset digit_rules = (
  is_hex_low,
  is_hex_high,
  no_hex_digit,
  value_low,
  value_high,
  hex_digit_bound,
  hex_digit_high_bound,
  hex_digit_low,
  hex_digit_high,
)
