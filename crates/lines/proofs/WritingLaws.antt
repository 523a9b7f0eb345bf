-- Laws of writing into lent bytes (specs/Writing.antt): what stands there after a text is put into
-- its offset, and what each writer puts there step by step.
use mathlib.Core.Path.{◌≡◌, refl, sym, ◌∙◌, ap}
use mathlib.Core.List.{[], ◌∷◌, ◌++◌, append_assoc, append-nil}
use mathlib.Core.Option.{Option, Option-elim, none, some}
use Prim.Native.Nat.{◌*◌, ℕ, suc, ◌+◌, ◌-◌, ◌/◌, ◌%◌, ◌≤◌, ◌<◌}
use native.Mathlib.Nat.{add-zero}
use native.Mathlib.Omega.{arith}
use lib.Dec.{leb}
use lib.ListN.{length, take, drop, get_or, set, length-append, length-drop, length-set}
use lib.Seq.{sets, sets-eq, length-sets, drop-set-lt, get_or-set_same, take_all}
use Rattle.std.proofs.lemmas.Slice.{put_mid-paste}
use borrow.Author.Tests.{le-leb, lt-leb, leb-true, leb-false}
use borrow.Rule.Slice.PartMut.{put_mid}
use Rattle.std.specs.Prelude.{Some, None, Option as CodeOption}
use Rattle.lists.specs.Choice.{choose, provided, option_of}
use Rattle.lists.specs.Lists.{Bytes, written}
use Rattle.lists.proofs.ChoiceLaws.{provided_some, provided_none, provided_true, provided_false}
use Rattle.lines.specs.Number.{ascii, decimal}
use Rattle.lines.specs.Hex.{dash, hex_digit, hex, hex_field}
use Rattle.lines.specs.Writing.{offset_after, put_at, offset_after_any, put_any}
use Rattle.lines.proofs.HexLaws.{length_hex, hex_field_some}
use Rattle.lines.proofs.ReadingLaws.{unhex-pair}
use Rattle.lines.proofs.HexLengthLaws.{length_unhex, unhex_short, decoded_digit}
use Rattle.lines.proofs.NumberLaws.{decimal_last, decimal_more, decimal_some, decimal_short}
use Rattle.lines.proofs.OffsetLaws.{at_cons, at_end}

-- ---- a text in its place

-- bytes stored one after the other are the text in its place
pub written_sets : (s : Bytes) (at : ℕ) (t : Bytes) → at + length t ≤ length s → sets s at t ≡ written s at t
unfolding written
written_sets s at t h = sets-eq t s at h

-- writing leaves as many bytes as there were
pub length_written : (s : Bytes) (at : ℕ) (t : Bytes) → at + length t ≤ length s → length (written s at t) ≡ length s
length_written s at t h = ap length (sym (written_sets s at t h)) ∙ length-sets s at t

-- two texts are stored one after the other
pub sets_append : (s : Bytes) (at : ℕ) (t u : Bytes) → sets s at (t ++ u) ≡ sets (sets s at t) (at + length t) u
sets_append s at [] u = rw (add-zero at) refl
sets_append s at (b ∷ t) u =
    let e : suc at + length t ≡ at + length (b ∷ t) = omega arith in
    sets_append (set s at b) (suc at) t u ∙ ap (λ (i : ℕ). sets (sets (set s at b) (suc at) t) i u) e

-- a text written after another is both written as one
pub written_append : (s : Bytes) (at : ℕ) (t u : Bytes) → at + length t + length u ≤ length s
    → written (written s at t) (at + length t) u ≡ written s at (t ++ u)
written_append s at t u h =
    let w = written_sets s at t (omega arith) in
    let r : at + length t + length u ≤ length (sets s at t) = omega (arith, length-sets s at t) in
    let m : at + length (t ++ u) ≤ length s = omega (arith, length-append t u) in
    ap (λ (x : Bytes). written x (at + length t) u) (sym w)
    ∙ sym (written_sets (sets s at t) (at + length t) u r)
    ∙ sym (sets_append s at t u)
    ∙ written_sets s at (t ++ u) m

-- the empty text changes nothing
pub written_nil : (s : Bytes) (at : ℕ) → at ≤ length s → written s at [] ≡ s
written_nil s at h = sym (written_sets s at [] (omega arith))

-- ---- whether it fits

-- a text that fits is written, and the offset is after it
pub put_fits : (s : Bytes) (at : ℕ) (t : Bytes) → at + length t ≤ length s
    → (offset_after s at t ≡ some (at + length t)) × (put_at s at t ≡ written s at t)
unfolding offset_after put_at choose provided
put_fits s at t h = (rw (le-leb (at + length t) (length s) h) refl, rw (le-leb (at + length t) (length s) h) refl)

-- a text that does not fit is not written
pub put_over : (s : Bytes) (at : ℕ) (t : Bytes) → length s < at + length t → (offset_after s at t ≡ none)
    × (put_at s at t ≡ s)
unfolding offset_after put_at choose provided
put_over s at t h = (rw (lt-leb (at + length t) (length s) h) refl, rw (lt-leb (at + length t) (length s) h) refl)

-- a text that ends within the room: the offset after it, and what is there once it is written
pub record Ends (s : Bytes) (at : ℕ) (t : Bytes) (end : ℕ) : Type 0 where
  pub offset : some end ≡ offset_after s at t
  pub is : end ≡ at + length t
  pub fits : at + length t ≤ length s
  pub bytes : put_at s at t ≡ written s at t

-- a text that is not put
pub record Stays (s : Bytes) (at : ℕ) (t : Bytes) : Type 0 where
  pub offset : none ≡ offset_after s at t
  pub bytes : put_at s at t ≡ s

module _ (s : Bytes) (at : ℕ) (t : Bytes) (n : ℕ) (l : length t ≡ n)
    (r : CodeOption ℕ) (e : option_of r ≡ provided (leb (at + n) (length s)) (at + n)) where
  -- where the code knows the offset after so many bytes, they are put
  pub room_ends : (end : ℕ) → r ≡ Some end → Ends s at t end
  unfolding offset_after
  room_ends end w =
      let o : some end ≡ offset_after s at t = rw l (ap option_of (sym w) ∙ e) in
      let (h, v) = provided_some _ _ end (sym o) in
      let f = leb-true _ _ h in
      record { offset = o; is = sym v; fits = f; bytes = (put_fits s at t f).1 }

  -- where it knows none, nothing is
  pub room_none : r ≡ None → Stays s at t
  unfolding offset_after
  room_none w =
      let o : none ≡ offset_after s at t = rw l (ap option_of (sym w) ∙ e) in
      record { offset = o; bytes = (put_over s at t (leb-false _ _ (provided_none _ _ (sym o)))).1 }

-- a part in which a text stands in the place of what was there
pub put_part : (s : Bytes) (at : ℕ) (t : Bytes) (e : ℕ) (now : Bytes) → e ≡ at + length t → now ≡ t
    → put_mid at (e - at) s now ≡ written s at t
unfolding written
put_part s at t e now h n =
    put_mid-paste at (e - at) s now t (length t) n (omega arith) refl
    ∙ ap (λ (x : Bytes). take at s ++ x ++ drop (at + length t) s) (take_all (length t) t (omega arith))

-- what may be a text is put as the text that it is
pub put_some : (s : Bytes) (at : ℕ) (o : Option Bytes) (t : Bytes) → o ≡ some t
    → (offset_after_any s at o ≡ offset_after s at t) × (put_any s at o ≡ put_at s at t)
unfolding offset_after_any put_any Option-elim
put_some s at o t e = (rw e refl, rw e refl)

-- where it is none, nothing is put
pub put_none : (s : Bytes) (at : ℕ) (o : Option Bytes) → o ≡ none → (offset_after_any s at o ≡ none)
    × (put_any s at o ≡ s)
unfolding offset_after_any put_any Option-elim
put_none s at o e = (rw e refl, rw e refl)

-- ---- byte by byte

-- at first the whole text is left to be stored
pub sets_start : (s : Bytes) (at : ℕ) (t : Bytes) → at + length t ≤ length s → written s at t ≡ sets s (at + 0) t
sets_start s at t h = rw (add-zero at) (sym (written_sets s at t h))

-- the first byte of what is left to be stored is stored
pub sets_next : (s t u : Bytes) (i j b : ℕ) → j ≡ i + 1 → t ≡ b ∷ u → sets s i t ≡ sets (set s i b) j u
sets_next s t u i j b e f = let p : j ≡ suc i = omega arith in rw (f, p) refl

-- once nothing is left to be stored, all is stored
pub sets_done : (s t : Bytes) (i : ℕ) → t ≡ [] → sets s i t ≡ s
sets_done s t i e = rw e refl

-- ---- decimal digits, from the last to the first

-- an element stored at an offset, and those after it
stored_at : (s : Bytes) (i b : ℕ) → i < length s → drop i (set s i b) ≡ b ∷ drop (i + 1) s
stored_at s i b h =
    let l : i < length (set s i b) = omega (arith, length-set s i b) in
    at_cons (set s i b) i l ∙ rw (get_or-set_same s i b 0 h, drop-set-lt (i + 1) s i b (omega arith)) refl

module _ (n rest : ℕ) (s : Bytes) (i : ℕ) (h : i < length s) (e : decimal n ≡ decimal rest ++ drop (i + 1) s) where
  -- the last digit of a number that has others is stored before the digits after it
  pub digits-stored : 10 ≤ rest → decimal n ≡ decimal (rest / 10) ++ drop i (set s i (48 + rest % 10))
  digits-stored m =
      e
      ∙ ap (λ (t : Bytes). t ++ drop (i + 1) s) (decimal_more rest m)
      ∙ append_assoc (decimal (rest / 10)) ((48 + rest % 10) ∷ []) (drop (i + 1) s)
      ∙ ap (λ (t : Bytes). decimal (rest / 10) ++ t) (sym (stored_at s i (48 + rest % 10) h))

  -- with the first digit the whole number is stored
  pub digits-whole : (k : ℕ) → length s - i ≤ k → rest < 10 → take k (drop i (set s i (48 + rest))) ≡ decimal n
  digits-whole k l m =
      take_all k (drop i (set s i (48 + rest)))
      (omega (arith, length-drop i (set s i (48 + rest)), length-set s i (48 + rest)))
      ∙ stored_at s i (48 + rest) h
      ∙ sym (e ∙ ap (λ (t : Bytes). t ++ drop (i + 1) s) (decimal_last rest m))

  -- as long as two digits are left, there is an offset before this one, if the number has no more
  -- digits than there are offsets
  pub digits-room : 10 ≤ rest → length (decimal n) ≤ length s → 0 < i
  digits-room m k =
      let a : length (decimal n) ≡ length (decimal rest) + length (drop (i + 1) s) =
      ap length e ∙ length-append (decimal rest) (drop (i + 1) s) in
      let b = length-append (decimal (rest / 10)) ((48 + rest % 10) ∷ []) in
      omega (arith, length-drop (i + 1) s, ap length (decimal_more rest m), decimal_some (rest / 10))

-- ---- hex digits

-- the two digits of a byte come before those of the bytes after it
pub hex_at : (s : Bytes) (i : ℕ) → i < length s
    → hex (drop i s) ≡ hex_digit (get_or s i 0 / 16) ∷ hex_digit (get_or s i 0 % 16) ∷ hex (drop (i + 1) s)
unfolding hex
hex_at s i h = rw (at_cons s i h) refl

-- no bytes have no digits
pub hex_end : (s : Bytes) (i : ℕ) → length s ≤ i → hex (drop i s) ≡ []
unfolding hex
hex_end s i h = rw (at_end s i h) refl

-- the field of the empty byte string is a dash
pub hex_field_none : (s : Bytes) → length s ≡ 0 → hex_field s ≡ 45 ∷ []
unfolding hex_field dash ascii
hex_field_none [] h = refl
hex_field_none (b ∷ s) h = absurd (omega arith)

-- what the code that finds room is proved by
pub ruleset room = (provided_true, provided_false, le-leb, lt-leb)

-- the field of a byte string that is not empty has two digits for each byte
pub length_field : (s : Bytes) → 0 < length s → length (hex_field s) ≡ 2 * length s
length_field s p = ap length (hex_field_some s p) ∙ length_hex s

-- what the code that stores digits and decoded bytes is proved by
pub ruleset store_rules = (
  sets_start,
  sets_next,
  sets_done,
  hex_at,
  hex_end,
  length_hex,
  length-set,
  length-drop,
  unhex-pair,
  length_unhex,
  unhex_short,
  decoded_digit,
)

-- what the code that writes decimal digits is proved by
pub ruleset decimal_rules = (digits-stored, digits-whole, digits-room, decimal_short, append-nil, length-set)
