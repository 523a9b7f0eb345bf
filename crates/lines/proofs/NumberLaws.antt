-- Laws of decimal numbers (specs/Number.antt): what is written reads as itself, and what reads is
-- what is written.
use mathlib.Core.Path.{◌≡◌, refl, sym, ◌∙◌, ap}
use mathlib.Core.Bool.{Bool, true, false, ◌&&◌, not, false≢true}
use mathlib.Core.List.{[], ◌∷◌, ◌++◌, append_assoc, append-nil}
use mathlib.Core.Option.{some}
use Prim.Native.Nat.{ℕ, zero, suc, ◌+◌, ◌-◌, ◌*◌, ◌/◌, ◌%◌, ◌^◌, ◌≤◌, ◌<◌}
use native.Mathlib.Decide.{dec_lt}
use native.Mathlib.Omega.{arith}
use lib.Dec.{eqb, leb}
use lib.ListN.{length, length-append}
use borrow.Author.Tests.{ne_eqb, lt-ltb, le-ltb, le-leb, lt-leb, leb-true, eqb-false, not-true}
use Rattle.lists.specs.Choice.{choose}
use Rattle.lists.specs.Lists.{Bytes, all}
use Rattle.lists.proofs.ChoiceLaws.{and_holds, holds_and, provided_true, provided_some}
use Rattle.lists.proofs.ListLaws.{cons_all, all_cons, all_append, all_implied}
use Rattle.lines.specs.Line.{tab, newline}
use Rattle.lines.specs.Number.{is_digit, is_decimal, digits_after, read_number, decimal_from, decimal}

-- ---- digits

-- a digit is a byte from 48 to 57
pub digit_bounds : (b : ℕ) → is_digit b ≡ true → (48 ≤ b) × (b ≤ 57)
unfolding is_digit
digit_bounds b e = let h = and_holds (leb 48 b) (leb b 57) e in (leb-true 48 b h.0, leb-true b 57 h.1)

-- a byte from 48 to 57 is a digit
pub is_digit_lem : (b : ℕ) → 48 ≤ b → b ≤ 57 → is_digit b ≡ true
unfolding is_digit
is_digit_lem b l h = holds_and (leb 48 b) (leb b 57) (le-leb 48 b l) (le-leb b 57 h)

-- nor is one above 57
pub above_digits : (b : ℕ) → 57 < b → is_digit b ≡ false
unfolding is_digit
above_digits b h = let l : 48 ≤ b = omega arith in rw (le-leb 48 b l, lt-leb b 57 h) refl

-- a byte that is neither a tab nor a newline
abbrev pub is_plain : ℕ → Bool
is_plain b = not (eqb b tab) && not (eqb b newline)

-- every byte above these two is such a byte
pub is_plain_lem : (b : ℕ) → newline < b → is_plain b ≡ true
is_plain_lem b h =
    holds_and (not (eqb b tab)) (not (eqb b newline)) (ap not (ne_eqb b tab (λ e. omega arith)))
    (ap not (ne_eqb b newline (λ e. omega arith)))

-- digits of which the first is not 0 are a decimal number
decimal_many : (b : ℕ) (s : Bytes) → (b ≡ 48 → ⊥) → all is_digit (b ∷ s) ≡ true → is_decimal (b ∷ s) ≡ true
unfolding is_decimal
decimal_many b [] n h = (all_cons is_digit b [] h).0
decimal_many b (c ∷ s) n h = holds_and (not (eqb b 48)) (all is_digit (b ∷ c ∷ s)) (ap not (ne_eqb b 48 n)) h

-- digits are taken in one after the other
pub digits_append : (n : ℕ) (s t : Bytes) → digits_after n (s ++ t) ≡ digits_after (digits_after n s) t
unfolding digits_after
digits_append n [] t = refl
digits_append n (b ∷ s) t = digits_append (n * 10 + (b - 48)) s t

-- ---- writing

-- a number below 10 is one digit
from_last : (k n : ℕ) → n < 10 → decimal_from (suc k) n ≡ (48 + n) ∷ []
unfolding decimal_from choose
from_last k n h = rw (lt-ltb n 10 h) refl

-- the last digit of any other comes after those of its tenth
from_more : (k n : ℕ) → 10 ≤ n → decimal_from (suc k) n ≡ decimal_from k (n / 10) ++ (48 + n % 10) ∷ []
unfolding decimal_from choose
from_more k n h = rw (le-ltb n 10 h) refl

-- what holds of one digit, and of digits and one more if it holds of those without it, holds of a
-- number written in steps enough
from_by : (P : ℕ → Bytes → Type 0) → ((n : ℕ) → n < 10 → P n ((48 + n) ∷ []))
    → ((n : ℕ) (s : Bytes) → 10 ≤ n → P (n / 10) s → P n (s ++ (48 + n % 10) ∷ [])) → (k n : ℕ) → n < k
    → P n (decimal_from k n)
from_by P one more zero n h = absurd (omega arith)
from_by P one more (suc k) n h = go (dec_lt n 10) (λ p. from_by P one more k (n / 10) p)
  where
    go : Dec (n < 10) → (n / 10 < k → P (n / 10) (decimal_from k (n / 10))) → P n (decimal_from (suc k) n)
    go (yes p) ih = rw (from_last k n p) (one n p)
    go (no p) ih = rw (from_more k n (omega arith)) (more n (decimal_from k (n / 10)) (omega arith) (ih (omega arith)))

-- any number of steps that is enough writes the same digits
from_fuel : (k l n : ℕ) → n < k → n < l → decimal_from k n ≡ decimal_from l n
from_fuel k l n h = from_by (λ n s. (l : ℕ) → n < l → s ≡ decimal_from l n) one more k n h l
  where
    one : (n : ℕ) → n < 10 → (l : ℕ) → n < l → (48 + n) ∷ [] ≡ decimal_from l n
    one n p zero b = absurd (omega arith)
    one n p (suc l) b = sym (from_last l n p)

    more : (n : ℕ) (s : Bytes) → 10 ≤ n → ((l : ℕ) → n / 10 < l → s ≡ decimal_from l (n / 10)) → (l : ℕ) → n < l
        → s ++ (48 + n % 10) ∷ [] ≡ decimal_from l n
    more n s p ih zero b = absurd (omega arith)
    more n s p ih (suc l) b = ap (λ (t : Bytes). t ++ (48 + n % 10) ∷ []) (ih l (omega arith)) ∙ sym (from_more l n p)

-- what holds of one digit, and of digits and one more if it holds of those without it, holds of
-- every number that is written
pub decimal_by : (P : ℕ → Bytes → Type 0) → ((n : ℕ) → n < 10 → P n ((48 + n) ∷ []))
    → ((n : ℕ) (s : Bytes) → 10 ≤ n → P (n / 10) s → P n (s ++ (48 + n % 10) ∷ [])) → (n : ℕ) → P n (decimal n)
unfolding decimal
decimal_by P one more n = from_by P one more (n + 1) n (omega arith)

-- a number below 10 is written as one digit
pub decimal_last : (n : ℕ) → n < 10 → decimal n ≡ (48 + n) ∷ []
unfolding decimal
decimal_last n h = let e : n + 1 ≡ suc n = omega arith in rw e (from_last n n h)

-- any other number is written as its tenth and then its last digit
pub decimal_more : (n : ℕ) → 10 ≤ n → decimal n ≡ decimal (n / 10) ++ (48 + n % 10) ∷ []
unfolding decimal
decimal_more n h =
    let e : n + 1 ≡ suc n = omega arith in
    rw e (from_more n n h)
    ∙ ap (λ (t : Bytes). t ++ (48 + n % 10) ∷ []) (from_fuel n (n / 10 + 1) (n / 10) (omega arith) (omega arith))

-- ---- reading what is written

-- what is written encodes its number
pub digits_decimal : (n : ℕ) → digits_after 0 (decimal n) ≡ n
unfolding digits_after
digits_decimal = decimal_by (λ n s. digits_after 0 s ≡ n) (λ n h. omega arith) more
  where
    more : (n : ℕ) (s : Bytes) → 10 ≤ n → digits_after 0 s ≡ n / 10 → digits_after 0 (s ++ (48 + n % 10) ∷ []) ≡ n
    more n s h e = digits_append 0 s ((48 + n % 10) ∷ []) ∙ rw e (omega arith)

-- a number is written in digits, at least one, and the first is 0 only of 0
pub decimal_form : (n : ℕ) → (b : ℕ) × (t : Bytes) × (decimal n ≡ b ∷ t) × (all is_digit (b ∷ t) ≡ true)
    × (0 < n → b ≡ 48 → ⊥)
unfolding all
decimal_form =
    decimal_by (λ n s. (b : ℕ) × (t : Bytes) × (s ≡ b ∷ t) × (all is_digit (b ∷ t) ≡ true) × (0 < n → b ≡ 48 → ⊥)) one
    more
  where
    digit : (d : ℕ) → d < 10 → all is_digit ((48 + d) ∷ []) ≡ true
    digit d h = cons_all is_digit (48 + d) [] (is_digit_lem (48 + d) (omega arith) (omega arith)) refl

    one : (n : ℕ) → n < 10 → (b : ℕ) × (t : Bytes) × ((48 + n) ∷ [] ≡ b ∷ t) × (all is_digit (b ∷ t) ≡ true)
        × (0 < n → b ≡ 48 → ⊥)
    one n h = (48 + n, [], refl, digit n h, λ p q. omega arith)

    more : (n : ℕ) (s : Bytes) → 10 ≤ n → (b : ℕ) × (t : Bytes) × (s ≡ b ∷ t) × (all is_digit (b ∷ t) ≡ true)
        × (0 < n / 10 → b ≡ 48 → ⊥)
        → (b : ℕ) × (t : Bytes) × (s ++ (48 + n % 10) ∷ [] ≡ b ∷ t) × (all is_digit (b ∷ t) ≡ true)
        × (0 < n → b ≡ 48 → ⊥)
    more n s h (b, t, e, a, f) = (
      b,
      t ++ (48 + n % 10) ∷ [],
      rw e refl,
      all_append is_digit (b ∷ t) ((48 + n % 10) ∷ []) a
          (digit (n % 10) (omega arith)),
      λ p. f (omega arith),
    )

-- what is written is a decimal number
pub is_decimal_lem : (n : ℕ) → is_decimal (decimal n) ≡ true
unfolding is_decimal
is_decimal_lem n = go (dec_lt n 10)
  where
    go : Dec (n < 10) → is_decimal (decimal n) ≡ true
    go (yes p) = rw (decimal_last n p) (is_digit_lem (48 + n) (omega arith) (omega arith))
    go (no p) = let (b, t, e, a, f) = decimal_form n in rw e (decimal_many b t (f (omega arith)) a)

-- a number not above the bound, once written, reads as itself
pub read_decimal : (bound n : ℕ) → n ≤ bound → read_number bound (decimal n) ≡ some n
unfolding read_number
read_decimal bound n h =
    rw (digits_decimal n)
    (provided_true _ n (holds_and (is_decimal (decimal n)) (leb n bound) (is_decimal_lem n) (le-leb n bound h)))

-- ---- what is written

-- all bytes of a number are digits
pub decimal_digits : (n : ℕ) → all is_digit (decimal n) ≡ true
decimal_digits n = let (b, t, e, a, f) = decimal_form n in rw e a

-- a number is not written as the empty string
pub decimal_some : (n : ℕ) → 0 < length (decimal n)
decimal_some n = let (b, t, e, a, f) = decimal_form n in rw e (omega arith)

-- a number below a power of ten has no more digits than that power has zeros
pub decimal_short : (k n : ℕ) → n < 10 ^ suc k → length (decimal n) ≤ suc k
decimal_short k n = decimal_by (λ n s. (k : ℕ) → n < 10 ^ suc k → length s ≤ suc k) (λ n p k h. omega arith) more n k
  where
    more : (n : ℕ) (s : Bytes) → 10 ≤ n → ((k : ℕ) → n / 10 < 10 ^ suc k → length s ≤ suc k) → (k : ℕ) → n < 10 ^ suc k
        → length (s ++ (48 + n % 10) ∷ []) ≤ suc k
    more n s p ih zero h = absurd (omega arith)
    more n s p ih (suc k) h = rw (length-append s ((48 + n % 10) ∷ [])) (let i = ih k (omega arith) in omega arith)

-- a number has no tab and no newline
pub decimal_plain : (n : ℕ) → all is_plain (decimal n) ≡ true
decimal_plain n =
    all_implied is_digit is_plain (decimal n) (λ b h. is_plain_lem b (omega (arith, digit_bounds b h)))
    (decimal_digits n)

-- ---- writing what is read

-- a digit after those of a number that is not 0 is the last digit of what both encode
decimal_snoc : (m b : ℕ) → 0 < m → 48 ≤ b → b ≤ 57 → decimal m ++ b ∷ [] ≡ decimal (m * 10 + (b - 48))
decimal_snoc m b p l h =
    let d : (m * 10 + (b - 48)) / 10 ≡ m = omega arith in
    let r : 48 + (m * 10 + (b - 48)) % 10 ≡ b = omega arith in
    sym (decimal_more (m * 10 + (b - 48)) (omega arith) ∙ rw (d, r) refl)

-- digits after those of a number that is not 0 are the digits of what they encode with it
decimal_digits_after : (s : Bytes) (m : ℕ) → 0 < m → all is_digit s ≡ true → decimal m ++ s ≡ decimal (digits_after m s)
unfolding digits_after
decimal_digits_after [] m p h = append-nil (decimal m)
decimal_digits_after (b ∷ s) m p h =
    let c = all_cons is_digit b s h in
    let (l, u) = digit_bounds b c.0 in
    sym (append_assoc (decimal m) (b ∷ []) s)
    ∙ ap (λ (t : Bytes). t ++ s) (decimal_snoc m b p l u)
    ∙ decimal_digits_after s (m * 10 + (b - 48)) (omega arith) c.1

-- one digit encodes what is written as it
decimal_digit : (b : ℕ) → 48 ≤ b → b ≤ 57 → b ∷ [] ≡ decimal (0 * 10 + (b - 48))
decimal_digit b l h =
    let e : 48 + (0 * 10 + (b - 48)) ≡ b = omega arith in
    sym (decimal_last (0 * 10 + (b - 48)) (omega arith) ∙ rw e refl)

-- a decimal number is what is written for the number that it encodes
pub decimal_was : (s : Bytes) → is_decimal s ≡ true → s ≡ decimal (digits_after 0 s)
unfolding is_decimal digits_after
decimal_was [] e = absurd (false≢true e)
decimal_was (b ∷ []) e = let (l, u) = digit_bounds b e in decimal_digit b l u
decimal_was (b ∷ c ∷ s) e =
    let h = and_holds (not (eqb b 48)) (all is_digit (b ∷ c ∷ s)) e in
    let n : b ≡ 48 → ⊥ = eqb-false b 48 (not-true (eqb b 48) h.0) in
    let a = all_cons is_digit b (c ∷ s) h.1 in
    let (l, u) = digit_bounds b a.0 in
    ap (λ (t : Bytes). t ++ c ∷ s) (decimal_digit b l u)
    ∙ decimal_digits_after (c ∷ s) (0 * 10 + (b - 48)) (omega arith) a.1

-- what reads as a number is what is written for it, and the number is not above the bound
pub decimal_read : (bound : ℕ) (s : Bytes) (n : ℕ) → read_number bound s ≡ some n → (s ≡ decimal n) × (n ≤ bound)
unfolding read_number
decimal_read bound s n e =
    let (t, v) = provided_some (is_decimal s && leb (digits_after 0 s) bound) (digits_after 0 s) n e in
    let (d, b) = and_holds (is_decimal s) (leb (digits_after 0 s) bound) t in
    let h = leb-true (digits_after 0 s) bound b in
    (decimal_was s d ∙ ap decimal v, omega arith)
