-- Laws of storing a frontier entry by entry: from the highest digit of the log's size down, and from
-- the root on.
use mathlib.Core.Path.{◌≡◌, refl, sym, ap, ◌∙◌}
use mathlib.Core.List.{List, [], ◌∷◌, ◌++◌}
use Prim.Native.Nat.{ℕ, zero, suc, ◌+◌, ◌-◌, ◌/◌, ◌^◌, ◌≤◌, ◌<◌}
use native.Mathlib.Nat.{div-eq_of_lt}
use native.Mathlib.Decide.{dec_lt}
use native.Mathlib.Omega.{arith}
use lib.Count.{ones, ones-le}
use lib.ListN.{length, take, drop, set, replicate}
use lib.Pow.{pow_pos}
use lib.Seq.{length-take-le}
use Rattle.std.proofs.lemmas.List.{drop-replicate}
use Rattle.hash.specs.Bytes.{padded}
use Rattle.hash.proofs.BytesLaws.{length_padded, padded_full}
use Rattle.tree.specs.SearchTree.{power, frontier, frontier_capacity, next_from}
use Rattle.tree.proofs.PowerLaws.{power_at, exponent_below}
use Rattle.tree.proofs.DigitLaws.{cut, cut_set, cut_clear, cut_bounds, by_digit}
use Rattle.tree.proofs.FillLaws.{Filling, filling_start, filling_same, filling_next, filling_end}
use Rattle.tree.proofs.FillLaws.{filling_whole}
use Rattle.tree.proofs.FrontierLaws.{set_digits, digits_set, digits_clear, digits_none, frontier_digits}
use Rattle.tree.proofs.FrontierLaws.{frontier_length, frontier_rising, frontier_below}
use Rattle.tree.proofs.NextLaws.{listed_from, from_all, from_none, from_next}

-- A log of fewer than 2 ^ 64 entries has a frontier that fits.
pub frontier_fits : (n : ℕ) → n < 2 ^ 64 → length (frontier n) ≤ frontier_capacity
frontier_fits n h = omega (arith, frontier_length n, ones-le 64 n h)

-- ---- from the highest digit down

-- Where the digits of n below k come to a number whose highest digit is j, that digit is the first
-- that is set.
first_digit : (k n left j : ℕ) → cut n k + left ≡ n → 2 ^ j ≤ left → left < 2 ^ suc j
    → (set_digits k n ≡ (cut n j - 1) ∷ set_digits j n) × (cut n j ≡ cut n k + 2 ^ j)
first_digit zero n left j s l u = absurd (omega (arith, pow_pos j))
first_digit (suc k) n left j s l u = by_digit (n / 2 ^ k)
    (λ z.
    let c = cut_clear n k z in
    let (e, d) = first_digit k n left j (omega arith) l u in
    (digits_clear k n z ∙ e, omega arith))
    (λ z.
    let c = cut_set n k z in
    let (a, _) = cut_bounds n k in
    let (_, b) = cut_bounds n (suc k) in
    let p : k < suc j = exponent_below k (suc j) (omega arith) in
    let q : j < suc k = exponent_below j (suc k) (omega arith) in
    let e : j ≡ k = omega arith in
    rw e (digits_set k n z, c))

-- the entries of the frontier are stored for all digits of n but those below a place, which come to
-- the number left
pub record Descending (n : ℕ) (positions : List ℕ) (left count : ℕ) : Type 0 where
  pub place : ℕ
  pub parts : cut n place + left ≡ n
  pub filling : Filling frontier_capacity (frontier n) positions count (set_digits place n)

-- At first all of n is left.
pub descending_start : (n : ℕ) → n < 2 ^ 64 → Descending n (replicate frontier_capacity 0) n 0
descending_start n h =
    let z : n / 2 ^ 64 ≡ 0 = div-eq_of_lt h in
    record {
      place = 64;
      parts = omega arith;
      filling = filling_same (frontier_digits 64 n h) (filling_start frontier_capacity (frontier n));
    }

-- While not all entries are stored, something is left.
pub descending_more : {n : ℕ} {positions : List ℕ} {left count : ℕ} → Descending n positions left count
    → count < length (frontier n) → 0 < left
descending_more {n} {positions} {left} {count} s h = go (dec_lt 0 left)
  where
    go : Dec (0 < left) → 0 < left
    go (yes p) = p
    go (no p) =
        let e : set_digits s.place n ≡ [] = digits_none s.place n (omega (arith, s.parts)) in
        absurd (omega (arith, (filling_end (filling_same e s.filling)).1))

-- The highest digit of what is left gives the next entry.
pub descending_next : {n : ℕ} {positions : List ℕ} {left count : ℕ} → n < 2 ^ 64 → Descending n positions left count
    → count < length (frontier n)
    → Descending n (set positions count (n - (left - power left) - 1)) (left - power left) (count + 1)
descending_next {n} {positions} {left} {count} h s w =
    let (j, e, l, u) = power_at left (descending_more s w) in
    let (d, c) = first_digit s.place n left j s.parts (omega arith) (omega arith) in
    let p = pow_pos j in
    let x : cut n j - 1 ≡ n - (left - power left) - 1 = omega (arith, s.parts) in
    record {
      place = j;
      parts = omega (arith, s.parts);
      filling = rw (← x) (filling_next (frontier_fits n h) (filling_same d s.filling));
    }

-- The power of what is left can be taken away, and an entry of the log is then named.
pub descending_bounds : {n : ℕ} {positions : List ℕ} {left count : ℕ} → n < 2 ^ 64
    → Descending n positions left count → count < length (frontier n)
    → (count < frontier_capacity) × (power left ≤ left) × (left - power left < n)
descending_bounds {n} {positions} {left} {count} h s w =
    let (j, e, l, u) = power_at left (descending_more s w) in
    (omega (arith, frontier_fits n h), l, omega (arith, s.parts, pow_pos j))

-- Once all are stored, the array is the frontier.
pub descending_end : {n : ℕ} {positions : List ℕ} {left count : ℕ} → Descending n positions left count
    → length (frontier n) ≤ count → positions ≡ padded frontier_capacity (frontier n)
descending_end s h = filling_whole s.filling h

-- ---- from the root on

-- so many entries of the frontier are stored, and those from x on are left
abbrev pub Storing : ℕ → List ℕ → ℕ → ℕ → Type 0
Storing n positions x count = Filling frontier_capacity (frontier n) positions count (listed_from x (frontier n))

-- At first all are left.
pub storing_start : (n : ℕ) → Storing n (replicate frontier_capacity 0) 0 0
storing_start n =
    filling_same (sym (from_all 0 (frontier n) (λ a m. omega arith))) (filling_start frontier_capacity (frontier n))

-- While not all are stored, there is a next one.
next_stored : (n x : ℕ) {capacity count : ℕ} {positions : List ℕ}
    → Filling capacity (frontier n) positions count (listed_from x (frontier n)) → count < length (frontier n)
    → next_from n (frontier n) x < n
next_stored n x s w = go (dec_lt (next_from n (frontier n) x) n)
  where
    go : Dec (next_from n (frontier n) x < n) → next_from n (frontier n) x < n
    go (yes p) = p
    go (no p) =
        let e = from_none n x (frontier n) (frontier_below n) (omega arith) in
        absurd (omega (arith, (filling_end (filling_same e s)).1))

module _ (n : ℕ) (positions : List ℕ) (x count : ℕ) (s : Storing n positions x count)
    (w : count < length (frontier n)) where
  -- While not all are stored, there is a next one.
  pub storing-more : next_from n (frontier n) x < n
  storing-more = next_stored n x s w

  -- It is stored, and those after it are left.
  pub storing-next : n < 2 ^ 64
      → Storing n (set positions count (next_from n (frontier n) x)) (next_from n (frontier n) x + 1) (count + 1)
  storing-next h =
      filling_next (frontier_fits n h)
      (filling_same (from_next n x (frontier n) (frontier_rising n) storing-more) s)

-- ---- from the root on, in as many places as there are entries

-- so many entries of the frontier are stored in as many places as it has, and those from x on are left
abbrev pub StoringOnes : ℕ → List ℕ → ℕ → ℕ → Type 0
StoringOnes n positions x count = Filling (ones n) (frontier n) positions count (listed_from x (frontier n))

-- At first all are left.
pub storing_ones_start : (n : ℕ) → StoringOnes n (replicate (ones n) 0) 0 0
storing_ones_start n =
    filling_same (sym (from_all 0 (frontier n) (λ a m. omega arith))) (filling_start (ones n) (frontier n))

-- The places stay as many.
pub storing_ones_length : (n x count : ℕ) (positions : List ℕ) → StoringOnes n positions x count
    → length positions ≡ ones n
storing_ones_length n x count positions s =
    ap length s.stored
    ∙ length_padded (ones n) (take count (frontier n))
    (omega (arith, length-take-le count (frontier n) s.within, s.within, frontier_length n))

-- Once all are stored, the zeros of an array stand after them.
pub storing_ones_whole : (n x count : ℕ) (positions : List ℕ) → n < 2 ^ 64 → StoringOnes n positions x count
    → length positions ≤ count
    → positions ++ drop (ones n) (replicate frontier_capacity 0) ≡ padded frontier_capacity (frontier n)
unfolding padded
storing_ones_whole n x count positions h s f =
    let l : length positions ≡ ones n = storing_ones_length n x count positions s in
    let e : positions ≡ frontier n =
    filling_whole s (omega (arith, frontier_length n)) ∙ padded_full (ones n) (frontier n) (frontier_length n) in
    rw (e, drop-replicate {X = ℕ} (ones n) frontier_capacity 0, frontier_length n) refl

module _ (n : ℕ) (positions : List ℕ) (x count : ℕ) (s : StoringOnes n positions x count)
    (w : count < length (frontier n)) where
  -- While not all are stored, there is a next one.
  pub storing-ones-more : next_from n (frontier n) x < n
  storing-ones-more = next_stored n x s w

  -- It is stored, and those after it are left.
  pub storing-ones-next : StoringOnes n (set positions count (next_from n (frontier n) x))
      (next_from n (frontier n) x + 1) (count + 1)
  storing-ones-next =
      filling_next (omega (arith, frontier_length n))
      (filling_same (from_next n x (frontier n) (frontier_rising n) storing-ones-more) s)
