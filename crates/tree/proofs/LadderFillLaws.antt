-- Laws of storing a ladder version by version: the climb, then the halving.
use mathlib.Core.Path.{◌≡◌, refl, sym, ap, ◌∙◌}
use mathlib.Core.List.{List, [], ◌∷◌}
use Prim.Native.Nat.{ℕ, zero, suc, ◌+◌, ◌-◌, ◌*◌, ◌/◌, ◌^◌, ◌≤◌, ◌<◌}
use native.Mathlib.Decide.{dec_le}
use native.Mathlib.Omega.{arith}
use lib.Count.{leading_top}
use lib.ListN.{length, set, replicate}
use lib.Pow.{pow_mono}
use borrow.Author.Tests.{lt-ltb, le-ltb}
use Rattle.lists.specs.Choice.{choose}
use Rattle.hash.specs.Bytes.{padded}
use Rattle.hash.proofs.BytesLaws.{padded_nil}
use Rattle.tree.specs.Ladder.{halve, climb, ladder, ladder_within, ladder_capacity}
use Rattle.tree.proofs.PowerLaws.{exponent_below}
use Rattle.tree.proofs.DigitLaws.{by_order}
use Rattle.tree.proofs.LadderLaws.{halve_end, halve_low, halve_high, climb_up, climb_over}
use Rattle.tree.proofs.LadderLaws.{ladder_start, ladder_length}
use Rattle.tree.proofs.FillLaws.{Filling, filling_start, filling_same, filling_within, filling_next}
use Rattle.tree.proofs.FillLaws.{filling_end}

-- ---- length

-- A ladder within 32 bits has no more versions than the capacity.
pub ladder_fits : (t : ℕ) → t < 2 ^ 32 - 1 → length (ladder t) ≤ ladder_capacity
ladder_fits t h =
    let (j, _, l, u) = leading_top 32 (t + 1) (omega arith) (omega arith) in
    let b : j < 32 = exponent_below j 32 (omega arith) in
    omega (arith, ladder_length j t l u)

-- The ladders within 32 bits are those of the versions up to 2 ^ 32 - 2.
pub within_some : (t : ℕ) → t < 2 ^ 32 - 1 → ladder_within t ≡ ladder t
unfolding ladder_within choose
within_some t h = rw (lt-ltb t (2 ^ 32 - 1) h)

-- The others are empty.
pub within_none : (t : ℕ) → 2 ^ 32 - 1 ≤ t → ladder_within t ≡ []
unfolding ladder_within choose
within_none t h = rw (le-ltb t (2 ^ 32 - 1) h)

-- So a ladder within 32 bits, of whatever version, has no more versions than the capacity.
pub within_fits : (t : ℕ) → length (ladder_within t) ≤ ladder_capacity
within_fits t = by_order t (2 ^ 32 - 1) (λ h. rw (within_some t h) (ladder_fits t h)) (λ h. rw (within_none t h) (omega arith))

-- An array of zeros holds an empty ladder.
pub within_nothing : (t : ℕ) → t ≡ 2 ^ 32 - 1 → (replicate ladder_capacity 0 ≡ padded ladder_capacity (ladder_within t)) × (0 ≡ length (ladder_within t))
within_nothing t h = let e = within_none t (omega arith) in (padded_nil ladder_capacity ∙ ap (padded ladder_capacity) (sym e), ap length (sym e))

-- ---- the climb

-- a climb that has come to the version high, a power of two less one, from the version low
pub record Climbing (t : ℕ) (versions : List ℕ) (count low high : ℕ) : Type 0 where
  pub exponent : ℕ
  pub power : high + 1 ≡ 2 ^ exponent
  pub fuel : ℕ
  pub enough : t < high + fuel
  pub low_end : low ≤ t
  pub filling : Filling ladder_capacity (ladder t) versions count (climb (suc fuel) t low high)

-- It begins at 0, with nothing stored.
pub climbing_start : (t : ℕ) → Climbing t (replicate ladder_capacity 0) 0 0 0
climbing_start t = record {
  exponent = 0;
  power = refl;
  fuel = suc t;
  enough = omega arith;
  low_end = omega arith;
  filling = filling_same (start t) (filling_start ladder_capacity (ladder t));
}
  where
    start : (t : ℕ) → ladder t ≡ climb (suc (suc t)) t 0 0
    start t = ladder_start t ∙ sym (climb_up (suc t) t 0 0 (omega arith))

-- A climb gives the version that it has come to first.
climb_first : (f t low high : ℕ) → (rest : List ℕ) × (climb (suc f) t low high ≡ high ∷ rest)
unfolding climb
climb_first f t low high = (_, refl)

-- There is room for that version.
pub climbing_room : {t : ℕ} {versions : List ℕ} {count low high : ℕ} → t < 2 ^ 32 - 1 → Climbing t versions count low high → count < ladder_capacity
climbing_room {t} {versions} {count} {low} {high} h s =
    let (rest, e) = climb_first s.fuel t low high in
    omega (arith, filling_within (filling_same e s.filling), ladder_fits t h)

-- The next version is within 32 bits, where this one is not above t.
pub climbing_next_fits : {t : ℕ} {versions : List ℕ} {count low high : ℕ} → t < 2 ^ 32 - 1 → Climbing t versions count low high → high ≤ t → 2 * high + 1 < 2 ^ 32
climbing_next_fits h s l =
    let b : s.exponent < 32 = exponent_below s.exponent 32 (omega (arith, s.power)) in
    let p : 2 ^ suc s.exponent ≤ 2 ^ 32 = pow_mono b in
    omega (arith, s.power)

-- The climb goes on from a version that is not above t.
pub climbing_next : {t : ℕ} {versions : List ℕ} {count low high : ℕ} → t < 2 ^ 32 - 1 → Climbing t versions count low high → high ≤ t
    → Climbing t (set versions count high) (count + 1) high (2 * high + 1)
climbing_next {t} {versions} {count} {low} {high} h s l = go s.fuel s.enough s.filling
  where
    go : (f : ℕ) → t < high + f → Filling ladder_capacity (ladder t) versions count (climb (suc f) t low high)
        → Climbing t (set versions count high) (count + 1) high (2 * high + 1)
    go zero e f = absurd (omega arith)
    go (suc k) e f = record {
      exponent = suc s.exponent;
      power = omega (arith, s.power);
      fuel = k;
      enough = omega arith;
      low_end = l;
      filling = filling_next (ladder_fits t h) (filling_same (climb_up (suc k) t low high l) f);
    }

-- ---- the halving

-- Halving gives a middle first, unless between neighbours.
halve_first : (f t low high : ℕ) → low + 1 < high → (rest : List ℕ) × (halve (suc f) t low high ≡ (low + high) / 2 ∷ rest)
halve_first f t low high h = go (dec_le ((low + high) / 2) t)
  where
    go : Dec ((low + high) / 2 ≤ t) → (rest : List ℕ) × (halve (suc f) t low high ≡ (low + high) / 2 ∷ rest)
    go (yes l) = (_, halve_low f t low high ((low + high) / 2) h refl l)
    go (no l) = (_, halve_high f t low high ((low + high) / 2) h refl (omega arith))

-- a halving that has come to the versions low and high
pub record Halving (t : ℕ) (versions : List ℕ) (count low high : ℕ) : Type 0 where
  pub fuel : ℕ
  pub enough : high ≤ suc (low + fuel)
  pub order : low < high
  pub small : high < 2 ^ 32
  pub filling : Filling ladder_capacity (ladder t) versions count (halve fuel t low high)

-- The climb ends with the first version above t, and halving begins.
pub climbing_end : {t : ℕ} {versions : List ℕ} {count low high : ℕ} → t < 2 ^ 32 - 1 → Climbing t versions count low high → t < high
    → Filling ladder_capacity (ladder t) (set versions count high) (count + 1) (halve high t low high) × (low < high)
climbing_end {t} {versions} {count} {low} {high} h s l =
    (filling_next (ladder_fits t h) (filling_same (climb_over s.fuel t low high l) s.filling), omega (arith, s.low_end))

-- A middle is stored, and the halving goes on between it and one of the ends.
halving_next : {t : ℕ} {versions : List ℕ} {count low high : ℕ} → t < 2 ^ 32 - 1 → Halving t versions count low high → 1 < high - low → (m lo hi : ℕ)
    → lo < hi → hi - lo < high - low → hi ≤ high → ((k : ℕ) → halve (suc k) t low high ≡ m ∷ halve k t lo hi) → Halving t (set versions count m) (count + 1) lo hi
halving_next {t} {versions} {count} {low} {high} h s w m lo hi a b c e = go s.fuel s.enough s.filling
  where
    go : (f : ℕ) → high ≤ suc (low + f) → Filling ladder_capacity (ladder t) versions count (halve f t low high) → Halving t (set versions count m) (count + 1) lo hi
    go zero u f = absurd (omega arith)
    go (suc k) u f = record { fuel = k; enough = omega arith; order = a; small = omega (arith, s.small); filling = filling_next (ladder_fits t h) (filling_same (e k) f) }

-- One that is not above t becomes the lower end.
pub halving_low : {t : ℕ} {versions : List ℕ} {count low high : ℕ} → t < 2 ^ 32 - 1 → Halving t versions count low high → (m : ℕ)
    → m ≡ low + (high - low) / 2 → 1 < high - low → m ≤ t → Halving t (set versions count m) (count + 1) m high
halving_low {t} {versions} {count} {low} {high} h s m e w l =
    halving_next h s w m m high (omega arith) (omega arith) (omega arith) (λ k. halve_low k t low high m (omega arith) (omega arith) l)

-- One above t becomes the upper end.
pub halving_high : {t : ℕ} {versions : List ℕ} {count low high : ℕ} → t < 2 ^ 32 - 1 → Halving t versions count low high → (m : ℕ)
    → m ≡ low + (high - low) / 2 → 1 < high - low → t < m → Halving t (set versions count m) (count + 1) low m
halving_high {t} {versions} {count} {low} {high} h s m e w l =
    halving_next h s w m low m (omega arith) (omega arith) (omega arith) (λ k. halve_high k t low high m (omega arith) (omega arith) l)

-- There is room for a middle.
pub halving_room : {t : ℕ} {versions : List ℕ} {count low high : ℕ} → t < 2 ^ 32 - 1 → Halving t versions count low high → 1 < high - low → count < ladder_capacity
halving_room {t} {versions} {count} {low} {high} h s w = go s.fuel s.enough s.filling
  where
    go : (f : ℕ) → high ≤ suc (low + f) → Filling ladder_capacity (ladder t) versions count (halve f t low high) → count < ladder_capacity
    go zero b f = absurd (omega arith)
    go (suc k) b f =
        let (rest, e) = halve_first k t low high (omega arith) in
        omega (arith, filling_within (filling_same e f), ladder_fits t h)

-- Between neighbours the ladder is stored whole.
pub halving_end : {t : ℕ} {versions : List ℕ} {count low high : ℕ} → Halving t versions count low high → high - low ≤ 1
    → (versions ≡ padded ladder_capacity (ladder t)) × (count ≡ length (ladder t))
halving_end {t} {versions} {count} {low} {high} s w = filling_end (filling_same (halve_end s.fuel t low high (omega arith)) s.filling)
