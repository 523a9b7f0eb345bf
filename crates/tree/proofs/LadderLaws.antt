-- Laws of the binary ladder (specs/Ladder.antt): its length, its members, and where two ladders
-- part.
use mathlib.Core.Path.{◌≡◌, refl, sym, ap, ◌∙◌, subst}
use mathlib.Core.Logic.{◌⊎◌, inl, inr, ⊎_elim, ∥∥₁_elim}
use mathlib.Core.HLevel.{⊥_prop}
use mathlib.Core.List.{List, [], ◌∷◌, ◌++◌, Nodup, Nodup-nil, Nodup-cons}
use mathlib.Core.List.Memᴰ
use mathlib.Core.List.{Memᴰ}
use Prim.Native.Nat.{ℕ, zero, suc, ◌+◌, ◌*◌, ◌/◌, ◌^◌, ◌≤◌, ◌<◌}
use native.Mathlib.Numerals.{add-two}
use native.Mathlib.Decide.{dec_le}
use native.Mathlib.Omega.{arith}
use lib.ListN.{length}
use borrow.Author.Tests.{le-leb, lt-leb, lt-ltb, le-ltb}
use Rattle.lists.specs.Choice.{choose}
use Rattle.tree.specs.Ladder.{halve, climb, ladder}
use Rattle.tree.proofs.PowerLaws.{below_power, exponent_below}

-- ---- one step

-- between neighbours there is nothing to halve
pub halve_end : (f t lo hi : ℕ) → hi ≤ lo + 1 → halve f t lo hi ≡ []
unfolding halve choose
halve_end zero t lo hi h = refl
halve_end (suc f) t lo hi h = rw (le-leb hi (lo + 1) h) refl

-- a middle that is not above t becomes the lower end
pub halve_low : (f t lo hi m : ℕ) → lo + 1 < hi → m ≡ (lo + hi) / 2 → m ≤ t → halve (suc f) t lo hi ≡ m ∷ halve f t m hi
unfolding halve choose
halve_low f t lo hi m h e l = rw (lt-leb hi (lo + 1) h, ← e, le-leb m t l) refl

-- a middle above t becomes the upper end
pub halve_high : (f t lo hi m : ℕ) → lo + 1 < hi → m ≡ (lo + hi) / 2 → t < m → halve (suc f) t lo hi ≡ m ∷ halve f t lo m
unfolding halve choose
halve_high f t lo hi m h e l = rw (lt-leb hi (lo + 1) h, ← e, lt-leb m t l) refl

-- a version that is not above t is climbed over
pub climb_up : (f t lo v : ℕ) → v ≤ t → climb (suc f) t lo v ≡ v ∷ climb f t v (2 * v + 1)
unfolding climb choose
climb_up f t lo v h = rw (le-ltb t v h) refl

-- the first version above t ends the climb
pub climb_over : (f t lo v : ℕ) → t < v → climb (suc f) t lo v ≡ v ∷ halve v t lo v
unfolding climb choose
climb_over f t lo v h = rw (lt-ltb t v h) refl

-- the ladder begins with 0
pub ladder_start : (t : ℕ) → ladder t ≡ 0 ∷ climb (suc t) t 0 1
unfolding ladder
ladder_start t = rw add-two (climb_up (suc t) t 0 0 (omega arith))

-- ---- induction

-- what holds between neighbours, and of a middle and what follows it if it holds of that, holds of
-- each halving with steps enough for its gap
pub halve_by : (t : ℕ) (P : ℕ → ℕ → List ℕ → Type 0) → ((lo hi : ℕ) → hi ≤ lo + 1 → P lo hi [])
    → ((lo hi m : ℕ) (l : List ℕ) → lo + 1 < hi → m ≡ (lo + hi) / 2 → m ≤ t → P m hi l → P lo hi (m ∷ l))
    → ((lo hi m : ℕ) (l : List ℕ) → lo + 1 < hi → m ≡ (lo + hi) / 2 → t < m → P lo m l → P lo hi (m ∷ l))
    → (f lo hi : ℕ) → hi ≤ suc (lo + f) → P lo hi (halve f t lo hi)
halve_by t P end low high zero lo hi h = rw (halve_end zero t lo hi (omega arith)) (end lo hi (omega arith))
halve_by t P end low high (suc f) lo hi h =
    go (dec_le hi (lo + 1)) (dec_le m t) (λ w. halve_by t P end low high f m hi (omega arith)) (λ w. halve_by t P end low high f lo m (omega arith))
  where
    m : ℕ
    m = (lo + hi) / 2

    go : Dec (hi ≤ lo + 1) → Dec (m ≤ t) → (lo + 1 < hi → P m hi (halve f t m hi)) → (lo + 1 < hi → P lo m (halve f t lo m)) → P lo hi (halve (suc f) t lo hi)
    go (yes p) _ a b = rw (halve_end (suc f) t lo hi p) (end lo hi p)
    go (no p) (yes q) a b = rw (halve_low f t lo hi m (omega arith) refl q) (low lo hi m (halve f t m hi) (omega arith) refl q (a (omega arith)))
    go (no p) (no q) a b =
        rw (halve_high f t lo hi m (omega arith) refl (omega arith)) (high lo hi m (halve f t lo m) (omega arith) refl (omega arith) (b (omega arith)))

-- what holds of the last step of a climb, and of each step before it if it holds of what follows,
-- holds of each climb with steps enough to come above t
pub climb_by : (t : ℕ) (P : ℕ → ℕ → List ℕ → Type 0) → ((lo v : ℕ) → t < v → P lo v (v ∷ halve v t lo v))
    → ((lo v : ℕ) (l : List ℕ) → v ≤ t → P v (2 * v + 1) l → P lo v (v ∷ l)) → (f lo v : ℕ) → t < v + f → P lo v (climb (suc f) t lo v)
climb_by t P over up zero lo v h = rw (climb_over zero t lo v (omega arith)) (over lo v (omega arith))
climb_by t P over up (suc f) lo v h = go (dec_le v t) (λ w. climb_by t P over up f v (2 * v + 1) (omega arith))
  where
    go : Dec (v ≤ t) → (v ≤ t → P v (2 * v + 1) (climb (suc f) t v (2 * v + 1))) → P lo v (climb (suc (suc f)) t lo v)
    go (yes p) a = rw (climb_up (suc f) t lo v p) (up lo v (climb (suc f) t v (2 * v + 1)) p (a p))
    go (no p) a = rw (climb_over (suc f) t lo v (omega arith)) (over lo v (omega arith))

-- any number of steps that are enough to come above t gives the same climb
pub climb_fuel : (f g t lo v : ℕ) → t < v + f → t < v + g → climb (suc f) t lo v ≡ climb (suc g) t lo v
climb_fuel f g t lo v h = climb_by t (λ lo v l. (g : ℕ) → t < v + g → l ≡ climb (suc g) t lo v) (λ lo v p g k. sym (climb_over g t lo v p)) up f lo v h g
  where
    up : (lo v : ℕ) (l : List ℕ) → v ≤ t → ((g : ℕ) → t < 2 * v + 1 + g → l ≡ climb (suc g) t v (2 * v + 1))
        → (g : ℕ) → t < v + g → v ∷ l ≡ climb (suc g) t lo v
    up lo v l p ih zero k = absurd (omega arith)
    up lo v l p ih (suc g) k = ap (λ (z : List ℕ). v ∷ z) (ih g (omega arith)) ∙ sym (climb_up (suc g) t lo v p)

-- ---- length

-- a gap of 2 ^ g is halved g times
pub halve_length : (g f t lo hi : ℕ) → hi ≡ lo + 2 ^ g → hi ≤ suc (lo + f) → length (halve f t lo hi) ≡ g
halve_length g f t lo hi e h = halve_by t (λ lo hi l. (g : ℕ) → hi ≡ lo + 2 ^ g → length l ≡ g) end low high f lo hi h g e
  where
    end : (lo hi : ℕ) → hi ≤ lo + 1 → (g : ℕ) → hi ≡ lo + 2 ^ g → length {A = ℕ} [] ≡ g
    end lo hi h g e = let p = below_power g in omega arith

    low : (lo hi m : ℕ) (l : List ℕ) → lo + 1 < hi → m ≡ (lo + hi) / 2 → m ≤ t → ((g : ℕ) → hi ≡ m + 2 ^ g → length l ≡ g)
        → (g : ℕ) → hi ≡ lo + 2 ^ g → length (m ∷ l) ≡ g
    low lo hi m l h q _ ih zero e = absurd (omega arith)
    low lo hi m l h q _ ih (suc g) e = ap suc (ih g (omega arith))

    high : (lo hi m : ℕ) (l : List ℕ) → lo + 1 < hi → m ≡ (lo + hi) / 2 → t < m → ((g : ℕ) → m ≡ lo + 2 ^ g → length l ≡ g)
        → (g : ℕ) → hi ≡ lo + 2 ^ g → length (m ∷ l) ≡ g
    high lo hi m l h q _ ih zero e = absurd (omega arith)
    high lo hi m l h q _ ih (suc g) e = ap suc (ih g (omega arith))

-- after the version 2 ^ i - 1 a climb takes j - i + 1 more, and j halvings follow
climb_length : (j t : ℕ) → 2 ^ j ≤ t + 1 → t + 1 < 2 ^ suc j → (f i lo v : ℕ) → lo + 1 ≡ 2 ^ i → v + 1 ≡ 2 ^ suc i → i ≤ j → t < v + f
    → length (climb (suc f) t lo v) + i ≡ 2 * j + 1
climb_length j t a b f i lo v d e k h =
    climb_by t (λ lo v l. (i : ℕ) → lo + 1 ≡ 2 ^ i → v + 1 ≡ 2 ^ suc i → i ≤ j → length l + i ≡ 2 * j + 1) over up f lo v h i d e k
  where
    over : (lo v : ℕ) → t < v → (i : ℕ) → lo + 1 ≡ 2 ^ i → v + 1 ≡ 2 ^ suc i → i ≤ j → length (v ∷ halve v t lo v) + i ≡ 2 * j + 1
    over lo v p i d e k =
        let q : j < suc i = exponent_below j (suc i) (omega arith) in
        let z = halve_length i v t lo v (omega arith) (omega arith) in
        omega arith

    up : (lo v : ℕ) (l : List ℕ) → v ≤ t → ((i : ℕ) → v + 1 ≡ 2 ^ i → 2 * v + 1 + 1 ≡ 2 ^ suc i → i ≤ j → length l + i ≡ 2 * j + 1)
        → (i : ℕ) → lo + 1 ≡ 2 ^ i → v + 1 ≡ 2 ^ suc i → i ≤ j → length (v ∷ l) + i ≡ 2 * j + 1
    up lo v l p ih i d e k =
        let q : suc i < suc j = exponent_below (suc i) (suc j) (omega arith) in
        let z = ih (suc i) e (omega arith) (omega arith) in
        omega arith

-- for t from 2 ^ j - 1 to 2 ^ (j + 1) - 2 the ladder has 2 j + 2 versions
pub ladder_length : (j t : ℕ) → 2 ^ j ≤ t + 1 → t + 1 < 2 ^ suc j → length (ladder t) ≡ 2 * j + 2
ladder_length j t a b = rw ladder_start (let z = climb_length j t a b t 0 0 1 (omega arith) (omega arith) (omega arith) (omega arith) in omega arith)

-- ---- members

-- halving comes upon t, if t is not the lower end
halve_own : (f t lo hi : ℕ) → lo ≤ t → t < hi → hi ≤ suc (lo + f) → (t ≡ lo) ⊎ Memᴰ t (halve f t lo hi)
halve_own f t lo hi a b h = halve_by t (λ lo hi l. lo ≤ t → t < hi → (t ≡ lo) ⊎ Memᴰ t l)
    (λ lo hi p a b. let e : t ≡ lo = omega arith in inl e) (λ lo hi m l p e q ih a b. inr (⊎_elim Memᴰ.head Memᴰ.tail (ih q b)))
    (λ lo hi m l p e q ih a b. ⊎_elim inl (λ i. inr (Memᴰ.tail i)) (ih a q)) f lo hi h a b

-- so does the climb
climb_own : (f t lo v : ℕ) → lo ≤ t → t < v + f → (t ≡ lo) ⊎ Memᴰ t (climb (suc f) t lo v)
climb_own f t lo v a h = climb_by t (λ lo v l. lo ≤ t → (t ≡ lo) ⊎ Memᴰ t l)
    (λ lo v p a. ⊎_elim inl (λ i. inr (Memᴰ.tail i)) (halve_own v t lo v a p (omega arith)))
    (λ lo v l p ih a. inr (⊎_elim Memᴰ.head Memᴰ.tail (ih p))) f lo v h a

-- t is in the ladder of t
pub ladder_own : (t : ℕ) → Memᴰ t (ladder t)
ladder_own t = rw ladder_start (⊎_elim Memᴰ.head Memᴰ.tail (climb_own t t 0 1 (omega arith) (omega arith)))

-- different numbers between lo and hi
abbrev Between : ℕ → ℕ → List ℕ → Type 0
Between lo hi l = ((x : ℕ) → Memᴰ x l → (lo < x) × (x < hi)) × Nodup l

-- an empty list has only such numbers
between_nil : (lo hi : ℕ) → Between lo hi []
between_nil lo hi = (λ x i. absurd (Memᴰ.not-nil i), Nodup-nil)

-- before numbers between two ends may stand one that is not between them
between_cons : {lo hi m lo' hi' : ℕ} {l : List ℕ} → lo < m → m < hi → lo ≤ lo' → hi' ≤ hi → (lo' < m → hi' ≤ m) → Between lo' hi' l → Between lo hi (m ∷ l)
between_cons {m = m} a b c d o h = (
  λ x i. ⊎_elim (λ e. omega arith) (λ k. let y = h.0 x k in omega arith) (Memᴰ.cases_cons i),
  Nodup-cons.1 (λ i. ∥∥₁_elim i ⊥_prop (λ k. let y = h.0 m k in let z = o y.0 in omega arith), h.1),
)

-- halving gives different versions between its ends
halve_between : (f t lo hi : ℕ) → hi ≤ suc (lo + f) → Between lo hi (halve f t lo hi)
halve_between f t lo hi h = halve_by t Between (λ lo hi p. between_nil lo hi)
    (λ lo hi m l p e q. between_cons (omega arith) (omega arith) (omega arith) (omega arith) (λ z. omega arith))
    (λ lo hi m l p e q. between_cons (omega arith) (omega arith) (omega arith) (omega arith) (λ z. omega arith)) f lo hi h

-- a climb from v gives different versions above lo, none above 2 t + 1
climb_between : (f t lo v : ℕ) → lo < v → v ≤ 2 * t + 1 → t < v + f → Between lo (2 * t + 2) (climb (suc f) t lo v)
climb_between f t lo v a b h = climb_by t (λ lo v l. lo < v → v ≤ 2 * t + 1 → Between lo (2 * t + 2) l)
    (λ lo v p a b. between_cons a (omega arith) (omega arith) (omega arith) (λ z. omega arith) (halve_between v t lo v (omega arith)))
    (λ lo v l p ih a b. between_cons a (omega arith) (omega arith) (omega arith) (λ z. omega arith) (ih (omega arith) (omega arith))) f lo v h a b

-- after 0 a ladder has different versions from 1 to 2 t + 1
after_zero : (t : ℕ) → Between 0 (2 * t + 2) (climb (suc t) t 0 1)
after_zero t = climb_between t t 0 1 (omega arith) (omega arith) (omega arith)

-- no version of the ladder of t is above 2 t + 1
pub ladder_bound : (t v : ℕ) → Memᴰ v (ladder t) → v ≤ 2 * t + 1
ladder_bound t v i = ⊎_elim (λ e. omega arith) (λ k. let y = (after_zero t).0 v k in omega arith) (Memᴰ.cases_cons (rw ladder_start at i))

-- no version stands twice in a ladder
pub ladder_distinct : (t : ℕ) → Nodup (ladder t)
ladder_distinct t = rw ladder_start (Nodup-cons.1 (λ i. ∥∥₁_elim i ⊥_prop (λ k. let y = (after_zero t).0 0 k in omega arith), (after_zero t).1))

-- ---- where two ladders part

-- two lists agree up to and with a version above the one target and not above the other, and what
-- stands before it is not above both or above both
pub record Parted (t t' : ℕ) (a b : List ℕ) : Type 0 where
  pub before : List ℕ
  pub version : ℕ
  pub after : List ℕ
  pub after' : List ℕ
  pub first : a ≡ before ++ version ∷ after
  pub second : b ≡ before ++ version ∷ after'
  pub above : t < version
  pub upto : version ≤ t'
  pub alike : (x : ℕ) → Memᴰ x before → ((x ≤ t) × (x ≤ t')) ⊎ ((t < x) × (t' < x))

-- two lists part at their heads
parted_head : {t t' : ℕ} (x : ℕ) (a b : List ℕ) → t < x → x ≤ t' → Parted t t' (x ∷ a) (x ∷ b)
parted_head x a b h k = record {
  before = [];
  version = x;
  after = a;
  after' = b;
  first = refl;
  second = refl;
  above = h;
  upto = k;
  alike = λ y i. absurd (Memᴰ.not-nil i);
}

-- or after their heads
parted_tail : {t t' : ℕ} (x : ℕ) {a b : List ℕ} → ((x ≤ t) × (x ≤ t')) ⊎ ((t < x) × (t' < x)) → Parted t t' a b → Parted t t' (x ∷ a) (x ∷ b)
parted_tail {t} {t'} x s p = record {
  before = x ∷ p.before;
  version = p.version;
  after = p.after;
  after' = p.after';
  first = ap (λ (l : List ℕ). x ∷ l) p.first;
  second = ap (λ (l : List ℕ). x ∷ l) p.second;
  above = p.above;
  upto = p.upto;
  alike = λ y i. ⊎_elim (λ e. subst (λ (z : ℕ). ((z ≤ t) × (z ≤ t')) ⊎ ((t < z) × (t' < z))) (sym e) s) (p.alike y) (Memᴰ.cases_cons i);
}

-- two halvings between the same ends part, since their middles are the same until one tells the
-- targets apart
halve_parted : (f t t' lo hi : ℕ) → t < t' → lo ≤ t → t' < hi → hi ≤ suc (lo + f) → Parted t t' (halve f t lo hi) (halve f t' lo hi)
halve_parted zero t t' lo hi h a b c = absurd (omega arith)
halve_parted (suc f) t t' lo hi h a b c =
    go (dec_le m t) (dec_le m t') (λ z. halve_parted f t t' m hi h z b (omega arith)) (λ z. halve_parted f t t' lo m h a z (omega arith))
  where
    m : ℕ
    m = (lo + hi) / 2

    go : Dec (m ≤ t) → Dec (m ≤ t') → (m ≤ t → Parted t t' (halve f t m hi) (halve f t' m hi))
        → (t' < m → Parted t t' (halve f t lo m) (halve f t' lo m)) → Parted t t' (halve (suc f) t lo hi) (halve (suc f) t' lo hi)
    go (yes p) _ low high =
        rw (halve_low f t lo hi m (omega arith) refl p, halve_low f t' lo hi m (omega arith) refl (omega arith))
        (parted_tail m (inl (p, omega arith)) (low p))
    go (no p) (yes q) low high =
        rw (halve_high f t lo hi m (omega arith) refl (omega arith), halve_low f t' lo hi m (omega arith) refl q)
        (parted_head m (halve f t lo m) (halve f t' m hi) (omega arith) q)
    go (no p) (no q) low high =
        rw (halve_high f t lo hi m (omega arith) refl (omega arith), halve_high f t' lo hi m (omega arith) refl (omega arith))
        (parted_tail m (inr (omega arith, omega arith)) (high (omega arith)))

-- two climbs that end with one version part in the halving after it
over_parted : (f t t' lo v : ℕ) → t < t' → lo ≤ t → t' < v → Parted t t' (climb (suc f) t lo v) (climb (suc f) t' lo v)
over_parted f t t' lo v h a b =
    rw (climb_over f t lo v (omega arith), climb_over f t' lo v b)
    (parted_tail v (inr (omega arith, b)) (halve_parted v t t' lo v h a b (omega arith)))

-- two climbs from one version part, in the climb or in the halving after it
climb_parted : (f t t' lo v : ℕ) → t < t' → lo ≤ t → t' < v + f → Parted t t' (climb (suc f) t lo v) (climb (suc f) t' lo v)
climb_parted zero t t' lo v h a c = over_parted zero t t' lo v h a (omega arith)
climb_parted (suc f) t t' lo v h a c = go (dec_le v t) (dec_le v t') (λ z. climb_parted f t t' v (2 * v + 1) h z (omega arith))
  where
    go : Dec (v ≤ t) → Dec (v ≤ t') → (v ≤ t → Parted t t' (climb (suc f) t v (2 * v + 1)) (climb (suc f) t' v (2 * v + 1)))
        → Parted t t' (climb (suc (suc f)) t lo v) (climb (suc (suc f)) t' lo v)
    go (yes p) _ up = rw (climb_up (suc f) t lo v p, climb_up (suc f) t' lo v (omega arith)) (parted_tail v (inl (p, omega arith)) (up p))
    go (no p) (yes q) up =
        rw (climb_over (suc f) t lo v (omega arith), climb_up (suc f) t' lo v q)
        (parted_head v (halve v t lo v) (climb (suc f) t' v (2 * v + 1)) (omega arith) q)
    go (no p) (no q) up = over_parted (suc f) t t' lo v h a (omega arith)

-- the ladders of two targets agree up to and with the first version that is above the one and not
-- above the other
pub ladder_split : (t t' : ℕ) → t < t' → Parted t t' (ladder t) (ladder t')
ladder_split t t' h =
    rw (ladder_start t, ladder_start t', climb_fuel t t' t 0 1 (omega arith) (omega arith))
    (parted_tail 0 (inl (omega arith, omega arith)) (climb_parted t' t t' 0 1 h (omega arith) (omega arith)))
