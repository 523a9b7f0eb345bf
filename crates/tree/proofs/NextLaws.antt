-- Laws of the next of some entries (next_from of specs/SearchTree.antt), where the entries rise and
-- are below n, and of those from one on, one after the other.
use mathlib.Core.Path.{◌≡◌, refl, sym, ◌∙◌, ap}
use mathlib.Core.Logic.{◌⊎◌, inl, inr}
use mathlib.Core.Bool.{true, false}
use mathlib.Core.List.Memᴰ
use mathlib.Core.List.{List, [], ◌∷◌, Memᴰ}
use Prim.Native.Nat.{ℕ, min, ◌+◌, ◌≤◌, ◌<◌}
use native.Mathlib.Nat.{min-eq_left, min-eq_right}
use native.Mathlib.Omega.{arith}
use lib.Dec.{eqb, leb}
use lib.ListN.{length, get_or, drop}
use borrow.Author.Tests.{le-leb, lt-leb, eq-eqb, ne_eqb}
use Rattle.lists.specs.Choice.{choose}
use Rattle.lists.specs.Lists.{any, select, first, rising, insert_all}
use Rattle.lists.proofs.ListLaws.{at_any, any_none, select_here, select_later}
use Rattle.lists.proofs.RisingLaws.{rising_first, rising_tail, insert_all_has, insert_all_keeps, insert_all_only}
use Rattle.lists.proofs.RisingLaws.{insert_all_rising}
use Rattle.lines.proofs.OffsetLaws.{at_cons, at_end}
use Rattle.tree.specs.SearchTree.{next_from}
use Rattle.tree.proofs.DigitLaws.{by_order}

-- ---- one step

-- Of no entries none is next.
pub next_nil : (n x : ℕ) → next_from n [] x ≡ n
unfolding next_from first
next_nil n x = refl

-- A first entry that is not below x is next.
pub next_first : (n a x : ℕ) (l : List ℕ) → x ≤ a → next_from n (a ∷ l) x ≡ a
unfolding next_from first choose
next_first n a x l h = rw (le-leb x a h)

-- One below x is passed over.
pub next_later : (n a x : ℕ) (l : List ℕ) → a < x → next_from n (a ∷ l) x ≡ next_from n l x
unfolding next_from first choose
next_later n a x l h = rw (lt-leb x a h)

-- ---- which one it is

-- b is the entry from x on below which no other from x on stands
pub record Least (l : List ℕ) (x b : ℕ) : Type 0 where
  pub listed : Memᴰ b l
  pub from : x ≤ b
  pub least : (y : ℕ) → Memᴰ y l → x ≤ y → b ≤ y

-- b is that entry; or there is none from x on, and b is n
abbrev pub Next : ℕ → List ℕ → ℕ → ℕ → Type 0
Next n l x b = Least l x b ⊎ (((y : ℕ) → Memᴰ y l → y < x) × (b ≡ n))

-- The next of rising entries is that one.
pub next_is_lem : (n : ℕ) (l : List ℕ) (x b : ℕ) → rising l ≡ true → Next n l x b → next_from n l x ≡ b
next_is_lem n [] x b r (inl s) = absurd (Memᴰ.not-nil s.listed)
next_is_lem n [] x b r (inr (h, e)) = next_nil n x ∙ sym e
next_is_lem n (a ∷ l) x b r s = by_order a x
    (λ p. next_later n a x l p ∙ next_is_lem n l x b (rising_tail a l r) (without p s))
    (λ p. next_first n a x l p ∙ this p s)
  where
    without : a < x → Next n (a ∷ l) x b → Next n l x b
    without p (inl s) = inl (record { listed = later (Memᴰ.cases_cons s.listed); from = s.from; least = λ y m. s.least y (Memᴰ.tail m) })
      where
        later : (b ≡ a) ⊎ Memᴰ b l → Memᴰ b l
        later (inl e) = absurd (omega (arith, s.from))
        later (inr m) = m
    without p (inr (h, e)) = inr (λ y m. h y (Memᴰ.tail m), e)

    this : x ≤ a → Next n (a ∷ l) x b → a ≡ b
    this p (inl s) = here (Memᴰ.cases_cons s.listed)
      where
        here : (b ≡ a) ⊎ Memᴰ b l → a ≡ b
        here (inl e) = sym e
        here (inr m) = absurd (omega (arith, rising_first a l r b m, s.least a (Memᴰ.head refl) p))
    this p (inr (h, e)) = absurd (omega (arith, h a (Memᴰ.head refl)))

-- What is next of rising entries is such an entry.
pub next_found : (n : ℕ) (l : List ℕ) (x : ℕ) → rising l ≡ true → Next n l x (next_from n l x)
next_found n [] x r = inr (λ y m. absurd (Memᴰ.not-nil m), next_nil n x)
next_found n (a ∷ l) x r = by_order a x
    (λ p. rw (next_later n a x l p) (behind p (next_found n l x (rising_tail a l r))))
    (λ p. rw (next_first n a x l p) (inl (record { listed = Memᴰ.head refl; from = p; least = λ y m h. first-least y (Memᴰ.cases_cons m) })))
  where
    first-least : (y : ℕ) → (y ≡ a) ⊎ Memᴰ y l → a ≤ y
    first-least y (inl e) = omega arith
    first-least y (inr m) = let h = rising_first a l r y m in omega arith

    behind : a < x → Next n l x (next_from n l x) → Next n (a ∷ l) x (next_from n l x)
    behind p (inl s) = inl (record { listed = Memᴰ.tail s.listed; from = s.from; least = λ y m h. also y h (Memᴰ.cases_cons m) })
      where
        also : (y : ℕ) → x ≤ y → (y ≡ a) ⊎ Memᴰ y l → next_from n l x ≤ y
        also y h (inl e) = absurd (omega arith)
        also y h (inr m) = s.least y m h
    behind p (inr (h, e)) = inr (λ y m. also y (Memᴰ.cases_cons m), e)
      where
        also : (y : ℕ) → (y ≡ a) ⊎ Memᴰ y l → y < x
        also y (inl q) = omega arith
        also y (inr m) = h y m

-- ---- membership

-- An entry is listed if it is next from itself on.
pub listed_next : (n : ℕ) (l : List ℕ) (x : ℕ) → rising l ≡ true → x < n → any (eqb x) l ≡ eqb (next_from n l x) x
listed_next n l x r h = go (next_found n l x r)
  where
    b : ℕ
    b = next_from n l x

    go : Next n l x b → any (eqb x) l ≡ eqb b x
    go (inl s) = by_order x b
        (λ p. any_none (eqb x) l (λ y m. ne_eqb x y (λ e. omega (arith, s.least y m (omega arith)))) ∙ sym (ne_eqb b x (λ e. omega arith)))
        (λ p.
        let e : b ≡ x = omega (arith, s.from) in
        at_any (eqb x) l b s.listed (eq-eqb x b (sym e)) ∙ sym (eq-eqb b x e))
    go (inr (a, e)) = any_none (eqb x) l (λ y m. ne_eqb x y (λ q. omega (arith, a y m))) ∙ sym (ne_eqb b x (λ q. omega arith))

-- No entry is listed that is not below n.
pub listed_none : (n : ℕ) (l : List ℕ) (x : ℕ) → ((y : ℕ) → Memᴰ y l → y < n) → n ≤ x → any (eqb x) l ≡ false
listed_none n l x w h = any_none (eqb x) l (λ y m. ne_eqb x y (λ e. omega (arith, w y m)))

-- ---- from where

-- From n on none is next.
pub next_none : (n : ℕ) (l : List ℕ) (x : ℕ) → rising l ≡ true → ((y : ℕ) → Memᴰ y l → y < n) → n ≤ x → next_from n l x ≡ n
next_none n l x r w h = next_is_lem n l x n r (inr (λ y m. omega (arith, w y m), refl))

-- Where all entries are from z on, the next from x on, not above z, is the next from z on.
pub next_from_lem : (n : ℕ) (l : List ℕ) (x z : ℕ) → ((y : ℕ) → Memᴰ y l → z ≤ y) → x ≤ z → next_from n l x ≡ next_from n l z
next_from_lem n [] x z h p = next_nil n x ∙ sym (next_nil n z)
next_from_lem n (a ∷ l) x z h p =
    let q : z ≤ a = h a (Memᴰ.head refl) in
    next_first n a x l (omega arith) ∙ sym (next_first n a z l q)

-- What is next from x on is next from any entry between.
pub next_stays : (n : ℕ) (l : List ℕ) (x y : ℕ) → rising l ≡ true → x ≤ y → y ≤ next_from n l x → next_from n l x ≡ next_from n l y
next_stays n l x y r h k = sym (next_is_lem n l y (next_from n l x) r (go (next_found n l x r)))
  where
    go : Next n l x (next_from n l x) → Next n l y (next_from n l x)
    go (inl s) = inl (record { listed = s.listed; from = k; least = λ z m p. s.least z m (omega arith) })
    go (inr (f, e)) = inr (λ z m. omega (arith, f z m), e)

-- What is next is not below x, unless it is n.
pub next_above : (n x : ℕ) (l : List ℕ) → next_from n l x < n → x ≤ next_from n l x
next_above n x [] h = absurd (omega (arith, next_nil n x))
next_above n x (a ∷ l) h = by_order a x
    (λ p. rw (next_later n a x l p) (next_above n x l (rw (next_later n a x l p) at h)))
    (λ p. rw (next_first n a x l p) p)

-- ---- past the entries before a place

module _ (n x : ℕ) (l : List ℕ) (i : ℕ) (e : next_from n l x ≡ next_from n (drop i l) x) where
  -- Past the last entry none is next.
  pub next-end : length l ≤ i → n ≡ next_from n l x
  next-end h = sym (e ∙ ap (λ (z : List ℕ). next_from n z x) (at_end l i h) ∙ next_nil n x)

  module _ (h : i < length l) where
    -- The entry at the place is next, where it is not below x.
    pub next-at : x ≤ get_or l i 0 → get_or l i 0 ≡ next_from n l x
    next-at k = sym (e ∙ ap (λ (z : List ℕ). next_from n z x) (at_cons l i h) ∙ next_first n (get_or l i 0) x (drop (i + 1) l) k)

    -- Else it is passed over.
    pub next_past : get_or l i 0 < x → next_from n l x ≡ next_from n (drop (i + 1) l) x
    next_past k = e ∙ ap (λ (z : List ℕ). next_from n z x) (at_cons l i h) ∙ next_later n (get_or l i 0) x (drop (i + 1) l) k

-- ---- the entries from one on

-- those that are not below x
abbrev pub listed_from : ℕ → List ℕ → List ℕ
listed_from x l = select (λ (a : ℕ). leb x a) l

-- Of none there is none.
from_nil : (x : ℕ) → listed_from x [] ≡ []
unfolding select
from_nil x = refl

-- A first entry that is not below x is one of them.
from_first : (a x : ℕ) (l : List ℕ) → x ≤ a → listed_from x (a ∷ l) ≡ a ∷ listed_from x l
from_first a x l h = select_here (λ (a : ℕ). leb x a) a l (le-leb x a h)

-- One below x is left out.
from_later : (a x : ℕ) (l : List ℕ) → a < x → listed_from x (a ∷ l) ≡ listed_from x l
from_later a x l h = select_later (λ (a : ℕ). leb x a) a l (lt-leb x a h)

-- Where no entry is below x, they are all entries.
pub from_all : (x : ℕ) (l : List ℕ) → ((a : ℕ) → Memᴰ a l → x ≤ a) → listed_from x l ≡ l
from_all x [] h = from_nil x
from_all x (a ∷ l) h = from_first a x l (h a (Memᴰ.head refl)) ∙ ap (◌∷◌ a) (from_all x l (λ b m. h b (Memᴰ.tail m)))

-- Where none is next, none is left.
pub from_none : (n x : ℕ) (l : List ℕ) → ((a : ℕ) → Memᴰ a l → a < n) → n ≤ next_from n l x → listed_from x l ≡ []
from_none n x [] w h = from_nil x
from_none n x (a ∷ l) w h = by_order a x
    (λ p. from_later a x l p ∙ from_none n x l (λ b m. w b (Memᴰ.tail m)) (rw (next_later n a x l p) at h))
    (λ p. absurd (omega (arith, next_first n a x l p, w a (Memᴰ.head refl))))

-- Else what is next is the first of them, and those after it follow.
pub from_next : (n x : ℕ) (l : List ℕ) → rising l ≡ true → next_from n l x < n → listed_from x l ≡ next_from n l x ∷ listed_from (next_from n l x + 1) l
from_next n x [] r h = absurd (omega (arith, next_nil n x))
from_next n x (a ∷ l) r h = by_order a x
    (λ p.
    let k : next_from n l x < n = rw (next_later n a x l p) at h in
    let b = next_above n x l k in
    rw (next_later n a x l p, from_later a (next_from n l x + 1) l (omega arith)) (from_later a x l p ∙ from_next n x l (rising_tail a l r) k))
    (λ p.
    let above : (b : ℕ) → Memᴰ b l → a + 1 ≤ b = λ b m. omega (arith, rising_first a l r b m) in
    rw (next_first n a x l p, from_later a (a + 1) l (omega arith))
    (from_first a x l p ∙ ap (◌∷◌ a) (from_all x l (λ b m. omega (arith, above b m)) ∙ sym (from_all (a + 1) l above))))

-- ---- entries put together

-- The least of a list is the least of it put into another, where none of the other is less.
least_inserted : {xs : List ℕ} {x a : ℕ} (ys : List ℕ) → Least xs x a → ((y : ℕ) → Memᴰ y ys → x ≤ y → a ≤ y) → Least (insert_all xs ys) x a
least_inserted {xs} {x} {a} ys s h = record { listed = insert_all_has xs ys a s.listed; from = s.from; least = λ y m. go y (insert_all_only xs ys y m) }
  where
    go : (y : ℕ) → Memᴰ y xs ⊎ Memᴰ y ys → x ≤ y → a ≤ y
    go y (inl m) = s.least y m
    go y (inr m) = h y m

-- The least of a list is the least of it with another put in, where none of the other is less.
least_kept : {ys : List ℕ} {x b : ℕ} (xs : List ℕ) → Least ys x b → ((y : ℕ) → Memᴰ y xs → x ≤ y → b ≤ y) → Least (insert_all xs ys) x b
least_kept {ys} {x} {b} xs s h = record { listed = insert_all_keeps xs ys b s.listed; from = s.from; least = λ y m. go y (insert_all_only xs ys y m) }
  where
    go : (y : ℕ) → Memᴰ y xs ⊎ Memᴰ y ys → x ≤ y → b ≤ y
    go y (inl m) = h y m
    go y (inr m) = s.least y m

-- The next of two lists put together is the smaller of their nexts.
pub next_together : (n : ℕ) (xs ys : List ℕ) (x : ℕ) → rising xs ≡ true → rising ys ≡ true → ((y : ℕ) → Memᴰ y xs → y < n)
    → ((y : ℕ) → Memᴰ y ys → y < n) → next_from n (insert_all xs ys) x ≡ min (next_from n xs x) (next_from n ys x)
next_together n xs ys x rx ry wx wy =
    next_is_lem n (insert_all xs ys) x (min a b) (insert_all_rising xs ys ry) (go (next_found n xs x rx) (next_found n ys x ry))
  where
    a : ℕ
    a = next_from n xs x

    b : ℕ
    b = next_from n ys x

    left : a ≤ b → Least xs x a → ((y : ℕ) → Memᴰ y ys → x ≤ y → a ≤ y) → Next n (insert_all xs ys) x (min a b)
    left p s h = rw (min-eq_left p) (inl (least_inserted ys s h))

    right : b ≤ a → Least ys x b → ((y : ℕ) → Memᴰ y xs → x ≤ y → b ≤ y) → Next n (insert_all xs ys) x (min a b)
    right p s h = rw (min-eq_right p) (inl (least_kept xs s h))

    go : Next n xs x a → Next n ys x b → Next n (insert_all xs ys) x (min a b)
    go (inl s) (inl t) = by_order a b
        (λ p. left (omega arith) s (λ y m h. omega (arith, t.least y m h)))
        (λ p. right p t (λ y m h. omega (arith, s.least y m h)))
    go (inl s) (inr (h, e)) = left (omega (arith, wx a s.listed)) s (λ y m l. absurd (omega (arith, h y m)))
    go (inr (h, e)) (inl t) = right (omega (arith, wy b t.listed)) t (λ y m l. absurd (omega (arith, h y m)))
    go (inr (h, e)) (inr (k, f)) =
        let m : min a b ≡ n = min-eq_left (omega arith) ∙ e in
        inr (λ y i. none y (insert_all_only xs ys y i), m)
      where
        none : (y : ℕ) → Memᴰ y xs ⊎ Memᴰ y ys → y < x
        none y (inl i) = h y i
        none y (inr i) = k y i
