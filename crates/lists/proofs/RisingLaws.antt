-- Laws of rising lists: their members, their last, and numbers put into them (specs/Lists.antt).
use mathlib.Core.Path.{◌≡◌, refl, sym, ap₂}
use mathlib.Core.Logic.{◌⊎◌, inl, inr, ⊎_elim}
use mathlib.Core.Bool.{true, ◌&&◌}
use mathlib.Core.List.Memᴰ
use mathlib.Core.List.{List, [], ◌∷◌, Memᴰ}
use Prim.Native.Nat.{ℕ, zero, suc, ◌+◌, ◌≤◌, ◌<◌}
use native.Mathlib.Decide.{dec_lt}
use native.Mathlib.Omega.{arith}
use lib.Dec.{ltb}
use lib.ListN.{length, get_or}
use borrow.Author.Tests.{lt-ltb, le-ltb, ltb-true, eq-eqb, ne_eqb}
use Rattle.lists.specs.Choice.{choose}
use Rattle.lists.specs.Lists.{last_or, rising, insert, insert_all}
use Rattle.lists.proofs.ChoiceLaws.{and_holds}
use Rattle.lists.proofs.ListLaws.{rising_cons, at_member}

-- ---- members

-- Without its first element a rising list rises.
pub rising_tail : (x : ℕ) (l : List ℕ) → rising (x ∷ l) ≡ true → rising l ≡ true
unfolding rising
rising_tail x [] r = refl
rising_tail x (y ∷ l) r = (and_holds (ltb x y) (rising (y ∷ l)) r).1

-- The first element of a rising list is below all others.
pub rising_first : (x : ℕ) (l : List ℕ) → rising (x ∷ l) ≡ true → (y : ℕ) → Memᴰ y l → x < y
unfolding rising
rising_first x [] r y m = absurd (Memᴰ.not-nil m)
rising_first x (z ∷ l) r y m =
    let (a, b) = and_holds (ltb x z) (rising (z ∷ l)) r in
    go (ltb-true x z a) (λ k. rising_first z l b y k) (Memᴰ.cases_cons m)
  where
    go : x < z → (Memᴰ y l → z < y) → (y ≡ z) ⊎ Memᴰ y l → x < y
    go a f (inl e) = omega arith
    go a f (inr k) = let b = f k in omega arith

-- The member of a rising list that no other is above is its last.
pub last_largest : (d a : ℕ) (l : List ℕ) → rising l ≡ true → Memᴰ a l → ((y : ℕ) → Memᴰ y l → y ≤ a) → last_or d l ≡ a
unfolding last_or
last_largest d a [] r m h = absurd (Memᴰ.not-nil m)
last_largest d a (x ∷ []) r m h = sym (Memᴰ.eq_of_singleton m)
last_largest d a (x ∷ y ∷ l) r m h =
    go (Memᴰ.cases_cons m) (λ k. last_largest x a (y ∷ l) (rising_tail x (y ∷ l) r) k (λ z i. h z (Memᴰ.tail i)))
  where
    go : (a ≡ x) ⊎ Memᴰ a (y ∷ l) → (Memᴰ a (y ∷ l) → last_or y l ≡ a) → last_or y l ≡ a
    go (inl e) f = absurd (omega (arith, h y (Memᴰ.tail (Memᴰ.head refl)), rising_first x (y ∷ l) r y (Memᴰ.head refl)))
    go (inr k) f = f k

-- A list without members is empty, and has no last.
pub last_none : (d : ℕ) (l : List ℕ) → ((y : ℕ) → Memᴰ y l → ⊥) → last_or d l ≡ d
unfolding last_or
last_none d [] h = refl
last_none d (x ∷ l) h = absurd (h x (Memᴰ.head refl))

-- Rising lists with the same members are equal.
pub same_members : (xs ys : List ℕ) → rising xs ≡ true → rising ys ≡ true → ((a : ℕ) → Memᴰ a xs → Memᴰ a ys)
    → ((a : ℕ) → Memᴰ a ys → Memᴰ a xs) → xs ≡ ys
same_members [] [] rx ry f g = refl
same_members [] (y ∷ ys) rx ry f g = absurd (Memᴰ.not-nil (g y (Memᴰ.head refl)))
same_members (x ∷ xs) [] rx ry f g = absurd (Memᴰ.not-nil (f x (Memᴰ.head refl)))
same_members (x ∷ xs) (y ∷ ys) rx ry f g =
    ap₂ ◌∷◌ first
    (same_members xs ys (rising_tail x xs rx) (rising_tail y ys ry) (λ a m. after x y xs ys rx first f a m)
    (λ a m. after y x ys xs ry (sym first) g a m))
  where
    after : (x y : ℕ) (xs ys : List ℕ) → rising (x ∷ xs) ≡ true → x ≡ y → ((a : ℕ) → Memᴰ a (x ∷ xs) → Memᴰ a (y ∷ ys))
        → (a : ℕ) → Memᴰ a xs → Memᴰ a ys
    after x y xs ys r e f a m =
        ⊎_elim (λ q. absurd (omega (arith, rising_first x xs r a m))) (λ k. k) (Memᴰ.cases_cons (f a (Memᴰ.tail m)))

    first : x ≡ y
    first = go (Memᴰ.cases_cons (f x (Memᴰ.head refl))) (Memᴰ.cases_cons (g y (Memᴰ.head refl)))
      where
        go : (x ≡ y) ⊎ Memᴰ x ys → (y ≡ x) ⊎ Memᴰ y xs → x ≡ y
        go (inl e) k = e
        go (inr m) (inl e) = sym e
        go (inr m) (inr k) = absurd (omega (arith, rising_first x xs rx y k, rising_first y ys ry x m))

-- ---- one number put in

-- A number below the first comes first.
insert_below : (x y : ℕ) (l : List ℕ) → x < y → insert x (y ∷ l) ≡ x ∷ y ∷ l
unfolding insert choose
insert_below x y l h = rw (lt-ltb x y h)

-- One that is there already is not put twice.
insert_same : (x y : ℕ) (l : List ℕ) → x ≡ y → insert x (y ∷ l) ≡ y ∷ l
unfolding insert choose
insert_same x y l h = rw (le-ltb x y (omega arith), eq-eqb x y h)

-- A number above the first comes after it.
insert_above : (x y : ℕ) (l : List ℕ) → y < x → insert x (y ∷ l) ≡ y ∷ insert x l
unfolding insert choose
insert_above x y l h = rw (le-ltb x y (omega arith), ne_eqb x y (λ e. omega arith))

-- Into an empty list it is put alone.
insert_nil : (x : ℕ) → insert x [] ≡ x ∷ []
unfolding insert
insert_nil x = refl

-- A number is below another, equal to it, or above it.
by_three : {A : Type 0} (x y : ℕ) → (x < y → A) → (x ≡ y → A) → (y < x → A) → A
by_three {A} x y f g h = go (dec_lt x y) (dec_lt y x)
  where
    go : Dec (x < y) → Dec (y < x) → A
    go (yes p) _ = f p
    go (no p) (yes q) = h q
    go (no p) (no q) = g (omega arith)

-- A number put into a list is there.
pub insert_has : (x : ℕ) (l : List ℕ) → Memᴰ x (insert x l)
insert_has x [] = rw (insert_nil x) (Memᴰ.head refl)
insert_has x (y ∷ l) = by_three x y
    (λ h. rw (insert_below x y l h) (Memᴰ.head refl))
    (λ h. rw (insert_same x y l h) (Memᴰ.head h))
    (λ h. rw (insert_above x y l h) (Memᴰ.tail (insert_has x l)))

-- The others stay.
pub insert_keeps : (x a : ℕ) (l : List ℕ) → Memᴰ a l → Memᴰ a (insert x l)
insert_keeps x a [] m = absurd (Memᴰ.not-nil m)
insert_keeps x a (y ∷ l) m = by_three x y
    (λ h. rw (insert_below x y l h) (Memᴰ.tail m))
    (λ h. rw (insert_same x y l h) m)
    (λ h. rw (insert_above x y l h) (⊎_elim Memᴰ.head (λ k. Memᴰ.tail (insert_keeps x a l k)) (Memᴰ.cases_cons m)))

-- No more comes in.
pub insert_only : (x a : ℕ) (l : List ℕ) → Memᴰ a (insert x l) → (a ≡ x) ⊎ Memᴰ a l
insert_only x a [] m = inl (Memᴰ.eq_of_singleton (rw (insert_nil x) at m))
insert_only x a (y ∷ l) m = by_three x y
    (λ h. Memᴰ.cases_cons (rw (insert_below x y l h) at m))
    (λ h. inr (rw (insert_same x y l h) at m))
    (λ h.
    ⊎_elim (λ e. inr (Memᴰ.head e)) (λ k. ⊎_elim inl (λ i. inr (Memᴰ.tail i)) (insert_only x a l k))
    (Memᴰ.cases_cons (rw (insert_above x y l h) at m)))

-- A rising list still rises.
pub insert_rising : (x : ℕ) (l : List ℕ) → rising l ≡ true → rising (insert x l) ≡ true
unfolding rising
insert_rising x [] r = rw (insert_nil x)
insert_rising x (y ∷ l) r = by_three x y
    (λ h. rw (insert_below x y l h, lt-ltb x y h) r)
    (λ h. rw (insert_same x y l h) r)
    (λ h. rw (insert_above x y l h)
    (rising_cons y (insert x l) (λ z m. after h z (insert_only x z l m)) (insert_rising x l (rising_tail y l r))))
  where
    after : y < x → (z : ℕ) → (z ≡ x) ⊎ Memᴰ z l → y < z
    after h z (inl e) = omega arith
    after h z (inr k) = rising_first y l r z k

-- It makes a list longer by one at most.
insert_length : (x : ℕ) (l : List ℕ) → length (insert x l) ≤ suc (length l)
insert_length x [] = rw (insert_nil x) (omega arith)
insert_length x (y ∷ l) = by_three x y
    (λ h. rw (insert_below x y l h) (omega arith))
    (λ h. rw (insert_same x y l h) (omega arith))
    (λ h. rw (insert_above x y l h) (omega (arith, insert_length x l)))

-- ---- all numbers of a list put in

-- Nothing put in leaves the list.
insert_all_nil : (ys : List ℕ) → insert_all [] ys ≡ ys
unfolding insert_all
insert_all_nil ys = refl

-- The first is put in after the others.
insert_all_cons : (x : ℕ) (xs ys : List ℕ) → insert_all (x ∷ xs) ys ≡ insert x (insert_all xs ys)
unfolding insert_all
insert_all_cons x xs ys = refl

-- All of the first list are there.
pub insert_all_has : (xs ys : List ℕ) (a : ℕ) → Memᴰ a xs → Memᴰ a (insert_all xs ys)
insert_all_has [] ys a m = absurd (Memᴰ.not-nil m)
insert_all_has (x ∷ xs) ys a m = rw (insert_all_cons x xs ys)
    (⊎_elim (λ e. rw e (insert_has x (insert_all xs ys)))
    (λ k. insert_keeps x a (insert_all xs ys) (insert_all_has xs ys a k)) (Memᴰ.cases_cons m))

-- All of the second list stay.
pub insert_all_keeps : (xs ys : List ℕ) (a : ℕ) → Memᴰ a ys → Memᴰ a (insert_all xs ys)
insert_all_keeps [] ys a m = rw (insert_all_nil ys) m
insert_all_keeps (x ∷ xs) ys a m =
    rw (insert_all_cons x xs ys) (insert_keeps x a (insert_all xs ys) (insert_all_keeps xs ys a m))

-- No more comes in.
pub insert_all_only : (xs ys : List ℕ) (a : ℕ) → Memᴰ a (insert_all xs ys) → Memᴰ a xs ⊎ Memᴰ a ys
insert_all_only [] ys a m = inr (rw (insert_all_nil ys) at m)
insert_all_only (x ∷ xs) ys a m =
    ⊎_elim (λ e. inl (Memᴰ.head e)) (λ k. ⊎_elim (λ i. inl (Memᴰ.tail i)) inr (insert_all_only xs ys a k))
    (insert_only x a (insert_all xs ys) (rw (insert_all_cons x xs ys) at m))

-- A rising list still rises.
pub insert_all_rising : (xs ys : List ℕ) → rising ys ≡ true → rising (insert_all xs ys) ≡ true
insert_all_rising [] ys r = rw (insert_all_nil ys) r
insert_all_rising (x ∷ xs) ys r =
    rw (insert_all_cons x xs ys) (insert_rising x (insert_all xs ys) (insert_all_rising xs ys r))

-- They make a list longer by their number at most.
pub insert_all_length : (xs ys : List ℕ) → length (insert_all xs ys) ≤ length xs + length ys
insert_all_length [] ys = rw (insert_all_nil ys) (omega arith)
insert_all_length (x ∷ xs) ys =
    rw (insert_all_cons x xs ys) (omega (arith, insert_length x (insert_all xs ys), insert_all_length xs ys))

-- ---- elements by their numbers

-- of two elements of a rising list the later is above
pub rising_at : (l : List ℕ) (i j : ℕ) → rising l ≡ true → i < j → j < length l → get_or l i 0 < get_or l j 0
rising_at [] i j r h k = absurd (omega arith)
rising_at (x ∷ l) i zero r h k = absurd (omega arith)
rising_at (x ∷ l) zero (suc j) r h k = rising_first x l r (get_or l j 0) (at_member l j 0 (omega arith))
rising_at (x ∷ l) (suc i) (suc j) r h k = rising_at l i j (rising_tail x l r) (omega arith) (omega arith)

-- two and more rise where the first is below the second and the others rise
pub rising_two : (x y : ℕ) (l : List ℕ) → rising (x ∷ y ∷ l) ≡ (ltb x y && rising (y ∷ l))
unfolding rising
rising_two x y l = refl

-- a list of one element rises, and an empty one
pub short_rises : (l : List ℕ) → length l ≤ 1 → rising l ≡ true
unfolding rising
short_rises [] h = refl
short_rises (x ∷ []) h = refl
short_rises (x ∷ y ∷ l) h = absurd (omega arith)
