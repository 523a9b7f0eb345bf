-- Laws of tests on lists (specs/Lists.antt).
use mathlib.Core.Path.{◌≡◌, refl, sym, ◌∙◌, ap, ap₂}
use mathlib.Core.Logic.{◌⊎◌, inl, inr, ⊎_elim}
use mathlib.Core.Bool.{Bool, true, false, ◌&&◌, ◌||◌, false≢true}
use mathlib.Core.List.Memᴰ
use mathlib.Core.List.{List, [], ◌∷◌, ◌++◌, map, Memᴰ}
use mathlib.Core.Option.{some, some-injective, none-ne-some}
use Prim.Native.Nat.{ℕ, zero, suc, ◌≤◌, ◌<◌}
use native.Mathlib.Omega.{arith}
use lib.Dec.{eqb, ltb}
use lib.ListN.{length, get_or, take, set, replicate}
use borrow.Author.Tests.{eq-eqb, eqb-true, lt-ltb}
use Rattle.lists.specs.Choice.{choose}
use Rattle.lists.specs.Lists.{all, every, any, select, first, last_or, all_but_last, same, rising, largest}
use Rattle.lists.proofs.ChoiceLaws.{and_holds, holds_and, or_holds, never_holds, choose_true}
use Rattle.lists.proofs.ChoiceLaws.{choose_false}

-- ---- tests on lists

-- a test that holds of all elements holds of the first and of all others
pub all_cons : {A : Type 0} (f : A → Bool) (x : A) (xs : List A) → all f (x ∷ xs) ≡ true → (f x ≡ true)
    × (all f xs ≡ true)
unfolding all
all_cons f x xs e = and_holds (f x) (all f xs) e

-- a test that holds of the first and of all others holds of all
pub cons_all : {A : Type 0} (f : A → Bool) (x : A) (xs : List A) → f x ≡ true → all f xs ≡ true → all f (x ∷ xs) ≡ true
unfolding all
cons_all f x xs p q = holds_and (f x) (all f xs) p q

-- a test that holds of all elements holds of each
pub all_at : {A : Type 0} (f : A → Bool) (xs : List A) (x : A) → all f xs ≡ true → Memᴰ x xs → f x ≡ true
all_at f [] x e i = absurd (Memᴰ.not-nil i)
all_at f (y ∷ ys) x e i = let h = all_cons f y ys e in go h.0 (λ j. all_at f ys x h.1 j) (Memᴰ.cases_cons i)
  where
    go : f y ≡ true → (Memᴰ x ys → f x ≡ true) → (x ≡ y) ⊎ Memᴰ x ys → f x ≡ true
    go p q (inl z) = ap f z ∙ p
    go p q (inr j) = q j

-- a test that holds of each element holds of all
pub at_all : {A : Type 0} (f : A → Bool) (xs : List A) → ((x : A) → Memᴰ x xs → f x ≡ true) → all f xs ≡ true
unfolding all
at_all f [] h = refl
at_all f (y ∷ ys) h = holds_and (f y) (all f ys) (h y (Memᴰ.head refl)) (at_all f ys (λ x i. h x (Memᴰ.tail i)))

-- a test holds of all elements of two lists one after the other if it holds of all elements of each
pub all_append : {A : Type 0} (f : A → Bool) (xs ys : List A) → all f xs ≡ true → all f ys ≡ true
    → all f (xs ++ ys) ≡ true
all_append f [] ys p q = q
all_append f (x ∷ xs) ys p q = let h = all_cons f x xs p in cons_all f x (xs ++ ys) h.0 (all_append f xs ys h.1 q)

-- where one test implies another, the other holds of all elements of which the one does
pub all_implied : {A : Type 0} (f g : A → Bool) (xs : List A) → ((x : A) → f x ≡ true → g x ≡ true) → all f xs ≡ true
    → all g xs ≡ true
unfolding all
all_implied f g [] h e = refl
all_implied f g (x ∷ xs) h e =
    let p = all_cons f x xs e in
    holds_and (g x) (all g xs) (h x p.0) (all_implied f g xs h p.1)

-- a test that holds of one element more holds of all as before
pub all_with : {A : Type 0} (f : A → Bool) (xs : List A) (x : A) → f x ≡ true → all f (xs ++ x ∷ []) ≡ all f xs
unfolding all
all_with f [] x e = rw e refl
all_with f (y ∷ xs) x e = ap (λ (t : Bool). f y && t) (all_with f xs x e)

-- one that does not hold of an element more does not hold of all
pub all_without : {A : Type 0} (f : A → Bool) (xs : List A) (x : A) → f x ≡ false → all f (xs ++ x ∷ []) ≡ false
all_without f xs x e =
    never_holds (all f (xs ++ x ∷ []))
    (λ t. false≢true (sym e ∙ all_at f (xs ++ x ∷ []) x t (Memᴰ.append_right xs (Memᴰ.head refl))))

-- what is made of an element, which comes first here, is among what is made of the elements
placed : {A B : Type 0} (f : A → B) (x : A) (xs : List A) → Memᴰ x xs → Memᴰ (f x) (map f xs)
placed f x xs (Memᴰ.head e) = Memᴰ.head (ap f e)
placed f x xs (Memᴰ.tail {xs = ys} m) = Memᴰ.tail (placed f x ys m)

-- what is made of an element is among what is made of the elements
pub mapped_at : {A B : Type 0} (f : A → B) (xs : List A) (x : A) → Memᴰ x xs → Memᴰ (f x) (map f xs)
mapped_at f xs x m = placed f x xs m

-- a test that holds of what is made of each element holds of all that is made
pub all_mapped : {A B : Type 0} (t : B → Bool) (f : A → B) (xs : List A) → ((x : A) → Memᴰ x xs → t (f x) ≡ true)
    → all t (map f xs) ≡ true
unfolding all
all_mapped t f [] h = refl
all_mapped t f (x ∷ xs) h = rw (h x (Memᴰ.head refl)) (all_mapped t f xs (λ y m. h y (Memᴰ.tail m)))

-- a test that holds of any element holds of one that is there
pub any_at : {A : Type 0} (f : A → Bool) (xs : List A) → any f xs ≡ true → (x : A) × Memᴰ x xs × (f x ≡ true)
unfolding any
any_at f [] e = absurd (false≢true e)
any_at {A} f (y ∷ ys) e = go (any_at f ys) (or_holds (f y) (any f ys) e)
  where
    go : (any f ys ≡ true → (x : A) × Memᴰ x ys × (f x ≡ true)) → (f y ≡ true) ⊎ (any f ys ≡ true) → (x : A)
        × Memᴰ x (y ∷ ys) × (f x ≡ true)
    go q (inl p) = (y, Memᴰ.head refl, p)
    go q (inr p) = let (x, i, h) = q p in (x, Memᴰ.tail i, h)

-- a test that holds of one element holds of any
pub at_any : {A : Type 0} (f : A → Bool) (xs : List A) (x : A) → Memᴰ x xs → f x ≡ true → any f xs ≡ true
unfolding any
at_any f [] x i e = absurd (Memᴰ.not-nil i)
at_any f (y ∷ ys) x i e = go (f y) refl (λ j. at_any f ys x j e) (Memᴰ.cases_cons i)
  where
    go : (t : Bool) → f y ≡ t → (Memᴰ x ys → any f ys ≡ true) → (x ≡ y) ⊎ Memᴰ x ys → (t || any f ys) ≡ true
    go true p q i = refl
    go false p q (inl z) = absurd (false≢true (sym p ∙ ap f (sym z) ∙ e))
    go false p q (inr j) = q j

-- a test that fails of each element fails of any
pub any_none : {A : Type 0} (f : A → Bool) (xs : List A) → ((x : A) → Memᴰ x xs → f x ≡ false) → any f xs ≡ false
unfolding any
any_none f [] h = refl
any_none f (y ∷ ys) h = rw (h y (Memᴰ.head refl)) (any_none f ys (λ x i. h x (Memᴰ.tail i)))

-- the first of which a test holds is the first element, where it holds of that
pub first_here : {A : Type 0} (f : A → Bool) (x : A) (xs : List A) → f x ≡ true → first f (x ∷ xs) ≡ some x
unfolding first
first_here f x xs e = choose_true (f x) (λ _. some x) (λ _. first f xs) e

-- where it does not, it is one of the others
pub first_later : {A : Type 0} (f : A → Bool) (x : A) (xs : List A) → f x ≡ false → first f (x ∷ xs) ≡ first f xs
unfolding first
first_later f x xs e = choose_false (f x) (λ _. some x) (λ _. first f xs) e

-- it is an element of the list
pub first_listed : {A : Type 0} (f : A → Bool) (xs : List A) (x : A) → first f xs ≡ some x → Memᴰ x xs
unfolding first choose
first_listed f [] x e = absurd (none-ne-some x e)
first_listed f (y ∷ ys) x e = go (f y) (first_listed f ys x) e
  where
    go : (t : Bool) → (first f ys ≡ some x → Memᴰ x ys) → choose t (λ _. some y) (λ _. first f ys) ≡ some x
        → Memᴰ x (y ∷ ys)
    go true ih q = Memᴰ.head (sym (some-injective y x q))
    go false ih q = Memᴰ.tail (ih q)

-- where all tests of a list hold, the first and all others do
pub every_cons : (b : Bool) (bs : List Bool) → every (b ∷ bs) ≡ true → (b ≡ true) × (every bs ≡ true)
unfolding every
every_cons b bs e = and_holds b (every bs) e

-- ---- elements of which a test holds

-- the first is among them, where it holds of that
pub select_here : {A : Type 0} (f : A → Bool) (x : A) (xs : List A) → f x ≡ true → select f (x ∷ xs) ≡ x ∷ select f xs
unfolding select
select_here f x xs e = choose_true (f x) (λ _. x ∷ select f xs) (λ _. select f xs) e

-- else they are all among the others
pub select_later : {A : Type 0} (f : A → Bool) (x : A) (xs : List A) → f x ≡ false → select f (x ∷ xs) ≡ select f xs
unfolding select
select_later f x xs e = choose_false (f x) (λ _. x ∷ select f xs) (λ _. select f xs) e

-- the test holds of each of them
pub select_holds : {A : Type 0} (f : A → Bool) (xs : List A) (a : A) → Memᴰ a (select f xs) → f a ≡ true
unfolding select
select_holds f [] a m = absurd (Memᴰ.not-nil m)
select_holds f (x ∷ xs) a m = go (f x) refl m (select_holds f xs a)
  where
    go : (t : Bool) → f x ≡ t → Memᴰ a (select f (x ∷ xs)) → (Memᴰ a (select f xs) → f a ≡ true) → f a ≡ true
    go true e m ih = ⊎_elim (λ z. ap f z ∙ e) ih (Memᴰ.cases_cons (rw (select_here f x xs e) at m))
    go false e m ih = ih (rw (select_later f x xs e) at m)

-- they are no more than all
pub select_length : {A : Type 0} (f : A → Bool) (xs : List A) → length (select f xs) ≤ length xs
unfolding select
select_length f [] = omega arith
select_length f (x ∷ xs) = go (f x) refl (select_length f xs)
  where
    go : (t : Bool) → f x ≡ t → length (select f xs) ≤ length xs → length (select f (x ∷ xs)) ≤ length (x ∷ xs)
    go true e ih = rw (select_here f x xs e) (omega arith)
    go false e ih = rw (select_later f x xs e) (omega arith)

-- a test that implies another selects no more
select_more : {A : Type 0} (f g : A → Bool) (xs : List A) → ((x : A) → f x ≡ true → g x ≡ true)
    → length (select f xs) ≤ length (select g xs)
unfolding select choose
select_more f g [] h = omega arith
select_more f g (x ∷ xs) h = go (f x) (g x) (h x) (select_more f g xs h)
  where
    go : (s t : Bool) → (s ≡ true → t ≡ true) → length (select f xs) ≤ length (select g xs)
        → length (choose s (λ _. x ∷ select f xs) (λ _. select f xs)) ≤ length
        (choose t (λ _. x ∷ select g xs) (λ _. select g xs))
    go true true k l = omega arith
    go true false k l = absurd (false≢true (k refl))
    go false true k l = omega arith
    go false false k l = l

-- and fewer, where the other holds of an element of which it does not
pub select_fewer : {A : Type 0} (f g : A → Bool) (xs : List A) (a : A) → ((x : A) → f x ≡ true → g x ≡ true) → Memᴰ a xs
    → f a ≡ false → g a ≡ true
    → length (select f xs) < length (select g xs)
unfolding select choose
select_fewer f g [] a h m p q = absurd (Memᴰ.not-nil m)
select_fewer f g (x ∷ xs) a h m p q =
    go (f x) (g x) refl refl (h x) (λ k. select_fewer f g xs a h k p q) (Memᴰ.cases_cons m)
  where
    go : (s t : Bool) → f x ≡ s → g x ≡ t → (s ≡ true → t ≡ true)
        → (Memᴰ a xs → length (select f xs) < length (select g xs))
        → (a ≡ x) ⊎ Memᴰ a xs
        → length (choose s (λ _. x ∷ select f xs) (λ _. select f xs)) < length
        (choose t (λ _. x ∷ select g xs) (λ _. select g xs))
    go true true c d k ih (inl e) = absurd (false≢true (sym p ∙ ap f e ∙ c))
    go true true c d k ih (inr i) = omega (arith, ih i)
    go true false c d k ih i = absurd (false≢true (k refl))
    go false true c d k ih i = omega (arith, select_more f g xs h)
    go false false c d k ih (inl e) = absurd (false≢true (sym d ∙ ap g (sym e) ∙ q))
    go false false c d k ih (inr i) = ih i

-- ---- equal lists

-- a list is the same as itself
pub same_refl : (xs : List ℕ) → same xs xs ≡ true
unfolding same
same_refl [] = refl
same_refl (x ∷ xs) = holds_and (eqb x x) (same xs xs) (eq-eqb x x refl) (same_refl xs)

-- lists that are the same are equal
pub same_true : (xs ys : List ℕ) → same xs ys ≡ true → xs ≡ ys
unfolding same
same_true [] [] e = refl
same_true [] (y ∷ ys) e = absurd (false≢true e)
same_true (x ∷ xs) [] e = absurd (false≢true e)
same_true (x ∷ xs) (y ∷ ys) e =
    let h = and_holds (eqb x y) (same xs ys) e in
    ap₂ ◌∷◌ (eqb-true x y h.0) (same_true xs ys h.1)

-- equal lists are the same
pub equal_same : (xs ys : List ℕ) → xs ≡ ys → same xs ys ≡ true
equal_same xs ys e = rw e (same_refl ys)

-- lists that are not the same differ
pub same_false : (xs ys : List ℕ) → same xs ys ≡ false → xs ≡ ys → ⊥
same_false xs ys e q = false≢true (sym e ∙ equal_same xs ys q)

-- lists that differ are not the same
pub differ_same : (xs ys : List ℕ) → (xs ≡ ys → ⊥) → same xs ys ≡ false
differ_same xs ys h = never_holds (same xs ys) (λ e. h (same_true xs ys e))

-- ---- lists without a number

-- no element is k
abbrev pub Lacks : ℕ → List ℕ → Type 0
Lacks k [] = Unit {0}
Lacks k (x ∷ xs) = (x ≡ k → ⊥) × Lacks k xs

-- two lists one after the other lack what each lacks
pub lacks_append : (k : ℕ) (xs ys : List ℕ) → Lacks k xs → Lacks k ys → Lacks k (xs ++ ys)
lacks_append k [] ys p q = q
lacks_append k (x ∷ xs) ys p q = (p.0, lacks_append k xs ys p.1 q)

-- a list of whose elements a test holds lacks a number of which it does not
pub all_lacks : (f : ℕ → Bool) (k : ℕ) (xs : List ℕ) → f k ≡ false → all f xs ≡ true → Lacks k xs
all_lacks f k [] e h = tt
all_lacks f k (x ∷ xs) e h =
    let p = all_cons f x xs h in
    (λ q. false≢true (sym e ∙ ap f (sym q) ∙ p.0), all_lacks f k xs e p.1)

-- ---- rising lists

-- A list rises where its first is below all others, and those rise.
pub rising_cons : (x : ℕ) (l : List ℕ) → ((y : ℕ) → Memᴰ y l → x < y) → rising l ≡ true → rising (x ∷ l) ≡ true
unfolding rising
rising_cons x [] h r = refl
rising_cons x (y ∷ l) h r = rw (lt-ltb x y (h y (Memᴰ.head refl))) r

-- A list rises where its last is above all others, and those rise.
pub rising_snoc : (l : List ℕ) (x : ℕ) → ((y : ℕ) → Memᴰ y l → y < x) → rising l ≡ true → rising (l ++ x ∷ []) ≡ true
unfolding rising
rising_snoc [] x h r = refl
rising_snoc (a ∷ []) x h r = rw (lt-ltb a x (h a (Memᴰ.head refl)))
rising_snoc (a ∷ b ∷ l) x h r = go (ltb a b) r (rising_snoc (b ∷ l) x (λ y m. h y (Memᴰ.tail m)))
  where
    go : (c : Bool) → c && rising (b ∷ l) ≡ true → (rising (b ∷ l) ≡ true → rising (b ∷ l ++ x ∷ []) ≡ true)
        → c && rising (b ∷ l ++ x ∷ []) ≡ true
    go true r ih = ih r
    go false r ih = r

-- ---- the last element

-- the last element of a list with one put at its end is that one
pub last_snoc : {A : Type 0} (d x : A) (l : List A) → last_or d (l ++ x ∷ []) ≡ x
unfolding last_or
last_snoc d x [] = refl
last_snoc d x (y ∷ l) = last_snoc y x l

-- all but the last are those before it
pub but_last_snoc : {A : Type 0} (x : A) (l : List A) → all_but_last (l ++ x ∷ []) ≡ l
unfolding all_but_last
but_last_snoc x [] = refl
but_last_snoc x (y ∷ []) = refl
but_last_snoc x (y ∷ z ∷ l) = ap (λ (t : List _). y ∷ t) (but_last_snoc x (z ∷ l))

-- a list that is not empty is all but its last element, and that
pub snoc_last : {A : Type 0} (d x : A) (l : List A) → x ∷ l ≡ all_but_last (x ∷ l) ++ last_or d (x ∷ l) ∷ []
unfolding all_but_last last_or
snoc_last d x [] = refl
snoc_last d x (y ∷ l) = ap (λ (t : List _). x ∷ t) (snoc_last x y l)

-- ---- the largest of numbers

-- what is one more than the largest of some numbers is the largest of those that are one more
pub largest_more : (w : ℕ) (ws : List ℕ) → largest (map suc (w ∷ ws)) ≡ suc (largest (w ∷ ws))
unfolding largest
largest_more w [] = omega arith
largest_more w (y ∷ ws) = let e = largest_more y ws in omega arith

-- where that is 0, there are no numbers
pub largest_none : (ws : List ℕ) → 0 ≡ largest (map suc ws) → ws ≡ []
largest_none [] e = refl
largest_none (w ∷ ws) e = absurd (omega (arith, largest_more w ws))

-- ---- elements by their numbers

-- what stands at a number is a member
pub at_member : {A : Type 0} (xs : List A) (i : ℕ) (d : A) → i < length xs → Memᴰ (get_or xs i d) xs
at_member [] i d h = absurd (omega arith)
at_member (x ∷ xs) zero d h = Memᴰ.head refl
at_member (x ∷ xs) (suc i) d h = Memᴰ.tail (at_member xs i d (omega arith))

-- a member, which comes first here, stands at a number
numbered : {A : Type 0} (x d : A) (xs : List A) → Memᴰ x xs → (i : ℕ) × (i < length xs) × (get_or xs i d ≡ x)
numbered x d xs (Memᴰ.head e) = (0, omega arith, sym e)
numbered x d xs (Memᴰ.tail {xs = ys} m) = let (i, h, e) = numbered x d ys m in (suc i, omega arith, e)

-- a member stands at a number
pub member_at : {A : Type 0} (xs : List A) (x d : A) → Memᴰ x xs → (i : ℕ) × (i < length xs) × (get_or xs i d ≡ x)
member_at xs x d m = numbered x d xs m

-- where the number of elements is 0, there is none
pub none_left : {A : Type 0} (xs : List A) → eqb (length xs) 0 ≡ true → xs ≡ []
none_left [] e = refl
none_left (x ∷ xs) e = let z = eqb-true (length (x ∷ xs)) 0 e in absurd (omega arith)

-- with one element set, no other comes in
pub set_only : {A : Type 0} (l : List A) (i : ℕ) (b y : A) → Memᴰ y (set l i b) → (y ≡ b) ⊎ Memᴰ y l
set_only [] i b y k = absurd (Memᴰ.not-nil k)
set_only (x ∷ l) zero b y k = ⊎_elim inl (λ j. inr (Memᴰ.tail j)) (Memᴰ.cases_cons k)
set_only (x ∷ l) (suc i) b y k =
    ⊎_elim (λ e. inr (Memᴰ.head e)) (λ j. ⊎_elim inl (λ q. inr (Memᴰ.tail q)) (set_only l i b y j)) (Memᴰ.cases_cons k)

-- ---- one element repeated

-- a list of it has no other
pub repeated_only : {A : Type 0} (n : ℕ) (b y : A) → Memᴰ y (replicate n b) → y ≡ b
repeated_only zero b y k = absurd (Memᴰ.not-nil k)
repeated_only (suc n) b y k = ⊎_elim (λ e. e) (repeated_only n b y) (Memᴰ.cases_cons k)

-- the first of many alike are as many alike
pub first_alike : {A : Type 0} (k n : ℕ) (x : A) → k ≤ n → take k (replicate n x) ≡ replicate k x
first_alike zero n x h = refl
first_alike (suc k) zero x h = absurd (omega arith)
first_alike (suc k) (suc n) x h = ap (◌∷◌ x) (first_alike k n x (omega arith))
