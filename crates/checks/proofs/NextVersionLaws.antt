-- Laws of the next version of each pair (specs/MonitoredVersions.antt): the smallest of them, and
-- all of them moved on past it.
use mathlib.Core.Path.{◌≡◌, refl, sym, ◌∙◌, ap, ap₂, subst}
use mathlib.Core.Logic.{◌⊎◌, inl, inr, ⊎_elim}
use mathlib.Core.Bool.{true, cond}
use mathlib.Core.List.Memᴰ
use mathlib.Core.List.{List, [], ◌∷◌, ◌++◌, append-nil, Memᴰ}
use Prim.Native.Nat.{ℕ, zero, suc, min, ◌+◌, ◌≤◌, ◌<◌}
use native.Mathlib.Nat.{min-eq_left, min-eq_right, min-le_left, min-le_right}
use native.Mathlib.Numerals.{add-one}
use native.Mathlib.Omega.{arith}
use lib.Dec.{leb, ltb}
use lib.ListN.{length, get_or, take, drop, set, length-set}
use lib.Seq.{append_snoc, take_all, take-suc-set, drop-set-lt, set-get_or}
use borrow.Author.Tests.{lt-ltb, le-ltb, leb-true}
use Rattle.lists.specs.Lists.{all, rising}
use Rattle.lists.proofs.ListLaws.{all_cons}
use Rattle.lists.proofs.RisingLaws.{insert_all_only}
use Rattle.lines.proofs.OffsetLaws.{at_cons, at_end}
use Rattle.tree.specs.SearchTree.{next_from}
use Rattle.tree.proofs.DigitLaws.{by_order}
use Rattle.tree.proofs.NextLaws.{next_nil, next_together, next_stays}
use Rattle.rules.specs.Limits.{greatest_version, version_bound}
use Rattle.checks.specs.MonitoredVersions.{not_above, counted_of, counted, smallest, stepped_on}
use Rattle.checks.proofs.NotAboveLaws.{not_above_rising, not_above_below, not_above_first}
use Rattle.checks.proofs.MarkLaws.{counts, counts_not, counts_too, counted_rising}

-- ---- the smallest version

-- it is not above the bound
pub smallest_bound : (xs : List ℕ) → smallest xs ≤ version_bound
unfolding smallest
smallest_bound [] = omega arith
smallest_bound (x ∷ xs) = omega (arith, min-le_right x (smallest xs), smallest_bound xs)

-- at first it is the smallest
pub smallest_start : (xs : List ℕ) → min version_bound (smallest xs) ≡ smallest xs
smallest_start xs = min-eq_right (smallest_bound xs)

-- one version more is compared
pub smallest_next : (xs : List ℕ) (i least : ℕ) → i < length xs
    → min (min least (get_or xs i 0)) (smallest (drop (i + 1) xs)) ≡ min least (smallest (drop i xs))
unfolding smallest
smallest_next xs i least h = rw (at_cons xs i h) (omega arith)

-- after the last it is the smallest
pub smallest_end : (xs : List ℕ) (i least : ℕ) → length xs ≤ i → least ≤ version_bound
    → min least (smallest (drop i xs)) ≡ least
unfolding smallest
smallest_end xs i least h b = rw (at_end xs i h) (min-eq_left b)

-- ---- the next version of each pair, moved on

-- what the next version of a pair becomes
abbrev moved_to : ℕ → ℕ → ℕ → ℕ
moved_to v x from = cond (ltb x from) (next_from version_bound (not_above v) from) x

-- those of the pairs before a number have been moved
abbrev pub Moved : List ℕ → List ℕ → ℕ → List ℕ → ℕ → Type 0
Moved vs xs from next i = (length next ≡ length vs) × (take i next ++ stepped_on (drop i vs) (drop i next) from ≡ stepped_on vs xs from)

-- that of a pair more is moved
moved_one : (vs xs : List ℕ) (from : ℕ) (next : List ℕ) (i y : ℕ) → Moved vs xs from next i → i < length vs → moved_to (get_or vs i 0) (get_or next i 0) from ≡ y
    → Moved vs xs from (set next i y) (i + 1)
unfolding stepped_on
moved_one vs xs from next i y (l, m) h e =
    let k : i < length next = omega arith in
    let f : take (i + 1) (set next i y) ≡ take i next ++ y ∷ [] = rw (add-one i) (take-suc-set next i y k) in
    let g = ap₂ (λ (v x : List ℕ). stepped_on v x from) (at_cons vs i h) (at_cons next i k) ∙ ap (λ (n : ℕ). n ∷ rest) e in
    let d : drop (i + 1) (set next i y) ≡ drop (i + 1) next = drop-set-lt (i + 1) next i y (omega arith) in (
      length-set next i y ∙ l,
      ap₂ (λ (a b : List ℕ). a ++ stepped_on (drop (i + 1) vs) b from) f d ∙ append_snoc (take i next) y rest
          ∙ ap (λ (l : List ℕ). take i next ++ l) (sym g) ∙ m,
    )
  where
    rest : List ℕ
    rest = stepped_on (drop (i + 1) vs) (drop (i + 1) next) from

-- where it is below, it becomes the first from the version on
pub moved_on : (vs xs : List ℕ) (from : ℕ) (next : List ℕ) (i y : ℕ) (next' : List ℕ) → Moved vs xs from next i → i < length vs
    → get_or next i 0 < from → y ≡ next_from version_bound (not_above (get_or vs i 0)) from → next' ≡ set next i y → Moved vs xs from next' (i + 1)
moved_on vs xs from next i y next' m h l e f = rw f (moved_one vs xs from next i y m h (rw (lt-ltb (get_or next i 0) from l) (sym e)))

-- else it stays
pub moved_not : (vs xs : List ℕ) (from : ℕ) (next : List ℕ) (i : ℕ) (next' : List ℕ) → Moved vs xs from next i → i < length vs
    → from ≤ get_or next i 0 → next' ≡ next → Moved vs xs from next' (i + 1)
moved_not vs xs from next i next' m h l f =
    subst (λ (t : List ℕ). Moved vs xs from t (i + 1)) (set-get_or next i 0 ∙ sym f)
    (moved_one vs xs from next i (get_or next i 0) m h (rw (le-ltb (get_or next i 0) from l) refl))

-- after the last pair all have been
pub moved_all : (vs xs : List ℕ) (from : ℕ) (next : List ℕ) (i : ℕ) → Moved vs xs from next i → length vs ≤ i → next ≡ stepped_on vs xs from
unfolding stepped_on
moved_all vs xs from next i (l, m) h =
    sym (ap₂ (λ (l v : List ℕ). l ++ stepped_on v (drop i next) from) (take_all i next (omega arith)) (at_end vs i h) ∙ append-nil next) ∙ m

-- ---- the next version of each pair, from a version on

-- those of pairs by their marks and versions
abbrev pub nexts : List ℕ → List ℕ → ℕ → List ℕ
nexts [] vs x = []
nexts (m ∷ ms) [] x = []
nexts (m ∷ ms) (v ∷ vs) x = next_from version_bound (counted_of m v) x ∷ nexts ms vs x

-- there are as many as pairs
pub nexts_length : (ms vs : List ℕ) (x : ℕ) → length ms ≡ length vs → length (nexts ms vs x) ≡ length vs
nexts_length [] [] x e = refl
nexts_length [] (v ∷ vs) x e = absurd (omega arith)
nexts_length (m ∷ ms) [] x e = absurd (omega arith)
nexts_length (m ∷ ms) (v ∷ vs) x e = ap suc (nexts_length ms vs x (omega arith))

-- versions of pairs are not above the greatest
abbrev Small : List ℕ → Type 0
Small vs = all (λ (v : ℕ). leb v greatest_version) vs ≡ true

-- the versions of one pair rise
one_rises : (m v : ℕ) → rising (counted_of m v) ≡ true
unfolding rising
one_rises zero v = rw (counts v) (not_above_rising v)
one_rises (suc m) v = rw (counts_not (suc m) v (λ e. omega arith)) refl

-- and are below the bound
one_within : (m v : ℕ) → leb v greatest_version ≡ true → (y : ℕ) → Memᴰ y (counted_of m v) → y < version_bound
one_within m v h y i = omega (arith, leb-true v greatest_version h, not_above_below v y (counts_too m v y i))

-- so are those of all pairs
pub counted_within : (ms vs : List ℕ) → Small vs → (y : ℕ) → Memᴰ y (counted ms vs) → y < version_bound
unfolding counted
counted_within [] vs h y i = absurd (Memᴰ.not-nil i)
counted_within (m ∷ ms) [] h y i = absurd (Memᴰ.not-nil i)
counted_within (m ∷ ms) (v ∷ vs) h y i =
    let (p, q) = all_cons (λ (v : ℕ). leb v greatest_version) v vs h in
    ⊎_elim (one_within m v p y) (counted_within ms vs q y) (insert_all_only (counted_of m v) (counted ms vs) y i)

-- the smallest is the next of all versions looked up
pub next_counted : (ms vs : List ℕ) (x : ℕ) → Small vs → smallest (nexts ms vs x) ≡ next_from version_bound (counted ms vs) x
unfolding counted smallest
next_counted [] vs x h = sym (next_nil version_bound x)
next_counted (m ∷ ms) [] x h = sym (next_nil version_bound x)
next_counted (m ∷ ms) (v ∷ vs) x h =
    let (p, q) = all_cons (λ (v : ℕ). leb v greatest_version) v vs h in
    ap (min (next_from version_bound (counted_of m v) x)) (next_counted ms vs x q)
    ∙ sym (next_together version_bound (counted_of m v) (counted ms vs) x (one_rises m v) (counted_rising ms vs) (one_within m v p) (counted_within ms vs q))

-- the mark of a pair is its next version from 0 on
one_start : (m v : ℕ) → (m ≡ 0) ⊎ (m ≡ version_bound) → m ≡ next_from version_bound (counted_of m v) 0
one_start m v (inl e) = rw (e, counts v) (sym (not_above_first v))
one_start m v (inr e) = e ∙ rw (counts_not m v (λ z. omega arith)) (sym (next_nil version_bound 0))

-- so marks are the next versions from 0 on
pub nexts_start : (ms vs : List ℕ) → length ms ≡ length vs → ((m : ℕ) → Memᴰ m ms → (m ≡ 0) ⊎ (m ≡ version_bound)) → ms ≡ nexts ms vs 0
nexts_start [] vs l h = refl
nexts_start (m ∷ ms) [] l h = absurd (omega arith)
nexts_start (m ∷ ms) (v ∷ vs) l h =
    ap₂ ◌∷◌ (one_start m v (h m (Memᴰ.head refl))) (nexts_start ms vs (omega arith) (λ n i. h n (Memᴰ.tail i)))

-- the next version of a pair, moved on past one that it is not below, is the next from there on
one_on : (m v x w : ℕ) → x ≤ w → w < version_bound → w ≤ next_from version_bound (counted_of m v) x
    → moved_to v (next_from version_bound (counted_of m v) x) (w + 1) ≡ next_from version_bound (counted_of m v) (w + 1)
one_on m v x w h b k = by_order n (w + 1)
    (λ p. rw (lt-ltb n (w + 1) p) (here m p))
    (λ p. rw (le-ltb n (w + 1) p) (next_stays version_bound (counted_of m v) x (w + 1) (one_rises m v) (omega arith) p))
  where
    n : ℕ
    n = next_from version_bound (counted_of m v) x

    here : (m : ℕ) → next_from version_bound (counted_of m v) x < w + 1
        → next_from version_bound (not_above v) (w + 1) ≡ next_from version_bound (counted_of m v) (w + 1)
    here zero p = rw (counts v) refl
    here (suc m) p = absurd (omega (arith, ap (λ (l : List ℕ). next_from version_bound l x) (counts_not (suc m) v (λ e. omega arith)) ∙ next_nil version_bound x))

-- so are all of them, moved on past the smallest
pub nexts_on : (ms vs : List ℕ) (x w : ℕ) → x ≤ w → w < version_bound → w ≤ smallest (nexts ms vs x) → stepped_on vs (nexts ms vs x) (w + 1) ≡ nexts ms vs (w + 1)
unfolding stepped_on smallest
nexts_on [] [] x w h b k = refl
nexts_on [] (v ∷ vs) x w h b k = refl
nexts_on (m ∷ ms) [] x w h b k = refl
nexts_on (m ∷ ms) (v ∷ vs) x w h b k =
    let n = next_from version_bound (counted_of m v) x in
    let s = smallest (nexts ms vs x) in
    ap₂ ◌∷◌ (one_on m v x w h b (omega (arith, min-le_left n s))) (nexts_on ms vs x w h b (omega (arith, min-le_right n s)))
