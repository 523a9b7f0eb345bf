-- Laws of the pairs that count, by their marks (specs/MonitoredVersions.antt): the versions looked
-- up for them, with a mark more set.
use mathlib.Core.Path.{◌≡◌, refl, ◌∙◌}
use mathlib.Core.Logic.{◌⊎◌, inl, inr, ⊎_elim}
use mathlib.Core.Bool.{true}
use mathlib.Core.List.Memᴰ
use mathlib.Core.List.{List, [], ◌∷◌, Memᴰ}
use Prim.Native.Nat.{ℕ, zero, suc, ◌<◌}
use native.Mathlib.Omega.{arith}
use lib.Dec.{eqb, leb}
use lib.ListN.{length, get_or, set, replicate, length-set, length-replicate}
use borrow.Author.Tests.{eq-eqb, ne_eqb}
use Rattle.lists.specs.Lists.{all, rising, insert_all}
use Rattle.lists.proofs.ChoiceLaws.{choose_true, choose_false}
use Rattle.lists.proofs.ListLaws.{set_only, repeated_only}
use Rattle.lists.proofs.RisingLaws.{insert_all_has, insert_all_keeps, insert_all_only, insert_all_rising}
use Rattle.rules.specs.Limits.{greatest_version, version_bound}
use Rattle.checks.specs.MonitoredVersions.{not_above, counted_of, counted, AreMarks}

-- ---- the versions of one pair

-- for a pair marked by 0 its versions are looked up
pub counts : (v : ℕ) → counted_of 0 v ≡ not_above v
unfolding counted_of
counts v = choose_true (eqb 0 0) (λ _. not_above v) (λ _. []) (eq-eqb 0 0 refl)

-- for another pair none
pub counts_not : (m v : ℕ) → (m ≡ 0 → ⊥) → counted_of m v ≡ []
unfolding counted_of
counts_not m v h = choose_false (eqb m 0) (λ _. not_above v) (λ _. []) (ne_eqb m 0 h)

-- a version looked up for a pair is looked up if it is marked by 0
pub counts_too : (m v y : ℕ) → Memᴰ y (counted_of m v) → Memᴰ y (not_above v)
counts_too zero v y i = rw (counts v) at i
counts_too (suc m) v y i = absurd (Memᴰ.not-nil (rw (counts_not (suc m) v (λ e. omega arith)) at i))

-- ---- the versions of all pairs

-- of one pair and the others
counted_cons : (m v : ℕ) (ms vs : List ℕ) → counted (m ∷ ms) (v ∷ vs) ≡ insert_all (counted_of m v) (counted ms vs)
unfolding counted
counted_cons m v ms vs = refl

-- they rise
pub counted_rising : (ms vs : List ℕ) → rising (counted ms vs) ≡ true
unfolding counted rising
counted_rising [] vs = refl
counted_rising (m ∷ ms) [] = refl
counted_rising (m ∷ ms) (v ∷ vs) = insert_all_rising (counted_of m v) (counted ms vs) (counted_rising ms vs)

-- where no pair is marked by 0, there are none
pub counted_none : (m : ℕ) (vs : List ℕ) → (m ≡ 0 → ⊥) → counted (replicate (length vs) m) vs ≡ []
unfolding counted insert_all
counted_none m [] h = refl
counted_none m (v ∷ vs) h = rw (counts_not m v h) (counted_none m vs h)

-- ---- a pair more is marked by 0

-- its versions are looked up
pub marked_has : (ms vs : List ℕ) (i y : ℕ) → i < length vs → length ms ≡ length vs → Memᴰ y (not_above (get_or vs i 0))
    → Memᴰ y (counted (set ms i 0) vs)
marked_has [] vs i y h e k = absurd (omega arith)
marked_has (m ∷ ms) [] i y h e k = absurd (omega arith)
marked_has (m ∷ ms) (v ∷ vs) zero y h e k = rw (counted_cons 0 v ms vs, counts v) (insert_all_has (not_above v) (counted ms vs) y k)
marked_has (m ∷ ms) (v ∷ vs) (suc i) y h e k =
    rw (counted_cons m v (set ms i 0) vs) (insert_all_keeps (counted_of m v) (counted (set ms i 0) vs) y (marked_has ms vs i y (omega arith) (omega arith) k))

-- all versions looked up before still are
pub marked_keeps : (ms vs : List ℕ) (i y : ℕ) → Memᴰ y (counted ms vs) → Memᴰ y (counted (set ms i 0) vs)
unfolding counted
marked_keeps [] vs i y k = k
marked_keeps (m ∷ ms) [] zero y k = k
marked_keeps (m ∷ ms) [] (suc i) y k = k
marked_keeps (m ∷ ms) (v ∷ vs) zero y k =
    ⊎_elim (λ j. rw (counts v) (insert_all_has (not_above v) (counted ms vs) y (counts_too m v y j))) (insert_all_keeps (counted_of 0 v) (counted ms vs) y)
    (insert_all_only (counted_of m v) (counted ms vs) y k)
marked_keeps (m ∷ ms) (v ∷ vs) (suc i) y k =
    ⊎_elim (insert_all_has (counted_of m v) (counted (set ms i 0) vs) y)
    (λ j. insert_all_keeps (counted_of m v) (counted (set ms i 0) vs) y (marked_keeps ms vs i y j)) (insert_all_only (counted_of m v) (counted ms vs) y k)

-- and no others
pub marked_only : (ms vs : List ℕ) (i y : ℕ) → Memᴰ y (counted (set ms i 0) vs) → Memᴰ y (not_above (get_or vs i 0)) ⊎ Memᴰ y (counted ms vs)
unfolding counted
marked_only [] vs i y k = inr k
marked_only (m ∷ ms) [] zero y k = inr k
marked_only (m ∷ ms) [] (suc i) y k = inr k
marked_only (m ∷ ms) (v ∷ vs) zero y k =
    ⊎_elim (λ j. inl (counts_too 0 v y j)) (λ j. inr (insert_all_keeps (counted_of m v) (counted ms vs) y j)) (insert_all_only (counted_of 0 v) (counted ms vs) y k)
marked_only (m ∷ ms) (v ∷ vs) (suc i) y k =
    ⊎_elim (λ j. inr (insert_all_has (counted_of m v) (counted ms vs) y j))
    (λ j. ⊎_elim inl (λ q. inr (insert_all_keeps (counted_of m v) (counted ms vs) y q)) (marked_only ms vs i y j))
    (insert_all_only (counted_of m v) (counted (set ms i 0) vs) y k)

-- ---- marks

-- at first no pair counts
pub marks_start : (vs : List ℕ) → all (λ (v : ℕ). leb v greatest_version) vs ≡ true → AreMarks (replicate (length vs) version_bound) vs
marks_start vs h =
    record { alike = length-replicate (length vs) version_bound; versions = h; marks = λ m k. inr (repeated_only (length vs) version_bound m k) }

-- a mark set to 0 is a mark
pub marks_set : (ms vs : List ℕ) (i : ℕ) → AreMarks ms vs → AreMarks (set ms i 0) vs
marks_set ms vs i a =
    record { alike = length-set ms i 0 ∙ a.alike; versions = a.versions; marks = λ m k. ⊎_elim inl (a.marks m) (set_only ms i 0 m k) }
