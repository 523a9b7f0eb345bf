-- Laws of the versions of a version's ladder that are not above it (specs/MonitoredVersions.antt):
-- they begin with 0, rise, and none is above it.
use mathlib.Core.Path.{◌≡◌, refl, ◌∙◌, ap}
use mathlib.Core.Bool.{true}
use mathlib.Core.List.Memᴰ
use mathlib.Core.List.{List, ◌∷◌, Memᴰ}
use mathlib.Core.Logic.{⊎_elim}
use Prim.Native.Nat.{ℕ, suc, ◌+◌, ◌≤◌, ◌<◌}
use native.Mathlib.Omega.{arith}
use lib.Dec.{leb}
use borrow.Author.Tests.{le-leb, lt-leb, leb-true}
use Rattle.lists.specs.Lists.{select, rising}
use Rattle.lists.proofs.ListLaws.{select_here, select_later, select_holds, rising_cons}
use Rattle.tree.specs.Ladder.{halve, climb, ladder}
use Rattle.tree.specs.SearchTree.{next_from}
use Rattle.tree.proofs.LadderLaws.{halve_by, climb_by, ladder_start}
use Rattle.tree.proofs.NextLaws.{next_first}
use Rattle.rules.specs.Limits.{version_bound}
use Rattle.checks.specs.MonitoredVersions.{not_above}

-- ---- versions not above one

-- those of some versions that are not above v
abbrev pub up_to : ℕ → List ℕ → List ℕ
up_to v l = select (λ (u : ℕ). leb u v) l

-- one that is not above v is among them
pub up_to_here : (v x : ℕ) (l : List ℕ) → x ≤ v → up_to v (x ∷ l) ≡ x ∷ up_to v l
up_to_here v x l h = select_here (λ (u : ℕ). leb u v) x l (le-leb x v h)

-- one above v is not
pub up_to_later : (v x : ℕ) (l : List ℕ) → v < x → up_to v (x ∷ l) ≡ up_to v l
up_to_later v x l h = select_later (λ (u : ℕ). leb u v) x l (lt-leb x v h)

-- the versions of the ladder after 0
not_above_start : (v : ℕ) → not_above v ≡ 0 ∷ up_to v (climb (suc v) v 0 1)
unfolding not_above
not_above_start v = ap (up_to v) (ladder_start v) ∙ up_to_here v 0 (climb (suc v) v 0 1) (omega arith)

-- none of them is above v
pub not_above_below : (v a : ℕ) → Memᴰ a (not_above v) → a ≤ v
unfolding not_above
not_above_below v a m = leb-true a v (select_holds (λ (u : ℕ). leb u v) (ladder v) a m)

-- ---- they rise

-- those of some versions that are not above v rise, and are above lo
abbrev RiseFrom : ℕ → ℕ → List ℕ → Type 0
RiseFrom v lo l = (rising (up_to v l) ≡ true) × ((y : ℕ) → Memᴰ y (up_to v l) → lo < y)

-- before those that are above a version may stand that version
rise_kept : (v lo x : ℕ) (l : List ℕ) → lo < x → x ≤ v → RiseFrom v x l → RiseFrom v lo (x ∷ l)
rise_kept v lo x l h k (r, w) =
    rw (up_to_here v x l k)
    (rising_cons x (up_to v l) w r, λ y m. ⊎_elim (λ e. omega arith) (λ i. let z = w y i in omega arith) (Memᴰ.cases_cons m))

-- or one above v
rise_passed : (v lo x : ℕ) (l : List ℕ) → v < x → RiseFrom v lo l → RiseFrom v lo (x ∷ l)
rise_passed v lo x l k s = rw (up_to_later v x l k) s

-- they rise in a halving, since a middle that is not above v becomes the lower end
halve_rises : (f v lo hi : ℕ) → hi ≤ suc (lo + f) → RiseFrom v lo (halve f v lo hi)
unfolding select rising
halve_rises f v lo hi h =
    halve_by v (λ lo hi l. RiseFrom v lo l) (λ lo hi p. (refl, λ y m. absurd (Memᴰ.not-nil m)))
    (λ lo hi m l p e q s. rise_kept v lo m l (omega arith) q s) (λ lo hi m l p e q s. rise_passed v lo m l q s) f lo hi h

-- and in a climb
climb_rises : (f v lo x : ℕ) → lo < x → v < x + f → RiseFrom v lo (climb (suc f) v lo x)
climb_rises f v lo x a h =
    climb_by v (λ lo x l. lo < x → RiseFrom v lo l) (λ lo x p a. rise_passed v lo x (halve x v lo x) p (halve_rises x v lo x (omega arith)))
    (λ lo x l p s a. rise_kept v lo x l a p (s (omega arith))) f lo x h a

-- so they rise in a ladder
pub not_above_rising : (v : ℕ) → rising (not_above v) ≡ true
not_above_rising v =
    let (r, w) = climb_rises v v 0 1 (omega arith) (omega arith) in
    rw (not_above_start v) (rising_cons 0 (up_to v (climb (suc v) v 0 1)) w r)

-- ---- the next of them

-- from 0 on the next is 0
pub not_above_first : (v : ℕ) → next_from version_bound (not_above v) 0 ≡ 0
not_above_first v = rw (not_above_start v) (next_first version_bound 0 0 (up_to v (climb (suc v) v 0 1)) (omega arith))
