-- The walk of the log tree as cases (specs/LogTree.antt): what is known of a subtree that is
-- retained, given, shown or split.
use mathlib.Core.Path.{◌≡◌, refl, sym, ap}
use mathlib.Core.Bool.{true, false, ◌&&◌, not}
use mathlib.Core.List.{List}
use Prim.Native.Nat.{ℕ, zero, suc, ◌≤◌, ◌<◌}
use native.Mathlib.Omega.{arith}
use lib.Dec.{eqb}
use borrow.Author.Tests.{eqb-true, eqb-false, not-true}
use Rattle.lists.specs.Choice.{choose}
use Rattle.lists.proofs.ChoiceLaws.{and_holds, choose_by}
use Rattle.tree.specs.LogTree.{Range, left_half, right_half, is_full, holds_full, Walk, retained, given}
use Rattle.tree.specs.LogTree.{shown, parent, is_shown, walk, width_of}
use Rattle.tree.proofs.PowerLaws.{halves_meet, halves_filled}
use Rattle.tree.specs.LogWalk.{range}

-- what a walk of the subtree r is, given m and the shown positions
pub data Walks (m : ℕ) (ps : List ℕ) : Range → Walk → Type 0 where
  keeps : {r : Range} → is_shown ps r ≡ false → is_full m r ≡ true → Walks m ps r (retained r)
  takes : {r : Range} → is_shown ps r ≡ false → holds_full m r ≡ false → Walks m ps r (given r)
  shows : {r : Range} → r.width ≡ 1 → Walks m ps r (shown r.start)
  splits : {r : Range} {x y : Walk} → 1 < r.width → Walks m ps (left_half r) x → Walks m ps (right_half r) y → Walks m ps r (parent r x y)

-- The walk of a range that is not empty, in steps enough for its width, is such a walk.
pub walk_cases : (f m : ℕ) (ps : List ℕ) (r : Range) → 0 < r.width → r.width ≤ f → Walks m ps r (walk f m ps r)
unfolding walk
walk_cases zero m ps r p h = absurd (omega arith)
walk_cases (suc f) m ps r p h =
    let s = is_shown ps r in
    choose_by W (not s && is_full m r) (λ _. retained r) rest
    (λ e. let (a, b) = and_holds (not s) (is_full m r) e in keeps (not-true s a) b)
    (λ _. choose_by W (not s && not (holds_full m r)) (λ _. given r) deep
    (λ e. let (a, b) = and_holds (not s) (not (holds_full m r)) e in takes (not-true s a) (not-true (holds_full m r) b))
    (λ _. choose_by W (eqb r.width 1) (λ _. shown r.start) (λ _. parent r (walk f m ps (left_half r)) (walk f m ps (right_half r)))
    (λ e. shows (eqb-true r.width 1 e))
    (λ e.
    let ne = eqb-false r.width 1 e in
    let w : 1 < r.width = omega arith in
    let (a, b) = halves_filled r w in
    let (c, d) = halves_meet r w in
    splits w (walk_cases f m ps (left_half r) a (omega arith)) (walk_cases f m ps (right_half r) b (omega arith)))))
  where
    W : Walk → Type 0
    W w = Walks m ps r w

    deep : Unit {0} → Walk
    deep _ = choose (eqb r.width 1) (λ _. shown r.start) (λ _. parent r (walk f m ps (left_half r)) (walk f m ps (right_half r)))

    rest : Unit {0} → Walk
    rest _ = choose (not (is_shown ps r) && not (holds_full m r)) (λ _. given r) deep

-- ---- the range of a walk

-- the walk works out this range
abbrev pub Over : Range → Walk → Type 0
Over r (retained x) = x ≡ r
Over r (given x) = x ≡ r
Over r (shown p) = range p 1 ≡ r
Over r (parent x y z) = (x ≡ r) × (1 < r.width) × Over (left_half r) y × Over (right_half r) z

-- It is as wide as the range.
pub over_width : (r : Range) (t : Walk) → Over r t → width_of t ≡ r.width
unfolding width_of
over_width r (retained x) h = ap (λ (y : Range). y.width) h
over_width r (given x) h = ap (λ (y : Range). y.width) h
over_width r (shown p) h = ap (λ (y : Range). y.width) h
over_width r (parent x y z) (h, _, _, _) = ap (λ (y : Range). y.width) h

-- The walk of a range works it out.
pub walks_over : {m : ℕ} {ps : List ℕ} {r : Range} {t : Walk} → Walks m ps r t → Over r t
walks_over (keeps a b) = refl
walks_over (takes a b) = refl
walks_over (shows {r} w) = ap (range r.start) (sym w)
walks_over (splits w x y) = (refl, w, walks_over x, walks_over y)

-- A walk is as wide as its range.
pub walks_width : {m : ℕ} {ps : List ℕ} {r : Range} {w : Walk} → Walks m ps r w → width_of w ≡ r.width
walks_width {r} {w} x = over_width r w (walks_over x)
