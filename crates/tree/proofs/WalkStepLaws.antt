-- The steps of the walk over the log tree (specs/LogTree.antt).
use mathlib.Core.Path.{◌≡◌, refl}
use mathlib.Core.Logic.{◌⊎◌, inl, inr}
use mathlib.Core.Bool.{Bool, true, false, ◌&&◌, not}
use mathlib.Core.List.{List}
use Prim.Native.Nat.{ℕ, zero, suc, ◌≤◌, ◌<◌}
use native.Mathlib.Omega.{arith}
use lib.Dec.{eqb}
use borrow.Author.Tests.{eq-eqb, ne_eqb}
use Rattle.lists.specs.Choice.{choose}
use Rattle.tree.specs.LogTree.{Range, left_half, right_half, is_full, holds_full, is_shown, retained, given}
use Rattle.tree.specs.LogTree.{shown, parent, walk}
use Rattle.tree.proofs.PowerLaws.{halves_filled, halves_meet}
use Rattle.tree.proofs.DigitLaws.{by_order}

-- A full subtree with nothing shown is retained.
pub walk_retained : (f m : ℕ) (ps : List ℕ) (r : Range) → is_shown ps r ≡ false → is_full m r ≡ true → walk (suc f) m ps r ≡ retained r
unfolding walk choose
walk_retained f m ps r s h = rw (s, h) refl

-- What has nothing shown and holds no full subtree is given.
pub walk_given : (f m : ℕ) (ps : List ℕ) (r : Range) → is_shown ps r ≡ false → is_full m r ≡ false → holds_full m r ≡ false → walk (suc f) m ps r ≡ given r
unfolding walk choose
walk_given f m ps r s h k = rw (s, h, k) refl

-- A single entry that is shown.
pub walk_shown : (f m : ℕ) (ps : List ℕ) (r : Range) → is_shown ps r ≡ true → r.width ≡ 1 → walk (suc f) m ps r ≡ shown r.start
unfolding walk choose
walk_shown f m ps r s h = rw (s, eq-eqb r.width 1 h) refl

-- What is shown, or holds a full subtree and is none, splits.
pub walk_split : (f m : ℕ) (ps : List ℕ) (r : Range) → 1 < r.width → (is_shown ps r ≡ true) ⊎ ((is_full m r ≡ false) × (holds_full m r ≡ true))
    → walk (suc f) m ps r ≡ parent r (walk f m ps (left_half r)) (walk f m ps (right_half r))
unfolding walk choose
walk_split f m ps r w (inl s) = rw (s, ne_eqb r.width 1 (λ z. omega arith)) refl
walk_split f m ps r w (inr (h, k)) = go (is_shown ps r)
  where
    go : (s : Bool) → choose (not s && is_full m r) (λ _. retained r)
        (λ _. choose (not s && not (holds_full m r)) (λ _. given r)
        (λ _. choose (eqb r.width 1) (λ _. shown r.start)
        (λ _. parent r (walk f m ps (left_half r)) (walk f m ps (right_half r)))))
        ≡ parent r (walk f m ps (left_half r)) (walk f m ps (right_half r))
    go true = rw (ne_eqb r.width 1 (λ z. omega arith)) refl
    go false = rw (h, k, ne_eqb r.width 1 (λ z. omega arith)) refl

-- The walk over a single entry takes one step.
walk_single : (f g m : ℕ) (ps : List ℕ) (r : Range) → r.width ≡ 1 → walk (suc f) m ps r ≡ walk (suc g) m ps r
unfolding walk choose
walk_single f g m ps r e = rw (eq-eqb r.width 1 e) refl

-- The walk takes as many steps as its halves and one.
walk_halves : (f g m : ℕ) (ps : List ℕ) (r : Range) → 1 < r.width → walk f m ps (left_half r) ≡ walk g m ps (left_half r) → walk f m ps (right_half r) ≡ walk g m ps (right_half r)
    → walk (suc f) m ps r ≡ walk (suc g) m ps r
unfolding walk
walk_halves f g m ps r w a b = rw (a, b) refl

-- The number of steps does not matter where it is enough.
pub walk_fuel : (f g m : ℕ) (ps : List ℕ) (r : Range) → 0 < r.width → r.width ≤ f → r.width ≤ g → walk f m ps r ≡ walk g m ps r
walk_fuel zero g m ps r p h k = absurd (omega arith)
walk_fuel (suc f) zero m ps r p h k = absurd (omega arith)
walk_fuel (suc f) (suc g) m ps r p h k = by_order 1 r.width
    (λ w.
    let (a, b) = halves_filled r w in
    let (c, d) = halves_meet r w in
    walk_halves f g m ps r w (walk_fuel f g m ps (left_half r) a (omega arith) (omega arith)) (walk_fuel f g m ps (right_half r) b (omega arith) (omega arith)))
    (λ w. walk_single f g m ps r (omega arith))
