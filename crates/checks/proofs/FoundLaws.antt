-- Laws of what stands at an index, as the code compares it: with an option of a reference.
use mathlib.Core.Path.{◌≡◌, refl, sym, ◌∙◌, ap, ap₂}
use mathlib.Core.Bool.{Bool, true, false, false≢true}
use mathlib.Core.List.{List, [], ◌∷◌}
use Prim.Native.Nat.{ℕ, suc, ◌<◌}
use native.Mathlib.Omega.{arith}
use lib.Dec.{eqb, ltb}
use lib.ListN.{length, get_or, drop}
use borrow.Author.Tests.{ltb-true, ltb-false, eq-eqb, ne_eqb, eqb-true, eqb-false}
use Rattle.std.proofs.Common.{Bor}
use Rattle.std.proofs.lemmas.Grind.{get_or_default_zero}
use Rattle.std.specs.Prelude.{Some, None, Option as CodeOption, is_some, IfSome}
use Rattle.std.specs.Option.{option_eq, option_copied, unwrap_or}
use Rattle.std.specs.List.{slice_get}
use Rattle.lists.specs.Lists.{begins}
use Rattle.lists.proofs.SameLaws.{begins_end, begins_here}

-- numbers are equal in either order
eqb_turned : (a b : ℕ) → eqb a b ≡ eqb b a
eqb_turned a b = go (eqb a b) refl
  where
    go : (t : Bool) → eqb a b ≡ t → t ≡ eqb b a
    go true e = sym (eq-eqb b a (sym (eqb-true a b e)))
    go false e = sym (ne_eqb b a (λ q. eqb-false a b e (sym q)))

-- a number found at an index is compared with one as a list of that one number is
pub begins_found : (v : ℕ) (xs : List ℕ) (i : ℕ) (o : CodeOption (Bor ℕ)) (y : Bor ℕ) → y.now ≡ v
    → is_some o ≡ ltb i (length xs) → IfSome o (λ x. x.now ≡ get_or xs i x.now)
    → option_eq (λ a b. eqb a.now b.now) o (Some y) ≡ begins (v ∷ []) (drop i xs)
begins_found v xs i None y e l h = sym (begins_end v [] xs i (ltb-false i (length xs) (sym l)))
begins_found v xs i (Some x) y e l h =
    let k : i < length xs = ltb-true i (length xs) (sym l) in
    let g : x.now ≡ get_or xs i 0 = h ∙ get_or_default_zero xs i x.now k in
    ap₂ eqb g e ∙ eqb_turned (get_or xs i 0) v ∙ begins_here v xs i k

-- the first of some numbers, read as 0 where there is none, is compared with a number above 0
pub first_found : (n : ℕ) (xs : List ℕ) (o : CodeOption (Bor ℕ)) (y : Bor ℕ) → y.now ≡ suc n
    → option_copied o ≡ slice_get xs 0 → option_eq (λ a b. eqb a.now b.now) o (Some y) ≡ eqb (get_or xs 0 0) (suc n)
first_found n [] None y e h = sym (ne_eqb 0 (suc n) (λ q. omega arith))
first_found n [] (Some x) y e h = absurd (false≢true (sym (ap is_some h)))
first_found n (z ∷ xs) None y e h = absurd (false≢true (ap is_some h))
first_found n (z ∷ xs) (Some x) y e h = ap₂ eqb (ap (λ o. unwrap_or o 0) h) e
