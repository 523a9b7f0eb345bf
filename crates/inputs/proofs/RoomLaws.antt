-- Laws of an array that a list fills from its front, with zeros in the unused room
-- (specs/State.antt).
use mathlib.Core.Path.{◌≡◌, refl, sym, ◌∙◌, ap, ap₂}
use mathlib.Core.Bool.{Bool, true, ◌&&◌, and-true, and_assoc}
use mathlib.Core.List.{List, [], ◌∷◌, ◌++◌, flatten, Memᴰ}
use Prim.Native.Nat.{ℕ, zero, suc, ◌+◌, ◌*◌, ◌-◌, ◌≤◌, ◌<◌}
use native.Mathlib.Omega.{arith}
use lib.Dec.{eqb}
use lib.ListN.{length, take, drop, get_or, replicate, length-drop, take-append-drop}
use lib.Seq.{drop_at, length-take-le, take-add}
use Rattle.std.proofs.lemmas.List.{drop-replicate}
use borrow.Author.Tests.{eq-eqb, eqb-true}
use Rattle.std.specs.List.{list_all}
use Rattle.lists.specs.Lists.{Bytes, all, runs}
use Rattle.lists.proofs.ListLaws.{all_cons, at_all}
use Rattle.lines.proofs.OffsetLaws.{at_cons, at_end}
use Rattle.hash.specs.Bytes.{padded}
use Rattle.tree.proofs.RunLaws.{runs-joined, runs-sized}
use Rattle.inputs.specs.State.{zeros_from}

-- ---- zeros from an offset on

-- std's test of all elements is that of the rules
all_listed : (f : ℕ → Bool) (s : List ℕ) → list_all f s ≡ all f s
unfolding all
all_listed f [] = refl
all_listed f (x ∷ s) = ap (λ (b : Bool). f x && b) (all_listed f s)

-- so what std tests from an offset on is whether there are zeros
pub zeros_tested : (k : ℕ) (s : List ℕ) (r : Bool) → r ≡ list_all (λ (x : ℕ). eqb x 0) (drop k s) → r ≡ zeros_from k s
unfolding zeros_from
zeros_tested k s r e = e ∙ all_listed (λ (x : ℕ). eqb x 0) (drop k s)

-- where all are looked at: what was met, and those from an offset on, decide together
module _ (s : List ℕ) (i : ℕ) (met : Bool) where
  -- one more is met
  pub zeros_more : i < length s → ((met && eqb (get_or s i 0) 0) && zeros_from (i + 1) s) ≡ (met && zeros_from i s)
  unfolding zeros_from all
  zeros_more h = rw (at_cons s i h) (and_assoc met (eqb (get_or s i 0) 0) (all (λ (x : ℕ). eqb x 0) (drop (i + 1) s)))

  -- past the end, what was met decides
  pub zeros_past : length s ≤ i → met ≡ (met && zeros_from i s)
  unfolding zeros_from all
  zeros_past h = rw (at_end s i h) (sym (and-true met))

-- zeros are zero
zeros_zero : (n : ℕ) → all (λ (x : ℕ). eqb x 0) (replicate n 0) ≡ true
unfolding all
zeros_zero zero = refl
zeros_zero (suc n) = zeros_zero n

-- a list of zeros is as many zeros as it is long
zeros_only : (s : List ℕ) → all (λ (x : ℕ). eqb x 0) s ≡ true → s ≡ replicate (length s) 0
zeros_only [] e = refl
zeros_only (x ∷ s) e = let (p, q) = all_cons (λ (x : ℕ). eqb x 0) x s e in ap₂ ◌∷◌ (eqb-true x 0 p) (zeros_only s q)

-- what fills up a list is zero
pub padded_room : (n k : ℕ) (s : List ℕ) → length s ≡ k → zeros_from k (padded n s) ≡ true
unfolding zeros_from padded
padded_room n k s h = rw (drop_at s (replicate (n - length s) 0) k h) (zeros_zero (n - length s))

-- a list that is zero from an offset on is what stands before it, filled up
pub room_padded : (n k : ℕ) (s : List ℕ) → length s ≡ n → k ≤ n → zeros_from k s ≡ true → padded n (take k s) ≡ s
unfolding zeros_from padded
room_padded n k s h l e =
    let t : length (take k s) ≡ k = length-take-le k s (omega arith) in
    let d : length (drop k s) ≡ n - length (take k s) = omega (arith, length-drop k s) in
    rw (← d, ← zeros_only (drop k s) e) (take-append-drop k s)

-- bytes put at the front of zeros are filled up by the others
pub padded_front : (n : ℕ) (s : List ℕ) → s ++ drop (length s) (replicate n 0) ≡ padded n s
unfolding padded
padded_front n s = ap (λ (t : List ℕ). s ++ t) (drop-replicate (length s) n 0)

-- ---- runs of a list

-- runs joined are the front of the list
pub joined_runs : (n k : ℕ) (s : Bytes) → flatten (runs n k s) ≡ take (k * n) s
unfolding runs flatten
joined_runs zero k s = let e : k * 0 ≡ 0 = omega arith in rw e refl
joined_runs (suc n) k s =
    let e : k * suc n ≡ k + k * n = omega arith in
    rw (e, take-add k (k * n) s) (ap (λ (t : Bytes). take k s ++ t) (joined_runs n k (drop k s)))

-- lists of k elements each, joined and filled up, are the first runs
pub joined_padded : (k n m : ℕ) (vs : List Bytes) → length vs ≡ n → ((v : Bytes) → Memᴰ v vs → length v ≡ k)
    → runs n k (padded m (flatten vs)) ≡ vs
unfolding padded
joined_padded k n m vs e h = rw (← e) (runs-joined k vs (replicate (m - length (flatten vs)) 0) h)

-- runs within the list have their length
pub runs_whole : (n k : ℕ) (s : Bytes) → k * n ≤ length s → all (λ (v : Bytes). eqb (length v) k) (runs n k s) ≡ true
runs_whole n k s h =
    at_all (λ (v : Bytes). eqb (length v) k) (runs n k s) (λ v m. eq-eqb (length v) k (runs-sized n k s h v m))
