-- Laws of an array of zeros that is filled from its front with the elements of a list, one after
-- the other.
use mathlib.Core.Path.{◌≡◌, refl, sym, ap, ◌∙◌}
use mathlib.Core.List.{List, [], ◌∷◌}
use Prim.Native.Nat.{ℕ, suc, ◌+◌, ◌-◌, ◌≤◌, ◌<◌}
use native.Mathlib.Numerals.{add-one}
use native.Mathlib.Omega.{arith}
use lib.ListN.{length, get_or, take, drop, set, replicate, length-drop, get_or-append}
use lib.Seq.{take-suc, take_all, drop-cons, length-take-le}
use Rattle.hash.specs.Bytes.{padded}
use Rattle.hash.proofs.BytesLaws.{padded_nil, padded_set}

-- an array of n elements in which the first of the whole list, as many as counted, are stored, and
-- what is left of the list
pub record Filling (n : ℕ) (whole array : List ℕ) (count : ℕ) (rest : List ℕ) : Type 0 where
  pub stored : array ≡ padded n (take count whole)
  pub left : drop count whole ≡ rest
  pub within : count ≤ length whole

-- At first nothing is stored, and all is left.
pub filling_start : (n : ℕ) (whole : List ℕ) → Filling n whole (replicate n 0) 0 whole
filling_start n whole = record { stored = padded_nil n; left = refl; within = omega arith }

-- What is left may be said in other words.
pub filling_same : {n : ℕ} {whole array : List ℕ} {count : ℕ} {rest rest' : List ℕ} → rest ≡ rest' → Filling n whole array count rest → Filling n whole array count rest'
filling_same e f = record { stored = f.stored; left = f.left ∙ e; within = f.within }

-- While an element is left, fewer than all are stored.
pub filling_within : {n : ℕ} {whole array : List ℕ} {count x : ℕ} {rest : List ℕ} → Filling n whole array count (x ∷ rest) → count < length whole
filling_within f = omega (arith, simp length-drop at (ap length f.left))

-- The first that is left is stored next.
pub filling_next : {n : ℕ} {whole array : List ℕ} {count x : ℕ} {rest : List ℕ} → length whole ≤ n → Filling n whole array count (x ∷ rest)
    → Filling n whole (set array count x) (count + 1) rest
filling_next {n} {whole} {array} {count} {x} {rest} h f =
    let w : count < length whole = filling_within f in
    let e : get_or whole count 0 ∷ drop (suc count) whole ≡ x ∷ rest = sym (drop-cons whole count 0 w) ∙ f.left in
    let this : get_or whole count 0 ≡ x = cc in
    let s : set array count x ≡ padded n (take (count + 1) whole) =
    rw (add-one, take-suc whole count 0 w, this) (padded_set n count x (take count whole) array f.stored (length-take-le count whole f.within) (omega arith)) in
    record { stored = s; left = rw add-one (cc); within = omega arith }

-- Once as many as there are have been stored, the whole list is stored.
pub filling_whole : {n : ℕ} {whole array : List ℕ} {count : ℕ} {rest : List ℕ} → Filling n whole array count rest → length whole ≤ count → array ≡ padded n whole
filling_whole {n} {whole} {array} {count} f h = f.stored ∙ ap (padded n) (take_all count whole h)

-- Where nothing is left, the whole list is stored, and counted.
pub filling_end : {n : ℕ} {whole array : List ℕ} {count : ℕ} → Filling n whole array count [] → (array ≡ padded n whole) × (count ≡ length whole)
filling_end {n} {whole} {array} {count} f =
    let e : count ≡ length whole = omega (arith, f.within, simp length-drop at (ap length f.left)) in
    (filling_whole f (omega arith), e)

-- An array that holds a list has the list's elements.
pub filled_at : (n i : ℕ) (whole array : List ℕ) → array ≡ padded n whole → i < length whole → get_or array i 0 ≡ get_or whole i 0
unfolding padded
filled_at n i whole array e h = ap (λ (l : List ℕ). get_or l i 0) e ∙ get_or-append whole (replicate (n - length whole) 0) 0 i h
