-- Laws of runs of elements (lists, specs/Lists.antt), and of a run copied out of a string.
use mathlib.Core.Path.{◌≡◌, refl, sym, ◌∙◌, ap}
use mathlib.Core.List.{List, [], ◌∷◌, ◌++◌, map, flat_map, flatten, append_assoc, map-id, Memᴰ}
use Prim.Native.Nat.{ℕ, zero, suc, ◌+◌, ◌*◌, ◌≤◌, ◌<◌}
use native.Mathlib.Numerals.{add-one}
use native.Mathlib.Omega.{arith}
use lib.ListN.{length, take, drop, get_or, set, length-append, length-drop, length-map, get_or-map}
use lib.ListN.{get_or-eq_default}
use lib.Seq.{take-nil, take-suc, take-suc-set, take_at, drop_at, drop-drop, get_or-drop, length-take-le}
use Rattle.lists.specs.Lists.{runs}
use Rattle.lists.proofs.MemberLaws.{each_nil, each-cons}
use Rattle.hash.specs.Bytes.{AreBytes}
use Rattle.hash.proofs.BytesLaws.{bytes_take, bytes_drop}

-- within a list it does not matter what stands beyond its end
pub get_d_any : {A : Type 0} (l : List A) (i : ℕ) (d e : A) → i < length l → get_or l i d ≡ get_or l i e
get_d_any [] i d e h = absurd (omega arith)
get_d_any (x ∷ l) zero d e h = refl
get_d_any (x ∷ l) (suc i) d e h = get_d_any l i d e (omega arith)

module _ {A : Type 0} where
  -- there are as many runs as are asked for
  pub length_runs : (n k : ℕ) (s : List A) → length (runs n k s) ≡ n
  unfolding runs
  length_runs zero k s = refl
  length_runs (suc n) k s = ap suc (length_runs n k (drop k s))

  -- the run of a number below theirs
  pub runs-at : (n k : ℕ) (s : List A) (i : ℕ) (d : List A) → i < n → get_or (runs n k s) i d ≡ take k (drop (k * i) s)
  unfolding runs
  runs-at zero k s i d h = absurd (omega arith)
  runs-at (suc n) k s zero d h = let e : k * 0 ≡ 0 = omega arith in rw e refl
  runs-at (suc n) k s (suc i) d h =
      let e : k * suc i ≡ k + k * i = omega arith in
      runs-at n k (drop k s) i d (omega arith) ∙ ap (take k) (drop-drop (k * i) k s ∙ ap (λ (m : ℕ). drop m s) (sym e))

  -- and the value of a function at it
  pub mapped-run : {B : Type 0} (f : List A → B) (n k : ℕ) (s : List A) (i : ℕ) (d : B) → i < n → get_or (map f (runs n k s)) i d ≡ f (take k (drop (k * i) s))
  mapped-run f n k s i d h =
      let l : i < length (map f (runs n k s)) = omega (arith, length-map (runs n k s) f, length_runs n k s) in
      get_d_any (map f (runs n k s)) i d (f []) l ∙ get_or-map f (runs n k s) i [] ∙ ap f (runs-at n k s i [] h)

  -- there is none beyond them
  pub mapped-none : {B : Type 0} (f : List A → B) (n k : ℕ) (s : List A) (i : ℕ) (d : B) → n ≤ i → get_or (map f (runs n k s)) i d ≡ d
  mapped-none f n k s i d h =
      get_or-eq_default (map f (runs n k s)) d {n = i} (omega (arith, length-map (runs n k s) f, length_runs n k s))

  -- each has k elements, where there are enough
  pub runs-sized : (n k : ℕ) (s : List A) → k * n ≤ length s → (v : List A) → Memᴰ v (runs n k s) → length v ≡ k
  unfolding runs
  runs-sized zero k s h = each_nil (λ (v : List A). length v ≡ k)
  runs-sized (suc n) k s h =
      each-cons (λ (v : List A). length v ≡ k) (take k s) (runs n k (drop k s)) (length-take-le k s (omega arith))
      (runs-sized n k (drop k s) (omega (arith, length-drop k s)))

  -- texts of k elements each, one after the other, are k times as long as there are texts
  pub length-texts : {B : Type 0} (k : ℕ) (text : B → List A) (xs : List B) → ((b : B) → Memᴰ b xs → length (text b) ≡ k)
      → length (flat_map text xs) ≡ k * length xs
  unfolding flat_map
  length-texts k text [] h = omega arith
  length-texts k text (x ∷ xs) h =
      let i = length-texts k text xs (λ b m. h b (Memᴰ.tail m)) in
      let j = h x (Memᴰ.head refl) in
      omega (arith, length-append (text x) (flat_map text xs))

  -- and they are the first runs of what they join to
  pub runs-texts : {B : Type 0} (k : ℕ) (text : B → List A) (xs : List B) (rest : List A) → ((b : B) → Memᴰ b xs → length (text b) ≡ k)
      → runs (length xs) k (flat_map text xs ++ rest) ≡ map text xs
  unfolding runs flat_map
  runs-texts k text [] rest h = refl
  runs-texts k text (x ∷ xs) rest h =
      let l = h x (Memᴰ.head refl) in
      let s = flat_map text xs ++ rest in
      let i = runs-texts k text xs rest (λ b m. h b (Memᴰ.tail m)) in
      rw (append_assoc (text x) (flat_map text xs) rest, take_at (text x) s k l, drop_at (text x) s k l, i) refl

  -- to join lists is to join what is made of them, themselves
  joined-flat : (vs : List (List A)) → flatten vs ≡ flat_map (λ (v : List A). v) vs
  unfolding flatten flat_map
  joined-flat [] = refl
  joined-flat (v ∷ vs) = ap (λ (s : List A). v ++ s) (joined-flat vs)

  -- so it is with lists of k elements each
  pub length-joined : (k : ℕ) (vs : List (List A)) → ((v : List A) → Memᴰ v vs → length v ≡ k) → length (flatten vs) ≡ k * length vs
  length-joined k vs h = ap length (joined-flat vs) ∙ length-texts k (λ (v : List A). v) vs h

  pub runs-joined : (k : ℕ) (vs : List (List A)) (rest : List A) → ((v : List A) → Memᴰ v vs → length v ≡ k) → runs (length vs) k (flatten vs ++ rest) ≡ vs
  runs-joined k vs rest h = ap (λ (s : List A). runs (length vs) k (s ++ rest)) (joined-flat vs) ∙ runs-texts k (λ (v : List A). v) vs rest h ∙ map-id vs

  -- the first elements of what stands a little into a string are those of its front
  pub drop-take : (m n : ℕ) (s : List A) → drop m (take (m + n) s) ≡ take n (drop m s)
  drop-take zero n s = let e : 0 + n ≡ n = omega arith in rw e refl
  drop-take (suc m) n [] = rw (take-nil {A = A} (suc m + n), take-nil {A = A} n) refl
  drop-take (suc m) n (x ∷ s) = let e : suc m + n ≡ suc (m + n) = omega arith in rw e (drop-take m n s)

-- the runs of bytes are bytes
pub runs_bytes : (n k : ℕ) (s : List ℕ) → AreBytes s → (v : List ℕ) → Memᴰ v (runs n k s) → AreBytes v
unfolding runs
runs_bytes zero k s h = each_nil AreBytes
runs_bytes (suc n) k s h =
    each-cons AreBytes (take k s) (runs n k (drop k s)) (bytes_take k s h) (runs_bytes n k (drop k s) (bytes_drop k s h))

-- one element more of a run that is copied
pub copied_step : (r s : List ℕ) (n k : ℕ) → k < length r → n + k < length s → take k r ≡ take k (drop n s)
    → take (k + 1) (set r k (get_or s (n + k) 0)) ≡ take (k + 1) (drop n s)
copied_step r s n k h l e =
    let j : k < length (drop n s) = omega (arith, length-drop n s) in
    rw (add-one k, take-suc-set r k (get_or s (n + k) 0) h, take-suc (drop n s) k 0 j, get_or-drop n s k 0, e) refl
