-- The values of the full subtrees that a walk over the log tree works out, and their comparison
-- with the kept ones (specs/LogTree.antt).
use mathlib.Core.Path.{◌≡◌, refl, sym, ap, ap₂, ◌∙◌}
use mathlib.Core.Bool.{Bool, true, false, ◌&&◌, false≢true, and-true, and-false}
use mathlib.Core.List.{List, [], ◌∷◌, ◌++◌, map, nil≢cons, head-eq_of_cons-eq, tail-eq_of_cons-eq}
use Prim.Native.Nat.{ℕ, zero, suc, ◌+◌, ◌-◌, ◌*◌, ◌/◌, ◌%◌, ◌^◌, ◌≤◌, ◌<◌}
use native.Mathlib.Nat.{mul-le-mul_right, pow-succ'}
use native.Mathlib.Omega.{arith}
use lib.Dec.{eqb}
use lib.ListN.{length, take, drop, length-append}
use lib.Pow.{pow_pos}
use borrow.Author.Tests.{eqb-true, eq-eqb, ne_eqb}
use Rattle.lists.specs.Choice.{choose}
use Rattle.lists.specs.Lists.{Bytes, same}
use Rattle.lists.proofs.ChoiceLaws.{and_holds, holds_and}
use Rattle.lists.proofs.ListLaws.{equal_same, same_true}
use Rattle.tree.specs.LogTree.{Range, same_range, left_half, right_half, is_full, full_subtrees, Walk}
use Rattle.tree.specs.LogTree.{retained, given, shown, parent, node_count, Known, value_among, kept_value}
use Rattle.tree.specs.LogTree.{value, agrees, kept_values_met, full_values}
use Rattle.tree.proofs.PowerLaws.{left_half_lem, halves_meet}
use Rattle.tree.proofs.DigitLaws.{cut_bounds}
use Rattle.tree.proofs.FullLaws.{Narrowing, full_narrow}
use Rattle.tree.specs.LogWalk.{range}
use Rattle.tree.proofs.SubtreeLaws.{block}
use Rattle.tree.proofs.FullBlockLaws.{full_block, full_holds}
use Rattle.tree.proofs.WalkCaseLaws.{Walks, keeps, takes, shows, splits, Over}
use Rattle.tree.proofs.WalkValueLaws.{full_values_one, full_values_both}
use Rattle.tree.proofs.ReachLaws.{over_halves, over_right, full_behind, fulls_from, fulls_none}
use Rattle.tree.proofs.ReachLaws.{fulls_first, fulls_all, Stops, Reach, starting, ending, left, right}

-- ---- the values

-- The full subtree with which the c entries end is the only one from its start on.
pub fulls_last : (e s c : ℕ) → s + 2 ^ e ≡ c → fulls_from s c ≡ range s (2 ^ e) ∷ []
fulls_last e s c h =
    let p = pow_pos e in
    let q = pow-succ' 2 e in
    fulls_first e s c (omega arith) (omega arith) ∙ ap (λ (z : List Range). range s (2 ^ e) ∷ z) (fulls_none (s + 2 ^ e) c (sym h))

-- There is a value for each full subtree of c entries.
pub full_values_enough : {c s b : ℕ} {t : Walk} → Reach c s b t → (k : Known) (nodes : List Bytes) → length (fulls_from s c) ≤ length (full_values c k t nodes)
full_values_enough {c} (starting r b t o h) k nodes = rw (fulls_none r.start c h) (omega arith)
full_values_enough {c} (ending e q b t o l h f) k nodes = rw (fulls_last e (q * 2 ^ e) c h, full_values_one c (block e q) t k nodes o f) (omega arith)
full_values_enough {c} (left e q b r x y ox oy l u f i) k nodes =
    let h = full_values_enough i k nodes in
    rw (full_values_both c r x y k nodes f, length-append (full_values c k x nodes) (full_values c k y (drop (node_count x) nodes))) (omega arith)
full_values_enough {c} (right e q b r x y ox w l u f g i) k nodes =
    let h = full_values_enough i k (drop (node_count x) nodes) in
    rw (fulls_first e (q * 2 ^ e) c l u, full_values_both c r x y k nodes f, full_values_one c (block e q) x k nodes ox g) (omega arith)

-- There is one for each and no other, where the range ends with the c entries.
pub full_values_all : {c s b : ℕ} {t : Walk} → Reach c s b t → (w : ℕ) → 0 < w → s + w ≡ c → Over (range s w) t → (k : Known) (nodes : List Bytes)
    → length (full_values c k t nodes) ≡ length (fulls_from s c)
full_values_all {c} (starting r b t o h) w p z v k nodes = absurd (omega arith)
full_values_all {c} (ending e q b t o l h f) w p z v k nodes = rw (fulls_last e (q * 2 ^ e) c h, full_values_one c (block e q) t k nodes o f) refl
full_values_all {c} (left e q b r x y ox oy l u f i) w p z v k nodes =
    let (a, _) = over_right e q (q * 2 ^ e) w r x y v ox in
    absurd (omega arith)
full_values_all {c} (right e q b r x y ox n l u f g i) w p z v k nodes =
    let (a, d) = over_right e q (q * 2 ^ e) w r x y v ox in
    let h = full_values_all i (w - 2 ^ e) (omega arith) (omega arith) d k (drop (node_count x) nodes) in
    rw (fulls_first e (q * 2 ^ e) c l u, full_values_both c r x y k nodes f, full_values_one c (block e q) x k nodes ox g) (omega arith)

-- ---- the kept values

-- each of these full subtrees has the value that is kept of it
unfoldable pub meet : Known → List Range → List Bytes → Bool
meet k [] vs = true
meet k (r ∷ rs) [] = false
meet k (r ∷ rs) (v ∷ vs) = same v (kept_value k r) && meet k rs vs

-- More values do not matter.
meet_append : (k : Known) (rs : List Range) (vs ws : List Bytes) → length rs ≤ length vs → meet k rs (vs ++ ws) ≡ meet k rs vs
unfolding meet
meet_append k [] vs ws h = refl
meet_append k (r ∷ rs) [] ws h = absurd (omega arith)
meet_append k (r ∷ rs) (v ∷ vs) ws h = ap (λ (z : Bool). same v (kept_value k r) && z) (meet_append k rs vs ws (omega arith))

-- What is no full subtree is not compared.
agrees_other : (k : Known) (r : Range) (v : Bytes) → is_full k.size r ≡ false → agrees k r v ≡ true
unfolding agrees
agrees_other k r v h = rw h refl

-- A full subtree is.
agrees_full : (k : Known) (r : Range) (v : Bytes) → is_full k.size r ≡ true → agrees k r v ≡ same v (kept_value k r)
unfolding agrees
agrees_full k r v h = rw h refl

-- Nothing that starts after the entries that were known is compared.
kept_behind : (k : Known) (r : Range) (t : Walk) (nodes : List Bytes) → Over r t → k.size ≤ r.start → kept_values_met k t nodes ≡ true
unfolding kept_values_met
kept_behind k r (retained x) nodes o h = refl
kept_behind k r (given x) nodes o h = refl
kept_behind k r (shown p) nodes o h = agrees_other k (range p 1) (value k (shown p) nodes) (ap (is_full k.size) o ∙ full_behind k.size r h)
kept_behind k r (parent z x y) nodes (o, w, a, b) h =
    let (c, d) = halves_meet r w in
    let (i, j) = left_half_lem r in
    rw (
      agrees_other k z (value k (parent z x y) nodes) (ap (is_full k.size) o ∙ full_behind k.size r h),
      kept_behind k (left_half r) x nodes a (omega arith),
      kept_behind k (right_half r) y (drop (node_count x) nodes) b (omega arith),
    ) refl

-- A half of a block of the first m entries is no full subtree of them.
full_half : (m e q : ℕ) → q / 2 * 2 ^ suc e + 2 ^ suc e ≤ m → is_full m (block e q) ≡ false
full_half m e q h = go (is_full m (block e q)) refl
  where
    go : (b : Bool) → is_full m (block e q) ≡ b → b ≡ false
    go true i =
        let (a, d) = and_holds (eqb (m / 2 ^ e) (q + 1)) (eqb (q % 2) 0) (sym (full_block m e q) ∙ i) in
        let c : m / 2 ^ e ≡ q + 1 = eqb-true (m / 2 ^ e) (q + 1) a in
        let v : q % 2 ≡ 0 = eqb-true (q % 2) 0 d in
        let p = pow-succ' 2 e in
        let (_, u) = cut_bounds m e in
        let x : m / 2 ^ e * 2 ^ e ≡ (2 * (q / 2) + 1) * 2 ^ e = ap (λ (z : ℕ). z * 2 ^ e) (omega arith) in
        let y : q / 2 * 2 ^ suc e ≡ 2 * (q / 2) * 2 ^ e = rw p (omega arith) in
        absurd (omega arith)
    go false i = refl

-- It ends where the block does or before.
half_within : (m e q : ℕ) → q / 2 * 2 ^ suc e + 2 ^ suc e ≤ m → q * 2 ^ e + 2 ^ e ≤ m
half_within m e q h =
    let p = pow-succ' 2 e in
    let x : (q + 1) * 2 ^ e ≤ (2 * (q / 2) + 2) * 2 ^ e = mul-le-mul_right (2 ^ e) (omega arith) in
    let y : q / 2 * 2 ^ suc e ≡ 2 * (q / 2) * 2 ^ e = rw p (omega arith) in
    omega arith

-- So nothing in such a half is compared.
kept_inside : (k : Known) (e q : ℕ) (t : Walk) (nodes : List Bytes) → Over (block e q) t → q / 2 * 2 ^ suc e + 2 ^ suc e ≤ k.size → kept_values_met k t nodes ≡ true
unfolding kept_values_met
kept_inside k e q (retained x) nodes o h = refl
kept_inside k e q (given x) nodes o h = refl
kept_inside k e q (shown p) nodes o h = agrees_other k (range p 1) (value k (shown p) nodes) (ap (is_full k.size) o ∙ full_half k.size e q h)
kept_inside k zero q (parent z x y) nodes (o, w, a, b) h = absurd (omega arith)
kept_inside k (suc e) q (parent z x y) nodes o h =
    let (a, b) = over_halves e q z x y o in
    let i : 2 * q / 2 ≡ q = omega arith in
    let j : (2 * q + 1) / 2 ≡ q = omega arith in
    let s : q * 2 ^ suc e + 2 ^ suc e ≤ k.size = half_within k.size (suc e) q h in
    rw (
      agrees_other k z (value k (parent z x y) nodes) (ap (is_full k.size) o.0 ∙ full_half k.size (suc e) q h),
      kept_inside k e (2 * q) x nodes a (rw i s),
      kept_inside k e (2 * q + 1) y (drop (node_count x) nodes) b (rw j s),
    ) refl

-- no range whose value is given is a full subtree of m entries
abbrev pub NoneGiven : ℕ → Walk → Type 0
NoneGiven m t = Stops (λ r. Unit {0}) (λ r. is_full m r ≡ false) t

-- So it is with the walk.
pub none_given : {m : ℕ} {ps : List ℕ} {r : Range} {t : Walk} → Walks m ps r t → NoneGiven m t
none_given (keeps a b) = tt
none_given {m} (takes {r} a b) = go (is_full m r) refl
  where
    go : (f : Bool) → is_full m r ≡ f → f ≡ false
    go true e = absurd (false≢true (sym b ∙ full_holds m r e))
    go false e = refl
none_given (shows w) = tt
none_given (splits w x y) = (none_given x, none_given y)

-- A retained subtree has its kept value.
value_retained : (k : Known) (r : Range) (nodes : List Bytes) → value k (retained r) nodes ≡ kept_value k r
unfolding value
value_retained k r nodes = refl

-- The comparison at a full subtree is with its own kept value alone.
kept_one : (k : Known) (e q : ℕ) (t : Walk) (nodes : List Bytes) → Over (block e q) t → is_full k.size (block e q) ≡ true → q * 2 ^ e + 2 ^ e ≤ k.size
    → NoneGiven k.size t → kept_values_met k t nodes ≡ same (value k t nodes) (kept_value k (block e q))
unfolding kept_values_met
kept_one k e q (retained x) nodes o f h g = sym (equal_same (value k (retained x) nodes) (kept_value k (block e q)) (value_retained k x nodes ∙ ap (kept_value k) o))
kept_one k e q (given x) nodes o f h g = absurd (false≢true (sym g ∙ ap (is_full k.size) o ∙ f))
kept_one k e q (shown p) nodes o f h g =
    agrees_full k (range p 1) (value k (shown p) nodes) (ap (is_full k.size) o ∙ f)
    ∙ ap (λ (z : Range). same (value k (shown p) nodes) (kept_value k z)) o
kept_one k zero q (parent z x y) nodes (o, w, a, b) f h g = absurd (omega arith)
kept_one k (suc e) q (parent z x y) nodes o f h g =
    let (a, b) = over_halves e q z x y o in
    let i : 2 * q / 2 ≡ q = omega arith in
    let j : (2 * q + 1) / 2 ≡ q = omega arith in
    rw (kept_inside k e (2 * q) x nodes a (rw i h), kept_inside k e (2 * q + 1) y (drop (node_count x) nodes) b (rw j h))
    (and-true (agrees k z (value k (parent z x y) nodes))
    ∙ agrees_full k z (value k (parent z x y) nodes) (ap (is_full k.size) o.0 ∙ f)
    ∙ ap (λ (i : Range). same (value k (parent z x y) nodes) (kept_value k i)) o.0)

-- At another subtree with two children it is that of both.
kept_both : (k : Known) (z : Range) (x y : Walk) (nodes : List Bytes) → is_full k.size z ≡ false
    → kept_values_met k (parent z x y) nodes ≡ (kept_values_met k x nodes && kept_values_met k y (drop (node_count x) nodes))
unfolding kept_values_met
kept_both k z x y nodes f = rw (agrees_other k z (value k (parent z x y) nodes) f) refl

-- Refusal 14 compares the full subtrees of m entries, and nothing else.
kept_meet : (k : Known) {s b : ℕ} {t : Walk} → Reach k.size s b t → NoneGiven k.size t → (nodes : List Bytes)
    → kept_values_met k t nodes ≡ meet k (fulls_from s k.size) (full_values k.size k t nodes)
unfolding meet
kept_meet k (starting r b t o h) g nodes = rw (fulls_none r.start k.size h) (kept_behind k r t nodes o (omega arith))
kept_meet k (ending e q b t o l h f) g nodes =
    rw (fulls_last e (q * 2 ^ e) k.size h, full_values_one k.size (block e q) t k nodes o f)
    (kept_one k e q t nodes o f (omega arith) g ∙ sym (and-true (same (value k t nodes) (kept_value k (block e q)))))
kept_meet k (left e q b r x y ox oy l u f i) (gx, gy) nodes =
    let rs : List Range = fulls_from (q * 2 ^ e) k.size in
    let vs : List Bytes = full_values k.size k x nodes in
    let ns : List Bytes = drop (node_count x) nodes in
    kept_both k r x y nodes f ∙ ap₂ (λ (a b : Bool). a && b) (kept_meet k i gx nodes) (kept_behind k (right_half r) y ns oy u) ∙ and-true (meet k rs vs)
    ∙ sym (ap (meet k rs) (full_values_both k.size r x y k nodes f) ∙ meet_append k rs vs (full_values k.size k y ns) (full_values_enough i k nodes))
kept_meet k (right e q b r x y ox n l u f g i) (gx, gy) nodes =
    rw (fulls_first e (q * 2 ^ e) k.size l u, full_values_both k.size r x y k nodes f, full_values_one k.size (block e q) x k nodes ox g)
    (kept_both k r x y nodes f ∙ ap₂ (λ (a b : Bool). a && b) (kept_one k e q x nodes ox g l gx) (kept_meet k i gy (drop (node_count x) nodes)))

-- ---- the kept values as a list

-- The value of the first range is the first.
among_first : (x : Range) (xs : List Range) (v : Bytes) (vs : List Bytes) → value_among (x ∷ xs) (v ∷ vs) x ≡ v
unfolding value_among choose same_range
among_first x xs v vs = rw (eq-eqb x.start x.start refl, eq-eqb x.width x.width refl) refl

-- That of a narrower range is among the others.
among_narrower : (x : Range) (xs : List Range) (v : Bytes) (vs : List Bytes) (y : Range) → y.width < x.width → value_among (x ∷ xs) (v ∷ vs) y ≡ value_among xs vs y
unfolding value_among choose same_range
among_narrower x xs v vs y h = rw (ne_eqb y.width x.width (λ z. omega arith), and-false (eqb y.start x.start)) refl

among_others : (x : Range) (xs : List Range) (v : Bytes) (vs : List Bytes) (b : ℕ) (ys : List Range) → Narrowing b ys → b ≤ x.width
    → map (value_among (x ∷ xs) (v ∷ vs)) ys ≡ map (value_among xs vs) ys
among_others x xs v vs b [] n h = refl
among_others x xs v vs b (y ∷ ys) (l, n) h =
    ap₂ (λ (z : Bytes) (zs : List Bytes). z ∷ zs) (among_narrower x xs v vs y (omega arith)) (among_others x xs v vs y.width ys n (omega arith))

-- Values of ranges each narrower than the one before it are found in their order.
among_all : (rs : List Range) (vs : List Bytes) (b : ℕ) → Narrowing b rs → length vs ≡ length rs → map (value_among rs vs) rs ≡ vs
among_all [] [] b n h = refl
among_all [] (v ∷ vs) b n h = absurd (omega arith)
among_all (x ∷ xs) [] b n h = absurd (omega arith)
among_all (x ∷ xs) (v ∷ vs) b (l, n) h =
    ap₂ (λ (z : Bytes) (zs : List Bytes). z ∷ zs) (among_first x xs v vs)
    (among_others x xs v vs x.width xs n (omega arith) ∙ among_all xs vs x.width n (omega arith))

-- So the values found of the full subtrees of m are the kept values, if there are as many.
pub kept_listed : (k : Known) → length k.values ≡ length (full_subtrees k.size) → map (kept_value k) (full_subtrees k.size) ≡ k.values
unfolding kept_value
kept_listed k h = among_all (full_subtrees k.size) k.values (suc k.size) (full_narrow k.size) h

meet_true : (k : Known) (rs : List Range) (vs : List Bytes) → meet k rs vs ≡ true → take (length rs) vs ≡ map (kept_value k) rs
unfolding meet
meet_true k [] vs h = refl
meet_true k (r ∷ rs) [] h = absurd (false≢true h)
meet_true k (r ∷ rs) (v ∷ vs) h =
    let (a, b) = and_holds (same v (kept_value k r)) (meet k rs vs) h in
    ap₂ (λ (x : Bytes) (xs : List Bytes). x ∷ xs) (same_true v (kept_value k r) a) (meet_true k rs vs b)

true_meet : (k : Known) (rs : List Range) (vs : List Bytes) → take (length rs) vs ≡ map (kept_value k) rs → meet k rs vs ≡ true
unfolding meet
true_meet k [] vs h = refl
true_meet k (r ∷ rs) [] h = absurd (nil≢cons h)
true_meet k (r ∷ rs) (v ∷ vs) h =
    holds_and (same v (kept_value k r)) (meet k rs vs) (equal_same v (kept_value k r) (head-eq_of_cons-eq h)) (true_meet k rs vs (tail-eq_of_cons-eq h))

-- Refusal 14 does not apply exactly where the values of the full subtrees of m, of which the walk
-- gives more than it needs, are the kept values.
pub kept_values_met_lem : (k : Known) {b : ℕ} {t : Walk} → Reach k.size 0 b t → NoneGiven k.size t → (nodes : List Bytes)
    → length k.values ≡ length (full_subtrees k.size)
    → (kept_values_met k t nodes ≡ true → take (length k.values) (full_values k.size k t nodes) ≡ k.values)
    × (take (length k.values) (full_values k.size k t nodes) ≡ k.values → kept_values_met k t nodes ≡ true)
kept_values_met_lem k {b} {t} i g nodes h = (
  λ e. rw h (meet_true k (full_subtrees k.size) (full_values k.size k t nodes) (sym (compared) ∙ e) ∙ kept_listed k h),
  λ e. compared ∙ true_meet k (full_subtrees k.size) (full_values k.size k t nodes) (rw h at e ∙ sym (kept_listed k h)),
)
  where
    compared : kept_values_met k t nodes ≡ meet k (full_subtrees k.size) (full_values k.size k t nodes)
    compared = kept_meet k i g nodes ∙ ap (λ (z : List Range). meet k z (full_values k.size k t nodes)) (sym (fulls_all k.size))
