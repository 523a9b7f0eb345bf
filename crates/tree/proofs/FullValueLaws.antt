-- The values of the full subtrees that a walk hands on (specs/LogTree.antt): one for each full
-- subtree of n, each the value of a walk of that subtree.
use mathlib.Core.Path.{◌≡◌, refl, sym, ap, ap₂, ◌∙◌, subst}
use mathlib.Core.Logic.{◌⊎◌, inl, inr}
use mathlib.Core.Bool.{true, false, false≢true}
use mathlib.Core.List.{List, [], ◌∷◌, Memᴰ}
use Prim.Native.Nat.{ℕ, zero, suc, ◌+◌, ◌-◌, ◌^◌, ◌≤◌, ◌<◌}
use native.Mathlib.Omega.{arith}
use lib.ListN.{length, drop}
use lib.Pow.{pow_pos}
use Rattle.lists.specs.Lists.{Bytes, any}
use Rattle.lists.proofs.ChoiceLaws.{choose_by}
use Rattle.tree.specs.SearchTree.{power}
use Rattle.tree.specs.LogTree.{Range, same_range, split_at, left_half, right_half, full_from, full_subtrees}
use Rattle.tree.specs.LogTree.{is_full, holds_full, is_shown, Walk, parent, node_count, Known, value_among}
use Rattle.tree.specs.LogTree.{value, full_values, walk_of}
use Rattle.tree.proofs.CollisionLaws.{Sized}
use Rattle.tree.proofs.PowerLaws.{power_unique, power_of_power, split_unique, left_half_lem, halves_meet}
use Rattle.tree.proofs.FullLaws.{full_from_none, full_from_more}
use Rattle.tree.proofs.SubtreeLaws.{Subtree, whole, cut, subtree_root, subtree_halves}
use Rattle.tree.proofs.FullBlockLaws.{same_range_lem, listed_full, full_cut}
use Rattle.tree.proofs.HoldingLaws.{LiesIn, range_equal, inside_shown, holds_full_lem}
use Rattle.tree.proofs.WalkCaseLaws.{Walks, keeps, takes, shows, splits, walk_cases, walks_over}
use Rattle.tree.proofs.WalkValueLaws.{full_values_one, full_values_both, sized_drop}

-- ---- values in the order of subtrees

-- each subtree of a list stands in a relation to the value at its place
pub data Matched (P : Range → Bytes → Type 0) : List Range → List Bytes → Type 0 where
  none : Matched P [] []
  both : {r : Range} {l : List Range} {v : Bytes} {vs : List Bytes} → P r v → Matched P l vs → Matched P (r ∷ l) (v ∷ vs)

-- There are as many values as subtrees.
pub matched_length : {P : Range → Bytes → Type 0} {l : List Range} {vs : List Bytes} → Matched P l vs → length l ≡ length vs
matched_length none = refl
matched_length (both p t) = ap suc (matched_length t)

-- Then each subtree of the list stands in the relation to the value kept of it.
pub matched_among : {P : Range → Bytes → Type 0} {l : List Range} {vs : List Bytes} → Matched P l vs → (r : Range) → any (same_range r) l ≡ true → P r (value_among l vs r)
unfolding value_among any
matched_among none r e = absurd (false≢true e)
matched_among {P} (both {r = x} {l} {v} {vs} p t) r e =
    choose_by (P r) (same_range r x) (λ _. v) (λ _. value_among l vs r)
    (λ q. subst (λ (y : Range). P y v) (sym (same_range_lem r x q)) p)
    (λ q. matched_among t r (rw q at e))

-- ---- the walk of a full subtree

-- v is the value of a walk of the subtree r of which, with its nodes, P holds
pub record Part (k : Known) (ps : List ℕ) (P : Walk → List Bytes → Type 0) (r : Range) (v : Bytes) : Type 0 where
  pub walked : Walk
  pub nodes : List Bytes
  pub walks : Walks k.size ps r walked
  pub sized : Sized nodes
  pub holds : P walked nodes
  pub is-value : value k walked nodes ≡ v

-- what holds of a walk with two children holds of both
abbrev pub OfHalves : (Walk → List Bytes → Type 0) → Type 0
OfHalves P = (r : Range) (x y : Walk) (ns : List Bytes) → P (parent r x y) ns → P x ns × P y (drop (node_count x) ns)

-- A range as wide as a power of two has one full subtree, itself.
full_from_power : (f e : ℕ) (r : Range) → r.width ≡ 2 ^ e → full_from (suc f) r.start r.width ≡ r ∷ []
full_from_power f e r q =
    let p = pow_pos e in
    let w : power r.width ≡ r.width = ap power q ∙ power_of_power e ∙ sym q in
    full_from_more f r.start r.width (omega arith)
    ∙ ap₂ (λ (x : Range) (l : List Range). x ∷ l) (range_equal (record { start = r.start; width = power r.width }) r refl w)
    (full_from_none f (r.start + power r.width) (r.width - power r.width) (omega arith))

-- The full subtrees of another range are its left half and those of its right half.
full_from_halves : (f e : ℕ) (r : Range) → 2 ^ e < r.width → r.width < 2 ^ suc e
    → full_from (suc f) r.start r.width ≡ left_half r ∷ full_from f (right_half r).start (right_half r).width
unfolding left_half right_half
full_from_halves f e r l u =
    let s : split_at r.width ≡ power r.width = split_unique e r.width l (omega arith) ∙ sym (power_unique e r.width (omega arith) u) in
    full_from_more f r.start r.width (omega arith) ∙ rw s refl

-- ---- the values handed on

-- A subtree is as wide as a power of two, or its width lies between two.
by_width : {A : Type 0} {n : ℕ} {r : Range} → Subtree n r → ((e : ℕ) → r.width ≡ 2 ^ e → A) → ((e : ℕ) → 2 ^ e < r.width → r.width < 2 ^ suc e → A) → A
by_width (whole e q h) a b = a e refl
by_width (cut e q w l u t) a b = b e l u

-- each of a list is a full subtree of n
abbrev AllFull : ℕ → List Range → Type 0
AllFull n l = (g : Range) → Memᴰ g l → is_full n g ≡ true

module _ (n : ℕ) (k : Known) (ps : List ℕ) (P : Walk → List Bytes → Type 0) (halves : OfHalves P) (last : Memᴰ (n - 1) ps ⊎ (k.size ≡ n)) where
  -- A subtree that ends at n and holds a full subtree of n is not given.
  tail-walked : (r f : Range) → 0 < r.width → r.start + r.width ≡ n → is_full n f ≡ true → LiesIn r f → is_shown ps r ≡ false → holds_full k.size r ≡ false → ⊥
  tail-walked r f w t e l s h = go last
    where
      go : Memᴰ (n - 1) ps ⊎ (k.size ≡ n) → ⊥
      go (inl i) = false≢true (sym s ∙ inside_shown ps r (n - 1) i (omega arith, omega arith))
      go (inr q) = false≢true (sym h ∙ holds_full_lem k.size r f (subst (λ (m : ℕ). is_full m f ≡ true) (sym q) e) l)

  abbrev Parts : List Range → List Bytes → Type 0
  Parts l vs = Matched (Part k ps P) l vs

  -- The whole of a walk is a part.
  part-all : {r : Range} {w : Walk} → Walks k.size ps r w → (ns : List Bytes) → Sized ns → P w ns → Part k ps P r (value k w ns)
  part-all {w} t ns d m = record { walked = w; nodes = ns; walks = t; sized = d; holds = m; is-value = refl }

  -- A subtree as wide as a power of two hands on its own value.
  part-alone : {r : Range} {w : Walk} → Walks k.size ps r w → (f e : ℕ) → r.width ≡ 2 ^ e → AllFull n (full_from (suc f) r.start r.width)
      → (ns : List Bytes) → Sized ns → P w ns → Parts (full_from (suc f) r.start r.width) (full_values n k w ns)
  part-alone {r} t f e q full ns d m =
      let h : is_full n r ≡ true = full r (rw (full_from_power f e r q) (Memᴰ.head refl)) in
      rw (full_from_power f e r q, full_values_one n r _ k ns (walks_over t) h) (both (part-all t ns d m) none)

  -- The values that a walk of a subtree which ends at n hands on are those of walks of the full
  -- subtrees of n in it. If the subtree is as wide as a power of two, it is one. Else it is not
  -- retained, nor given; it splits, its left half is a full subtree of n, and the others are those
  -- of its right half.
  full-parts : {r : Range} {w : Walk} → Walks k.size ps r w → (f : ℕ) → Subtree n r → r.width ≤ f → r.start + r.width ≡ n
      → AllFull n (full_from f r.start r.width) → (ns : List Bytes) → Sized ns → P w ns
      → Parts (full_from f r.start r.width) (full_values n k w ns)
  full-parts t zero s h tl full ns d m = by_width s (λ e q. let z = pow_pos e in absurd (omega arith)) (λ e l u. absurd (omega arith))
  full-parts (keeps {r} a b) (suc f) s h tl full ns d m = by_width s (λ e q. part-alone (keeps a b) f e q full ns d m)
      (λ e l u. absurd (false≢true (sym (full_cut k.size e r.start r.width l u) ∙ b)))
  full-parts (takes {r} a b) (suc f) s h tl full ns d m = by_width s (λ e q. part-alone (takes a b) f e q full ns d m)
      (λ e l u.
      let p = pow_pos e in
      let (ls, lw) = left_half_lem r in
      let (hs, hw) = halves_meet r (omega arith) in
      absurd (tail-walked r (left_half r) (omega arith) tl (full (left_half r) (rw (full_from_halves f e r l u) (Memᴰ.head refl))) (omega arith, omega arith) a b))
  full-parts (shows {r} w) (suc f) s h tl full ns d m = part-alone (shows w) f 0 w full ns d m
  full-parts (splits {r} {x} {y} w a b) (suc f) s h tl full ns d m = by_width s (λ e q. part-alone (splits w a b) f e q full ns d m)
      (λ e l u.
      let p = pow_pos e in
      let sp = split_unique e r.width l (omega arith) in
      let (ls, lw) = left_half_lem r in
      let (hs, hw) = halves_meet r w in
      let (mx, my) = halves r x y ns m in
      let q = full_from_halves f e r l u in
      let fl : is_full n (left_half r) ≡ true = full (left_half r) (rw q (Memᴰ.head refl)) in
      let ms = drop (node_count x) ns in
      let dm = sized_drop (node_count x) ns d in
      rw (q, full_values_both n r x y k ns (full_cut n e r.start r.width l u), full_values_one n (left_half r) x k ns (walks_over a) fl)
      (both (part-all a ns d mx)
      (full-parts {r = right_half r} b f (subtree_halves n r s w).1 (omega arith) (omega arith) (λ z i. full z (rw q (Memᴰ.tail i))) ms dm my)))

  -- The values that a walk of n entries hands on are those of walks of the full subtrees of n.
  pub full-values-parts : 0 < n → (ns : List Bytes) → Sized ns → P (walk_of n k.size ps) ns
      → Matched (Part k ps P) (full_subtrees n) (full_values n k (walk_of n k.size ps) ns)
  unfolding walk_of full_subtrees
  full-values-parts h ns d m =
      let r : Range = record { start = 0; width = n } in
      full-parts (walk_cases n k.size ps r h (omega arith)) n (subtree_root n h) (omega arith) (omega arith) (λ z i. listed_full n z i) ns d m
