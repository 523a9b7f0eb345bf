-- Where the values come from that a walk of the log tree and a lookup in a prefix tree work out,
-- and what the listed strings are for (specs/LogTree.antt, specs/PrefixTree.antt): each value is
-- the digest of a listed string, a kept or given value, or zeros; each listed string was hashed for
-- one of these values.
use mathlib.Core.Path.{◌≡◌, refl, sym, ap, subst}
use mathlib.Core.Logic.{⊎_elim}
use mathlib.Core.Bool.{true, ◌&&◌}
use mathlib.Core.List.Memᴰ
use mathlib.Core.List.{List, [], ◌∷◌, Memᴰ}
use Prim.Native.Nat.{ℕ}
use lib.ListN.{drop}
use Rattle.lists.specs.Lists.{Bytes}
use Rattle.lists.proofs.ChoiceLaws.{and_holds, holds_and}
use Rattle.hash.specs.Sha256.{sha256}
use Rattle.tree.specs.LogTree.{Range, Walk, retained, given, shown, parent, node_count, Known, zeros}
use Rattle.tree.specs.LogTree.{value, agrees, kept_values_met, walk_strings, kept_value, full_subtrees}
use Rattle.tree.specs.PrefixTree.{Terminal, searched_leaf, empty_place, foreign_leaf, bits}
use Rattle.tree.specs.PrefixTree.{terminal_strings, terminal_value, value_above, strings_above, lookup_root}
use Rattle.tree.specs.PrefixTree.{lookup_strings}
use Rattle.tree.proofs.CollisionLaws.{Within}
use Rattle.tree.proofs.WalkValueLaws.{each_drop, each_first, among_by}
use Rattle.tree.proofs.WalkPathLaws.{met_parent, strings_left, strings_right}

-- where a value comes from: a string of S was hashed to it, it is one of those handed over, or it
-- stands for nothing
pub data Origin (S handed : List Bytes) (v : Bytes) : Type 0 where
  digest : (x : Bytes) → Memᴰ x S → v ≡ sha256 x → Origin S handed v
  as-given : Memᴰ v handed → Origin S handed v
  empty : v ≡ zeros → Origin S handed v

-- ---- the log tree

-- w with the nodes ms is part of the walk v with the nodes ns
pub data PartOf : Walk → List Bytes → Walk → List Bytes → Type 0 where
  whole : {v : Walk} {ns : List Bytes} → PartOf v ns v ns
  left : {r : Range} {x y w : Walk} {ns ms : List Bytes} → PartOf x ns w ms → PartOf (parent r x y) ns w ms
  right : {r : Range} {x y w : Walk} {ns ms : List Bytes} → PartOf y (drop (node_count x) ns) w ms → PartOf (parent r x y) ns w ms

module _ (k : Known) (S handed : List Bytes) (kept : Within k.values handed) where
  -- The value of a walk comes from its strings, the kept values and the nodes.
  value-origin : (w : Walk) (ns : List Bytes) → Within (walk_strings k w ns) S → Within ns handed → Origin S handed (value k w ns)
  unfolding value walk_strings kept_value
  value-origin (retained r) ns f g = among_by (Origin S handed) (empty refl) (full_subtrees k.size) k.values r (λ x m. as-given (kept x m))
  value-origin (given r) ns f g = each_first (Origin S handed) ns (empty refl) (λ x m. as-given (g x m))
  value-origin (shown p) ns f g = digest _ (f _ (Memᴰ.head refl)) refl
  value-origin (parent r x y) ns f g = digest _ (f _ (Memᴰ.head refl)) refl

  -- So does the value of each part.
  pub part-origin : {v w : Walk} {ns ms : List Bytes} → PartOf v ns w ms → Within (walk_strings k v ns) S → Within ns handed → Origin S handed (value k w ms)
  part-origin {v} {w} {ns} whole f g = value-origin v ns f g
  part-origin (left {r} {x} {y} {ns = ns} p) f g = part-origin p (strings_left k r x y ns S f) g
  part-origin (right {r} {x} {y} {ns = ns} p) f g =
      part-origin p (strings_right k r x y ns S f) (each_drop (λ (z : Bytes). Memᴰ z handed) (node_count x) ns g)

-- x was hashed to the value of a part of the walk
pub record HashedInWalk (k : Known) (v : Walk) (ns : List Bytes) (x : Bytes) : Type 0 where
  pub part : Walk
  pub nodes : List Bytes
  pub is-part : PartOf v ns part nodes
  pub is-value : value k part nodes ≡ sha256 x

-- Each string of a walk was.
pub walk_string : (k : Known) (v : Walk) (ns : List Bytes) (x : Bytes) → Memᴰ x (walk_strings k v ns) → HashedInWalk k v ns x
unfolding walk_strings value
walk_string k (retained r) ns x m = absurd (Memᴰ.not-nil m)
walk_string k (given r) ns x m = absurd (Memᴰ.not-nil m)
walk_string k (shown p) ns x m =
    ⊎_elim (λ e. record { part = shown p; nodes = ns; is-part = whole; is-value = ap sha256 (sym e) }) (λ n. absurd (Memᴰ.not-nil n)) (Memᴰ.cases_cons m)
walk_string k (parent r y z) ns x m =
    ⊎_elim (λ e. record { part = parent r y z; nodes = ns; is-part = whole; is-value = ap sha256 (sym e) })
    (λ n.
    ⊎_elim (λ i. let h = walk_string k y ns x i in record { part = h.part; nodes = h.nodes; is-part = left h.is-part; is-value = h.is-value })
    (λ i.
    let h = walk_string k z (drop (node_count y) ns) x i in
    record { part = h.part; nodes = h.nodes; is-part = right h.is-part; is-value = h.is-value })
    (Memᴰ.append_cases (walk_strings k y ns) n))
    (Memᴰ.cases_cons m)

-- a part that was worked out has the value that is kept of its subtree, if one is
abbrev pub PartAgrees : Known → Walk → List Bytes → Type 0
PartAgrees k (retained r) ns = Unit {0}
PartAgrees k (given r) ns = Unit {0}
PartAgrees k (shown p) ns = agrees k (record { start = p; width = 1 }) (value k (shown p) ns) ≡ true
PartAgrees k (parent r x y) ns = agrees k r (value k (parent r x y) ns) ≡ true

-- The kept values are met where each part does: no other values are compared.
pub parts_met : (k : Known) (v : Walk) (ns : List Bytes) → ((w : Walk) (ms : List Bytes) → PartOf v ns w ms → PartAgrees k w ms) → kept_values_met k v ns ≡ true
unfolding kept_values_met
parts_met k (retained r) ns h = refl
parts_met k (given r) ns h = refl
parts_met k (shown p) ns h = h (shown p) ns whole
parts_met k (parent r x y) ns h =
    holds_and (agrees k r (value k (parent r x y) ns)) (kept_values_met k x ns && kept_values_met k y (drop (node_count x) ns)) (h (parent r x y) ns whole)
    (holds_and (kept_values_met k x ns) (kept_values_met k y (drop (node_count x) ns)) (parts_met k x ns (λ w ms p. h w ms (left p)))
    (parts_met k y (drop (node_count x) ns) (λ w ms p. h w ms (right p))))

-- And where they are met, the whole does, and each part: all these values are compared.
whole_agrees : (k : Known) (v : Walk) (ns : List Bytes) → kept_values_met k v ns ≡ true → PartAgrees k v ns
unfolding kept_values_met
whole_agrees k (retained r) ns h = tt
whole_agrees k (given r) ns h = tt
whole_agrees k (shown p) ns h = h
whole_agrees k (parent r x y) ns h =
    (and_holds (agrees k r (value k (parent r x y) ns)) (kept_values_met k x ns && kept_values_met k y (drop (node_count x) ns)) h).0

pub met_parts : (k : Known) {v w : Walk} {ns ms : List Bytes} → kept_values_met k v ns ≡ true → PartOf v ns w ms → PartAgrees k w ms
met_parts k {v} {ns = ns} h whole = whole_agrees k v ns h
met_parts k h (left {r} {x} {y} {ns = ns} p) = met_parts k (met_parent k r x y ns h).1 p
met_parts k h (right {r} {x} {y} {ns = ns} p) = met_parts k (met_parent k r x y ns h).2 p

-- ---- prefix trees

-- u is a value on the way from the root down to the value v, along bits and siblings
pub data OnWay : List ℕ → List Bytes → Bytes → Bytes → Type 0 where
  here : {bs : List ℕ} {ss : List Bytes} {v : Bytes} → OnWay bs ss v (value_above bs ss v)
  below : {b : ℕ} {bs : List ℕ} {s : Bytes} {ss : List Bytes} {v u : Bytes} → OnWay bs ss v u → OnWay (b ∷ bs) (s ∷ ss) v u

-- a value on the way of a lookup
abbrev pub OfLookup : Bytes → Terminal → List Bytes → Bytes → Type 0
OfLookup o t ss u = OnWay (bits o) ss (terminal_value o t) u

-- The root that a lookup leads to is one.
pub root_of_lookup : (o : Bytes) (t : Terminal) (ss : List Bytes) → OfLookup o t ss (lookup_root o t ss)
unfolding lookup_root
root_of_lookup o t ss = here

-- The way ends at the value v.
way_end : (bs : List ℕ) (ss : List Bytes) (v : Bytes) → OnWay bs ss v v
unfolding value_above
way_end [] ss v = here
way_end (b ∷ bs) [] v = here
way_end (b ∷ bs) (s ∷ ss) v = below (way_end bs ss v)

module _ (S handed : List Bytes) where
  -- A value on the way comes from where v does, or from the strings on the way.
  top-origin : (bs : List ℕ) (ss : List Bytes) (v : Bytes) → Origin S handed v → Within (strings_above bs ss v) S → Origin S handed (value_above bs ss v)
  unfolding value_above strings_above
  top-origin [] ss v h f = h
  top-origin (b ∷ bs) [] v h f = h
  top-origin (b ∷ bs) (s ∷ ss) v h f = digest _ (f _ (Memᴰ.head refl)) refl

  way-origin : {bs : List ℕ} {ss : List Bytes} {v u : Bytes} → OnWay bs ss v u → Origin S handed v → Within (strings_above bs ss v) S → Origin S handed u
  unfolding strings_above
  way-origin {bs} {ss} {v} here h f = top-origin bs ss v h f
  way-origin (below w) h f = way-origin w h (λ x m. f x (Memᴰ.tail m))

  -- What stands at a place has its value from its string, or is nothing.
  place-origin : (o : Bytes) (t : Terminal) → Within (terminal_strings o t) S → Origin S handed (terminal_value o t)
  unfolding terminal_strings terminal_value
  place-origin o (searched_leaf c) f = digest _ (f _ (Memᴰ.head refl)) refl
  place-origin o empty_place f = empty refl
  place-origin o (foreign_leaf o' c) f = digest _ (f _ (Memᴰ.head refl)) refl

  -- Each value on the way of a lookup comes from its strings, or is nothing.
  pub lookup-origin : (o : Bytes) (t : Terminal) (ss : List Bytes) (u : Bytes) → Within (lookup_strings o t ss) S → OfLookup o t ss u → Origin S handed u
  unfolding lookup_strings
  lookup-origin o t ss u f w =
      way-origin w (place-origin o t (λ x m. f x (Memᴰ.append_left (strings_above (bits o) ss (terminal_value o t)) m)))
      (λ x m. f x (Memᴰ.append_right (terminal_strings o t) m))

-- Each string on the way was hashed to a value on it.
way_string : (bs : List ℕ) (ss : List Bytes) (v x : Bytes) → Memᴰ x (strings_above bs ss v) → OnWay bs ss v (sha256 x)
unfolding strings_above value_above
way_string [] ss v x m = absurd (Memᴰ.not-nil m)
way_string (b ∷ bs) [] v x m = absurd (Memᴰ.not-nil m)
way_string (b ∷ bs) (s ∷ ss) v x m =
    ⊎_elim (λ e. subst (OnWay (b ∷ bs) (s ∷ ss) v) (ap sha256 (sym e)) here) (λ n. below (way_string bs ss v x n)) (Memᴰ.cases_cons m)

-- So was the string at the place.
place_string : (o : Bytes) (t : Terminal) (x : Bytes) → Memᴰ x (terminal_strings o t) → terminal_value o t ≡ sha256 x
unfolding terminal_strings terminal_value
place_string o (searched_leaf c) x m = ⊎_elim (λ e. ap sha256 (sym e)) (λ n. absurd (Memᴰ.not-nil n)) (Memᴰ.cases_cons m)
place_string o empty_place x m = absurd (Memᴰ.not-nil m)
place_string o (foreign_leaf o' c) x m = ⊎_elim (λ e. ap sha256 (sym e)) (λ n. absurd (Memᴰ.not-nil n)) (Memᴰ.cases_cons m)

-- Each string of a lookup was hashed to a value on its way.
pub lookup_string : (o : Bytes) (t : Terminal) (ss : List Bytes) (x : Bytes) → Memᴰ x (lookup_strings o t ss) → OfLookup o t ss (sha256 x)
unfolding lookup_strings
lookup_string o t ss x m =
    ⊎_elim (λ n. subst (OnWay (bits o) ss (terminal_value o t)) (place_string o t x n) (way_end (bits o) ss (terminal_value o t)))
    (way_string (bits o) ss (terminal_value o t) x) (Memᴰ.append_cases (terminal_strings o t) m)
