-- Laws of the pairs of a monitoring map, which stand as positions and as versions
-- (specs/State.antt).
use mathlib.Core.Path.{◌≡◌, refl, sym, ◌∙◌, ap, ap₂}
use mathlib.Core.Bool.{Bool, true, false, and-false}
use mathlib.Core.List.{List, [], ◌∷◌}
use Prim.Native.Nat.{ℕ, zero, suc, ◌+◌, ◌≤◌, ◌<◌}
use native.Mathlib.Numerals.{add-one}
use native.Mathlib.Omega.{arith}
use lib.Dec.{leb}
use lib.ListN.{length, get_or, drop, length-map}
use borrow.Author.Tests.{le-leb, lt-leb, lt-ltb, le-ltb, leb-true}
use Rattle.lists.specs.Lists.{all}
use Rattle.lists.proofs.ListLaws.{all_at, at_member}
use Rattle.lines.proofs.OffsetLaws.{at_cons}
use Rattle.tree.specs.LogWalk.{rising_below}
use Rattle.tree.proofs.RisingBelowLaws.{between, between_all}
use Rattle.rules.specs.Limits.{greatest_version}
use Rattle.rules.specs.State.{MapEntry, positions, versions}
use Rattle.inputs.specs.State.{map_of, pairs_fit}

-- ---- pairs, tested one after the other

-- a version that is not too great
abbrev is_not_too_great : ℕ → Bool
is_not_too_great v = leb v greatest_version

-- the pairs that are left, with a bound that their positions are to reach, decide whether all fit
pub record PairsLeft (size : ℕ) (ps vs : List ℕ) (least : ℕ) (qs ws : List ℕ) : Type 0 where
  pub rise : between least size qs ≡ between 0 size ps
  pub versions_fit : all is_not_too_great ws ≡ all is_not_too_great vs
  pub as_many : length qs ≡ length ws

-- at first all are left
pub pairs_start : (size : ℕ) (ps vs : List ℕ) → length ps ≡ length vs → PairsLeft size ps vs 0 ps vs
pairs_start size ps vs n = record { rise = refl; versions_fit = refl; as_many = n }

module _ (size : ℕ) (ps vs : List ℕ) (least : ℕ) where
  -- when none is left they fit
  pub pairs_end : (qs ws : List ℕ) → PairsLeft size ps vs least qs ws → length qs ≡ 0 → true ≡ pairs_fit size ps vs
  unfolding pairs_fit all
  pairs_end [] [] left e = rw (← between_all size ps, ← left.rise, ← left.versions_fit) refl
  pairs_end [] (w ∷ ws) left e = absurd (let n = left.as_many in omega arith)
  pairs_end (q ∷ qs) ws left e = absurd (omega arith)

  module _ (q : ℕ) (qs : List ℕ) (w : ℕ) (ws : List ℕ) (left : PairsLeft size ps vs least (q ∷ qs) (w ∷ ws)) where
    -- a position below the bound decides
    pub pairs-low : q < least → false ≡ pairs_fit size ps vs
    unfolding pairs_fit
    pairs-low l = rw (← between_all size ps, ← left.rise, lt-leb least q l) refl

    -- so does one that is not below the size
    pub pairs-high : size ≤ q → false ≡ pairs_fit size ps vs
    unfolding pairs_fit
    pairs-high h = rw (← between_all size ps, ← left.rise, le-ltb q size h, and-false (leb least q)) refl

    -- so does a version that is too great
    pub pairs-great : greatest_version < w → false ≡ pairs_fit size ps vs
    unfolding pairs_fit all
    pairs-great g = rw (← left.versions_fit, lt-leb w greatest_version g) (sym (and-false (rising_below size ps)))

    -- past another pair those after it decide, with the number after its position as the bound
    pub pairs_next : least ≤ q → q < size → w ≤ greatest_version → PairsLeft size ps vs (q + 1) qs ws
    unfolding all
    pairs_next l h g =
        let n = left.as_many in
        let r : between (q + 1) size qs ≡ between least size (q ∷ qs) =
        rw (add-one q, le-leb least q l, lt-ltb q size h) refl in
        let v : all is_not_too_great ws ≡ all is_not_too_great (w ∷ ws) = rw (le-leb w greatest_version g) refl in
        record { rise = r ∙ left.rise; versions_fit = v ∙ left.versions_fit; as_many = omega arith }

-- where no version is too great, the one at an offset is not
pub version_within : (vs : List ℕ) (i : ℕ) → all is_not_too_great vs ≡ true → i < length vs
    → get_or vs i 0 ≤ greatest_version
version_within vs i a h =
    leb-true (get_or vs i 0) greatest_version (all_at is_not_too_great vs (get_or vs i 0) a (at_member vs i 0 h))

-- ---- pairs by their positions and their versions

-- pairs made of positions and as many versions have those positions
pub map_positions : (ps vs : List ℕ) → length ps ≡ length vs → positions (map_of ps vs) ≡ ps
unfolding map_of
map_positions [] vs e = refl
map_positions (p ∷ ps) [] e = absurd (omega arith)
map_positions (p ∷ ps) (v ∷ vs) e = ap (λ (l : List ℕ). p ∷ l) (map_positions ps vs (omega arith))

-- and those versions
pub map_versions : (ps vs : List ℕ) → length ps ≡ length vs → versions (map_of ps vs) ≡ vs
unfolding map_of
map_versions [] [] e = refl
map_versions [] (v ∷ vs) e = absurd (omega arith)
map_versions (p ∷ ps) [] e = absurd (omega arith)
map_versions (p ∷ ps) (v ∷ vs) e = ap (λ (l : List ℕ). v ∷ l) (map_versions ps vs (omega arith))

-- and are as many
pub map_length : (ps vs : List ℕ) → length ps ≡ length vs → length (map_of ps vs) ≡ length ps
map_length ps vs e = sym (length-map (map_of ps vs) (λ (x : MapEntry). x.position)) ∙ ap length (map_positions ps vs e)

-- pairs are made again of their positions and their versions
pub map_made : (es : List MapEntry) → map_of (positions es) (versions es) ≡ es
unfolding map_of
map_made [] = refl
map_made (e ∷ es) = ap (λ (l : List MapEntry). e ∷ l) (map_made es)

-- without positions there are none
pub map_none : (ps vs : List ℕ) → length ps ≡ 0 → map_of ps vs ≡ []
unfolding map_of
map_none [] vs e = refl
map_none (p ∷ ps) vs e = absurd (omega arith)

-- a pair has the position and the version of its index
pub map_at : (ps vs : List ℕ) (i : ℕ) (d : MapEntry) → i < length ps → i < length vs
    → get_or (map_of ps vs) i d ≡ record { position = get_or ps i 0; version = get_or vs i 0 }
unfolding map_of
map_at [] vs i d h l = absurd (omega arith)
map_at (p ∷ ps) [] i d h l = absurd (omega arith)
map_at (p ∷ ps) (v ∷ vs) zero d h l = refl
map_at (p ∷ ps) (v ∷ vs) (suc i) d h l = map_at ps vs i d (omega arith) (omega arith)

-- the pairs from an index on are the one there and those after it
pub pairs_from_lem : (ps vs : List ℕ) (i : ℕ) → i < length ps → i < length vs
    → map_of (drop i ps) (drop i vs)
    ≡ record { position = get_or ps i 0; version = get_or vs i 0 } ∷ map_of (drop (i + 1) ps) (drop (i + 1) vs)
unfolding map_of
pairs_from_lem ps vs i h l = ap₂ map_of (at_cons ps i h) (at_cons vs i l)

-- pairs are no more than their positions
pub pairs_few : (ps vs : List ℕ) → length (map_of ps vs) ≤ length ps
unfolding map_of
pairs_few [] vs = omega arith
pairs_few (p ∷ ps) [] = omega arith
pairs_few (p ∷ ps) (v ∷ vs) = let h = pairs_few ps vs in omega arith
