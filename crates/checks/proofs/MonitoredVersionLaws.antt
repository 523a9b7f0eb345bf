-- Laws of the versions that monitoring looks up (specs/MonitoredVersions.antt): the pair with the
-- largest version, and a ladder's versions stored.
use mathlib.Core.Path.{◌≡◌, refl, sym, ◌∙◌, ap}
use mathlib.Core.Bool.{Bool, true, false}
use mathlib.Core.List.{List, [], ◌∷◌, map}
use Prim.Native.Nat.{ℕ, suc, max, ◌+◌, ◌≤◌, ◌<◌}
use native.Mathlib.Numerals.{add-one}
use native.Mathlib.Omega.{arith}
use lib.Dec.{eqb, leb}
use lib.ListN.{length, get_or, drop, set, replicate}
use Rattle.std.specs.Prelude.{Some, None, Option as CodeOption}
use Rattle.lists.specs.Lists.{any, select, largest}
use Rattle.lists.proofs.ListLaws.{select_here, select_later, select_length, largest_more, largest_none}
use Rattle.lines.proofs.OffsetLaws.{at_cons, at_end}
use Rattle.hash.specs.Bytes.{padded}
use Rattle.tree.specs.Ladder.{ladder, ladder_within, ladder_capacity}
use Rattle.tree.specs.SearchTree.{right_ancestors}
use Rattle.tree.proofs.FillLaws.{Filling, filling_start, filling_same, filling_within, filling_next}
use Rattle.tree.proofs.FillLaws.{filling_end}
use Rattle.tree.proofs.LadderFillLaws.{ladder_fits, within_some}
use Rattle.rules.specs.Limits.{greatest_version}
use Rattle.rules.specs.State.{MapEntry, versions}
use Rattle.rules.specs.Monitoring.{reaches, versions_reaching, versions_shown}
use Rattle.inputs.specs.State.{map_of}
use Rattle.inputs.proofs.PairLaws.{pairs_from_lem}
use Rattle.checks.specs.MonitoredVersions.{not_above, IsLargest}
use Rattle.checks.proofs.NotAboveLaws.{up_to, up_to_here, up_to_later}

-- ---- the pair with the largest version

-- the versions of the pairs from the i-th on whose right path holds x
abbrev reaching_from : ℕ → List ℕ → List ℕ → ℕ → ℕ → List ℕ
reaching_from n ps vs x i = versions_reaching n (map_of (drop i ps) (drop i vs)) x

-- among the pairs from the i-th on whose right path holds x, the largest version is that of a pair;
-- or there is none
abbrev pub Found : ℕ → List ℕ → List ℕ → ℕ → ℕ → CodeOption ℕ → Type 0
Found n ps vs x i None = 0 ≡ largest (map suc (reaching_from n ps vs x i))
Found n ps vs x i (Some pair) =
    (pair < length vs) × (suc (get_or vs pair 0) ≡ largest (map suc (reaching_from n ps vs x i)))

-- of no pairs no version is looked up
shown_none : (ws : List ℕ) → 0 ≡ largest (map suc ws) → versions_shown ws ≡ []
unfolding versions_shown
shown_none ws e = rw (largest_none ws e) refl

-- of others those not above the largest
shown_some : (ws : List ℕ) (v : ℕ) → suc v ≡ largest (map suc ws) → versions_shown ws ≡ not_above v
unfolding versions_shown not_above largest
shown_some [] v e = absurd (omega arith)
shown_some (w ∷ ws) v e = let z : largest (w ∷ ws) ≡ v = omega (arith, largest_more w ws) in ap not_above z

module _ (n : ℕ) (ps vs : List ℕ) (x : ℕ) (e : length ps ≡ length vs) where
  -- past the last pair there is none
  pub found-start : Found n ps vs x (length ps) None
  unfolding largest versions_reaching select map_of
  found-start = rw (at_end ps (length ps) (omega arith)) refl

  -- the answer
  pub found_all : (o : CodeOption ℕ) → Found n ps vs x 0 o → IsLargest n ps vs x o
  found_all None f = shown_none (versions_reaching n (map_of ps vs) x) f
  found_all (Some pair) (l, f) = (l, shown_some (versions_reaching n (map_of ps vs) x) (get_or vs pair 0) f)

  module _ (i k : ℕ) (z : k ≡ suc i) (l : k ≤ length ps) (r : Bool)
      (t : r ≡ any (eqb x) (right_ancestors n (get_or ps i 0))) where
    -- the pairs after the i-th
    abbrev behind : List MapEntry
    behind = map_of (drop k ps) (drop k vs)

    -- the pairs from the i-th on
    from-here : map_of (drop i ps) (drop i vs) ≡ record { position = get_or ps i 0; version = get_or vs i 0 } ∷ behind
    from-here = rw (z, ← add-one i) (pairs_from_lem ps vs i (omega arith) (omega arith))

    -- a pair whose right path holds x has its version among them
    reaching-held : r ≡ true → reaching_from n ps vs x i ≡ get_or vs i 0 ∷ reaching_from n ps vs x k
    unfolding versions_reaching reaches
    reaching-held h =
        rw from-here (ap versions
        (select_here (reaches n x) (record { position = get_or ps i 0; version = get_or vs i 0 }) behind (sym t ∙ h)))

    -- any other has not
    reaching-not : r ≡ false → reaching_from n ps vs x i ≡ reaching_from n ps vs x k
    unfolding versions_reaching reaches
    reaching-not h =
        rw from-here (ap versions
        (select_later (reaches n x) (record { position = get_or ps i 0; version = get_or vs i 0 }) behind (sym t ∙ h)))

    -- a pair that does not count is passed over
    pub found-past : r ≡ false → (o : CodeOption ℕ) → Found n ps vs x k o → Found n ps vs x i o
    found-past h None f = f ∙ ap (λ (ws : List ℕ). largest (map suc ws)) (sym (reaching-not h))
    found-past h (Some pair) (b, f) = (b, f ∙ ap (λ (ws : List ℕ). largest (map suc ws)) (sym (reaching-not h)))

    module _ (h : r ≡ true) where
      -- of one that counts the version is compared with the largest
      top-held : (above : ℕ) → above ≡ largest (map suc (reaching_from n ps vs x k))
          → largest (map suc (reaching_from n ps vs x i)) ≡ max (suc (get_or vs i 0)) above
      unfolding largest
      top-held above f = rw (reaching-held h) (ap (max (suc (get_or vs i 0))) (sym f))

      -- the first that counts
      pub found-first : Found n ps vs x k None → Found n ps vs x i (Some i)
      found-first f = (omega arith, omega (arith, top-held 0 f))

      module _ (pair : ℕ) (f : Found n ps vs x k (Some pair)) where
        -- one with a version that is not larger is passed over
        pub found_below : get_or vs i 0 ≤ get_or vs pair 0 → Found n ps vs x i (Some pair)
        found_below b = (f.0, omega (arith, top-held (suc (get_or vs pair 0)) f.1))

        -- one with a larger version takes the place of that found before
        pub found-above : get_or vs pair 0 < get_or vs i 0 → Found n ps vs x i (Some i)
        found-above b = (omega arith, omega (arith, top-held (suc (get_or vs pair 0)) f.1))

-- ---- the versions not above a version, stored

-- there are no more than the room
pub not_above_fits : (v : ℕ) → v ≤ greatest_version → length (not_above v) ≤ ladder_capacity
unfolding not_above
not_above_fits v h = omega (arith, ladder_fits v (omega arith), select_length (λ (u : ℕ). leb u v) (ladder v))

-- nor has the whole ladder more
pub within_fits : (v : ℕ) → v ≤ greatest_version → length (ladder_within v) ≤ ladder_capacity
within_fits v h = omega (arith, ladder_fits v (omega arith), ap length (within_some v (omega arith)))

-- those of the ladder's first i versions that are not above v are stored
abbrev pub Storing : ℕ → List ℕ → ℕ → ℕ → Type 0
Storing v array count i = Filling ladder_capacity (not_above v) array count (up_to v (drop i (ladder v)))

-- at first none is
pub storing_start : (v : ℕ) → Storing v (replicate ladder_capacity 0) 0 0
unfolding not_above
storing_start v = filling_start ladder_capacity (not_above v)

module _ (v : ℕ) (h : v ≤ greatest_version) (all : List ℕ) (a : all ≡ ladder_within v) where
  -- the ladder is within 32 bits
  is_ladder : all ≡ ladder v
  is_ladder = a ∙ within_some v (omega arith)

  module _ (array : List ℕ) (count i : ℕ) (f : Storing v array count i) where
    -- past the ladder's last version all are stored
    pub storing-end : length all ≤ i → (array ≡ padded ladder_capacity (not_above v)) × (count ≡ length (not_above v))
    unfolding select
    storing-end l =
        filling_end (filling_same (ap (up_to v) (at_end (ladder v) i (omega (arith, ap length is_ladder)))) f)

    module _ (l : i < length all) where
      -- the ladder from its i-th version on
      ladder-from : drop i (ladder v) ≡ get_or all i 0 ∷ drop (i + 1) (ladder v)
      ladder-from = rw (← is_ladder) (at_cons all i l)

      -- a version above v is passed over
      pub storing-past : v < get_or all i 0 → Storing v array count (i + 1)
      storing-past k =
          filling_same (ap (up_to v) ladder-from ∙ up_to_later v (get_or all i 0) (drop (i + 1) (ladder v)) k) f

      module _ (k : get_or all i 0 ≤ v) where
        -- any other is the first that is left
        storing-here : Filling ladder_capacity (not_above v) array count
            (get_or all i 0 ∷ up_to v (drop (i + 1) (ladder v)))
        storing-here =
            filling_same (ap (up_to v) ladder-from ∙ up_to_here v (get_or all i 0) (drop (i + 1) (ladder v)) k) f

        -- there is room for it
        pub storing-room : count < ladder_capacity
        storing-room = omega (arith, filling_within storing-here, not_above_fits v h)

        -- and it is stored
        pub storing-next : Storing v (set array count (get_or all i 0)) (count + 1) (i + 1)
        storing-next = filling_next (not_above_fits v h) storing-here
