-- Laws of the monitoring map after monitoring (specs/Map.antt): the version at a position, and the
-- pairs moved one after the other, from the last on.
use mathlib.Core.Path.{◌≡◌, refl, sym, ◌∙◌, ap, ap₂, subst}
use mathlib.Core.Bool.{Bool, true, false}
use mathlib.Core.List.{List, [], ◌∷◌}
use mathlib.Core.Option.{Option, Option-elim}
use Prim.Native.Nat.{ℕ, ◌+◌, ◌-◌, ◌≤◌, ◌<◌, max}
use native.Mathlib.Omega.{arith}
use lib.Dec.{eqb, ltb}
use lib.ListN.{length, take, drop, get_or, replicate, length-take, length-drop, drop_of_length-le}
use lib.Seq.{get_or-take}
use borrow.Author.Tests.{eq-eqb, ne_eqb, eqb-true, eqb-false, ltb-true}
use Rattle.std.specs.Prelude.{Some, None, IsSome, Option as CodeOption}
use Rattle.std.proofs.lemmas.Option.{same_Some}
use Rattle.lists.specs.Choice.{choose}
use Rattle.lists.specs.Lists.{first, rising, last_or}
use Rattle.lists.proofs.ChoiceLaws.{and_holds}
use Rattle.lists.proofs.ListLaws.{first_here, first_later}
use Rattle.lists.proofs.RisingLaws.{rising_tail}
use Rattle.hash.proofs.BytesLaws.{padded_nil}
use Rattle.tree.specs.SearchTree.{right_ancestors}
use Rattle.rules.specs.Limits.{map_limit}
use Rattle.rules.specs.State.{MapEntry, positions}
use Rattle.rules.specs.Kinds.{put_entry}
use Rattle.rules.specs.Monitoring.{map_after_monitoring}
use Rattle.rules.proofs.NextStateLaws.{monitored_length, monitored_rises}
use Rattle.inputs.specs.declared.state.MonitoringMap.{MonitoringMap}
use Rattle.inputs.specs.State.{map_of}
use Rattle.inputs.proofs.PairLaws.{pairs_from_lem, pairs_few}
use Rattle.checks.specs.Map.{IsMap, pairs_in, put_version, Holds, HoldsIfRoom, version_at}
use Rattle.checks.proofs.MapBlockLaws.{filled, held-pairs, held-map}

-- ---- the pairs of a struct from an index on

abbrev pub pairs_from : MonitoringMap → ℕ → List MapEntry
pairs_from m i = map_of (drop i (take m.count m.positions)) (drop i (take m.count m.versions))

-- a struct that holds no pairs
abbrev no_pairs : MonitoringMap
no_pairs = record { positions = replicate map_limit 0; versions = replicate map_limit 0; count = 0 }

-- the pair at an index of a struct
abbrev pair_at : MonitoringMap → ℕ → MapEntry
pair_at m i = record { position = get_or m.positions i 0; version = get_or m.versions i 0 }

-- they are the one there and those after it
pairs_at : (m : MonitoringMap) → IsMap m → (i : ℕ) → i < m.count
    → pairs_from m i ≡ pair_at m i ∷ pairs_from m (i + 1)
pairs_at m h i l =
    let ps = take m.count m.positions in
    let vs = take m.count m.versions in
    let a = filled m.count m.positions h.few h.positions in
    let b = filled m.count m.versions h.few h.versions in
    pairs_from_lem ps vs i (omega arith) (omega arith)
    ∙ ap₂ (λ (p v : ℕ). record { position = p; version = v } ∷ pairs_from m (i + 1))
    (get_or-take m.count m.positions i 0 l) (get_or-take m.count m.versions i 0 l)

-- after all there is none
pairs_end : (m : MonitoringMap) (i : ℕ) → m.count ≤ i → [] ≡ pairs_from m i
unfolding map_of
pairs_end m i l =
    let behind : length (take m.count m.positions) ≤ i =
    omega (arith, length-take m.count m.positions) in
    ap (λ (qs : List ℕ). map_of qs (drop i (take m.count m.versions)))
    (sym (drop_of_length-le (take m.count m.positions) behind))

-- ---- the version at a position

module _ (p : ℕ) (x : MapEntry) (xs : List MapEntry) where
  -- it is that of a first pair that stands there
  version-here : x.position ≡ p → version_at p (x ∷ xs) ≡ x.version
  unfolding version_at Option-elim
  version-here e =
      ap (λ (o : Option MapEntry). Option-elim o 0 (λ y. y.version))
      (first_here (λ (y : MapEntry). eqb y.position p) x xs (eq-eqb x.position p e))

  -- a first pair that stands elsewhere is passed over
  version-later : (x.position ≡ p → ⊥) → version_at p (x ∷ xs) ≡ version_at p xs
  unfolding version_at
  version-later n =
      ap (λ (o : Option MapEntry). Option-elim o 0 (λ y. y.version))
      (first_later (λ (y : MapEntry). eqb y.position p) x xs (ne_eqb x.position p n))

-- where positions rise, none stands below the first
version_below : (p : ℕ) (x : MapEntry) (xs : List MapEntry) → rising (positions (x ∷ xs)) ≡ true
    → p < x.position → version_at p (x ∷ xs) ≡ 0
unfolding rising version_at first Option-elim
version_below p x [] r h = version-later p x [] (λ e. omega arith)
version_below p x (y ∷ ys) r h =
    let l =
    ltb-true x.position y.position
    (and_holds (ltb x.position y.position) (rising (positions (y ∷ ys))) r).0 in
    version-later p x (y ∷ ys) (λ e. omega arith)
    ∙ version_below p y ys (rising_tail x.position (positions (y ∷ ys)) r) (omega arith)

module _ (m : MonitoringMap) (p i : ℕ) (left : version_at p (pairs_from m i) ≡ version_at p (pairs_in m)) where
  -- the pair at the index stands there
  pub version-found : IsMap m → i < m.count → get_or m.positions i 0 ≡ p
      → get_or m.versions i 0 ≡ version_at p (pairs_in m)
  version-found h l e =
      sym (version-here p (pair_at m i) (pairs_from m (i + 1)) e) ∙ ap (version_at p) (sym (pairs_at m h i l))
      ∙ left

  -- it stands elsewhere
  pub version-passed : IsMap m → i < m.count → (get_or m.positions i 0 ≡ p → ⊥)
      → version_at p (pairs_from m (i + 1)) ≡ version_at p (pairs_in m)
  version-passed h l n =
      sym (version-later p (pair_at m i) (pairs_from m (i + 1)) n) ∙ ap (version_at p) (sym (pairs_at m h i l))
      ∙ left

  -- none is left
  pub version-none : m.count ≤ i → 0 ≡ version_at p (pairs_in m)
  unfolding version_at first Option-elim
  version-none l = ap (version_at p) (pairs_end m i l) ∙ left

-- ---- a pair moved into the others

-- where positions rise, the pair that is put takes the larger of its version and of the one that
-- stands there
put_larger : (e : MapEntry) (es : List MapEntry) → rising (positions es) ≡ true
    → put_entry max e es ≡ put_version e.position (max e.version (version_at e.position es)) es
unfolding put_entry version_at first Option-elim choose
put_larger e [] r =
    let z : e.version ≡ max e.version 0 = omega arith in
    ap (λ (v : ℕ). record { position = e.position; version = v } ∷ []) z
put_larger e (x ∷ xs) r =
    go (ltb p x.position) refl (eqb p x.position) refl
    (put_larger e xs (rising_tail x.position (positions xs) r))
  where
    p : ℕ
    p = e.position

    v : ℕ
    v = max e.version (version_at p (x ∷ xs))

    pair : ℕ → MapEntry
    pair w = record { position = p; version = w }

    go : (a : Bool) → ltb p x.position ≡ a → (b : Bool) → eqb p x.position ≡ b
        → put_entry max e xs ≡ put_version p (max e.version (version_at p xs)) xs
        → choose a (λ _. e ∷ x ∷ xs)
        (λ _. choose b (λ _. pair (max e.version x.version) ∷ xs) (λ _. x ∷ put_entry max e xs))
        ≡ choose a (λ _. pair v ∷ x ∷ xs) (λ _. choose b (λ _. pair v ∷ xs) (λ _. x ∷ put_version p v xs))
    go true a b q f =
        let z : e.version ≡ v = omega (arith, version_below p x xs r (ltb-true p x.position a)) in
        ap (λ (w : ℕ). pair w ∷ x ∷ xs) z
    go false a true q f =
        ap (λ (w : ℕ). pair (max e.version w) ∷ xs)
        (sym (version-here p x xs (sym (eqb-true p x.position q))))
    go false a false q f =
        let n = version-later p x xs (λ i. eqb-false p x.position q (sym i)) in
        ap (λ (l : List MapEntry). x ∷ l) (f ∙ ap (λ (w : ℕ). put_version p (max e.version w) xs) (sym n))

-- ---- the pairs moved one after the other, from the last on

-- the pairs of a struct from an index on, moved
abbrev pub moved_from : ℕ → MonitoringMap → ℕ → List MapEntry
moved_from n m i = map_after_monitoring n (pairs_from m i)

module _ (n : ℕ) (m : MonitoringMap) (h : IsMap m) where
  -- their positions rise
  moved-rises : (i : ℕ) → rising (positions (moved_from n m i)) ≡ true
  moved-rises i = monitored_rises n (pairs_from m i)

  -- they have room
  moved-few : (i : ℕ) → length (moved_from n m i) ≤ map_limit
  moved-few i =
      let qs = take m.count m.positions in
      omega (
        arith,
        h.few,
        monitored_length n (pairs_from m i),
        pairs_few (drop i qs) (drop i (take m.count m.versions)),
        length-drop i qs,
        length-take m.count m.positions,
      )

  -- at first none is moved
  pub moved_none : Holds (moved_from n m m.count) no_pairs
  unfolding map_after_monitoring
  moved_none =
      subst (λ (es : List MapEntry). Holds es no_pairs)
      (ap (map_after_monitoring n) (pairs_end m m.count (omega arith)))
      (record { positions = padded_nil map_limit; versions = padded_nil map_limit; count = refl })

  -- the pair at an index, at the end of its right path
  abbrev moved_pair : ℕ → MapEntry
  moved_pair i =
      let p = get_or m.positions i 0 in
      record { position = last_or p (right_ancestors n p); version = get_or m.versions i 0 }

  -- those from the index before are the pair there, moved, put into the others
  moved_before : (i : ℕ) → 0 < i → i ≤ m.count
      → moved_from n m (i - 1) ≡ put_entry max (moved_pair (i - 1)) (moved_from n m i)
  unfolding map_after_monitoring
  moved_before i l w =
      let on : i - 1 + 1 ≡ i = omega arith in
      ap (map_after_monitoring n) (pairs_at m h (i - 1) (omega arith))
      ∙ ap (λ (j : ℕ). put_entry max (moved_pair (i - 1)) (moved_from n m j)) on

  module _ (i : ℕ) (r : MonitoringMap) (g : Holds (moved_from n m i) r) where
    -- the struct is a map
    pub moved-map : IsMap r
    moved-map = held-map (moved_from n m i) r g (moved-rises i) (moved-few i)

    -- the pair before them is moved too
    pub moved-next : (end there v : ℕ) (new : CodeOption MonitoringMap) → 0 < i → i ≤ m.count
        → end ≡ last_or (get_or m.positions (i - 1) 0) (right_ancestors n (get_or m.positions (i - 1) 0))
        → there ≡ version_at end (pairs_in r) → v ≡ max (get_or m.versions (i - 1) 0) there
        → HoldsIfRoom (put_version end v (pairs_in r)) new
        → IsSome new × ((x : MonitoringMap) → new ≡ Some x → Holds (moved_from n m (i - 1)) x)
    moved-next end there v new l w q t u k =
        let e : pairs_in r ≡ moved_from n m i = held-pairs (moved_from n m i) r g in
        let o = get_or m.versions (i - 1) 0 in
        let version : v ≡ max o (version_at end (moved_from n m i)) =
        u ∙ ap (max o) (t ∙ ap (version_at end) e) in
        let whole = put_version end v (pairs_in r) in
        let put : whole ≡ moved_from n m (i - 1) =
        ap₂ (put_version end) version e
        ∙ sym (put_larger (record { position = end; version = o }) (moved_from n m i) (moved-rises i))
        ∙ ap (λ (p : ℕ). put_entry max (record { position = p; version = o }) (moved_from n m i)) q
        ∙ sym (moved_before i l w) in
        go whole put new k
      where
        go : (es : List MapEntry) → es ≡ moved_from n m (i - 1) → (o : CodeOption MonitoringMap) → HoldsIfRoom es o
            → IsSome o × ((x : MonitoringMap) → o ≡ Some x → Holds (moved_from n m (i - 1)) x)
        go es e None f = absurd (omega (arith, moved-few (i - 1), ap length e, f))
        go es e (Some x) f = (
          refl,
          λ y q. subst (λ (z : MonitoringMap). Holds (moved_from n m (i - 1)) z) (same_Some x y q)
              (subst (λ (l : List MapEntry). Holds l x) e f.1),
        )
