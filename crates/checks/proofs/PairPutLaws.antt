-- Laws of a pair put into the monitoring map (specs/Map.antt): it is carried from index to index,
-- and where it is stored, the one that stood there is carried on.
use mathlib.Core.Path.{◌≡◌, refl, sym, ◌∙◌, ap}
use mathlib.Core.Bool.{true}
use mathlib.Core.List.{List, [], ◌∷◌, ◌++◌, map, map-append, append_assoc, append-nil}
use Prim.Native.Nat.{ℕ, ◌+◌, ◌-◌, ◌≤◌, ◌<◌}
use native.Mathlib.Omega.{arith}
use lib.Dec.{eqb, ltb}
use lib.ListN.{length, take, get_or, set, replicate, length-append, length-map}
use lib.Seq.{set_at, get_or_at}
use borrow.Author.Tests.{lt-ltb, le-ltb, eq-eqb, ne_eqb, ltb-true}
use Rattle.std.specs.Prelude.{Some, None}
use Rattle.lists.specs.Lists.{rising}
use Rattle.lists.proofs.ChoiceLaws.{choose_true, choose_false, and_holds}
use Rattle.lists.proofs.RisingLaws.{rising_tail}
use Rattle.hash.specs.Bytes.{padded}
use Rattle.hash.proofs.BytesLaws.{padded_set}
use Rattle.rules.specs.Limits.{map_limit}
use Rattle.rules.specs.State.{MapEntry, positions, versions}
use Rattle.rules.specs.Kinds.{put_entry}
use Rattle.inputs.specs.declared.state.MonitoringMap.{MonitoringMap}
use Rattle.inputs.proofs.PairLaws.{map_positions, map_versions, map_length}
use Rattle.checks.specs.Map.{IsMap, pairs_in, put_version, Holds, HoldsIfRoom}
use Rattle.checks.proofs.MapBlockLaws.{filled}

-- ---- a pair against the first of a map

module _ (p v : ℕ) where
  -- into none
  put_none : put_version p v [] ≡ record { position = p; version = v } ∷ []
  unfolding put_entry
  put_none = refl

  module _ (x : MapEntry) (xs : List MapEntry) where
    -- before it
    put-below : p < x.position → put_version p v (x ∷ xs) ≡ record { position = p; version = v } ∷ x ∷ xs
    unfolding put_entry
    put-below h = choose_true (ltb p x.position) _ _ (lt-ltb p x.position h)

    -- over it
    put_over : x.position ≡ p → put_version p v (x ∷ xs) ≡ record { position = p; version = v } ∷ xs
    unfolding put_entry
    put_over h =
        choose_false (ltb p x.position) _ _ (le-ltb p x.position (omega arith))
        ∙ choose_true (eqb p x.position) _ _ (eq-eqb p x.position (sym h))

    -- after it
    put-above : x.position < p → put_version p v (x ∷ xs) ≡ x ∷ put_version p v xs
    unfolding put_entry
    put-above h =
        choose_false (ltb p x.position) _ _ (le-ltb p x.position (omega arith))
        ∙ choose_false (eqb p x.position) _ _ (ne_eqb p x.position (λ e. omega arith))

-- the first of a map, put to the others, is the first again
put_again : (x : MapEntry) (xs : List MapEntry) → rising (positions (x ∷ xs)) ≡ true
    → put_version x.position x.version xs ≡ x ∷ xs
unfolding rising
put_again x [] h = put_none x.position x.version
put_again x (y ∷ ys) h =
    put-below x.position x.version y ys
    (ltb-true x.position y.position
    (and_holds (ltb x.position y.position) (rising (positions (y ∷ ys))) h).0)

-- ---- the positions or the versions of pairs, with zeros after them

-- one pair for another
column_same : (f : MapEntry → ℕ) (es : List MapEntry) (x y : MapEntry) (xs : List MapEntry) → f x ≡ f y
    → map f (es ++ x ∷ xs) ≡ map f (es ++ y ∷ xs)
column_same f es x y xs e =
    map-append f es (x ∷ xs) ∙ ap (λ (n : ℕ). map f es ++ n ∷ map f xs) e ∙ sym (map-append f es (y ∷ xs))

module _ (f : MapEntry → ℕ) (n i : ℕ) (es : List MapEntry) (l : length es ≡ i) where
  -- those before an index, at it and after it
  column-split : (x : MapEntry) (xs : List MapEntry)
      → padded n (map f (es ++ x ∷ xs)) ≡ map f es ++ f x ∷
      (map f xs ++ replicate (n - length (map f (es ++ x ∷ xs))) 0)
  unfolding padded
  column-split x xs =
      ap (λ (s : List ℕ). s ++ replicate (n - length (map f (es ++ x ∷ xs))) 0) (map-append f es (x ∷ xs))
      ∙ append_assoc (map f es) (f x ∷ map f xs) (replicate (n - length (map f (es ++ x ∷ xs))) 0)

  -- so many stand before it
  column-length : length (map f es) ≡ i
  column-length = length-map es f ∙ l

  -- what stands at the index
  column-at : (d : List ℕ) (x : MapEntry) (xs : List MapEntry) → d ≡ padded n (map f (es ++ x ∷ xs))
      → get_or d i 0 ≡ f x
  column-at d x xs e =
      ap (λ (s : List ℕ). get_or s i 0) (e ∙ column-split x xs)
      ∙ get_or_at (map f es) (f x)
      (map f xs ++ replicate (n - length (map f (es ++ x ∷ xs))) 0) 0 i column-length

  -- another pair stored there
  column-set : (d : List ℕ) (x y : MapEntry) (xs : List MapEntry) → d ≡ padded n (map f (es ++ x ∷ xs))
      → set d i (f y) ≡ padded n (map f (es ++ y ∷ xs))
  column-set d x y xs e =
      let k : length (map f (es ++ x ∷ xs)) ≡ length (map f (es ++ y ∷ xs)) =
      length-map (es ++ x ∷ xs) f ∙ length-append es (x ∷ xs)
      ∙ sym (length-map (es ++ y ∷ xs) f ∙ length-append es (y ∷ xs)) in
      ap (λ (s : List ℕ). set s i (f y)) (e ∙ column-split x xs)
      ∙ set_at (map f es) (f x) (map f xs ++ replicate (n - length (map f (es ++ x ∷ xs))) 0)
      (f y) i column-length
      ∙ ap (λ (m : ℕ). map f es ++ f y ∷ (map f xs ++ replicate (n - m) 0)) k
      ∙ sym (column-split y xs)

  -- a pair stored after all
  column-end : (d : List ℕ) (y : MapEntry) → d ≡ padded n (map f es) → i < n
      → set d i (f y) ≡ padded n (map f (es ++ y ∷ []))
  column-end d y e h =
      padded_set n i (f y) (map f es) d e column-length h ∙ ap (padded n) (sym (map-append f es (y ∷ [])))

-- ---- carrying

-- so many pairs stand as they will, and a pair is carried to the others
pub record Carrying (whole : List MapEntry) (count : ℕ) (ps vs : List ℕ) (p v i : ℕ) : Type 0 where
  done : List MapEntry
  left : List MapEntry
  front : length done ≡ i
  counted : i + length left ≡ count
  rise : rising (positions left) ≡ true
  in_positions : ps ≡ padded map_limit (positions (done ++ left))
  in_versions : vs ≡ padded map_limit (versions (done ++ left))
  put : done ++ put_version p v left ≡ whole

-- at first nothing is done
pub carrying_start : (m : MonitoringMap) (p v : ℕ) → IsMap m
    → Carrying (put_version p v (pairs_in m)) m.count m.positions m.versions p v 0
carrying_start m p v h =
    let ps = take m.count m.positions in
    let vs = take m.count m.versions in
    let a : length ps ≡ m.count = filled m.count m.positions h.few h.positions in
    let e : length ps ≡ length vs = a ∙ sym (filled m.count m.versions h.few h.versions) in
    let x = map_positions ps vs e in
    let y = map_versions ps vs e in
    record {
      done = [];
      left = pairs_in m;
      front = refl;
      counted = omega (arith, map_length ps vs e);
      rise = ap rising x ∙ h.rise;
      in_positions = h.positions ∙ ap (padded map_limit) (sym x);
      in_versions = h.versions ∙ ap (padded map_limit) (sym y);
      put = refl;
    }

module _ {whole : List MapEntry} {count : ℕ} {ps vs : List ℕ} {p v i : ℕ} (few : count ≤ map_limit)
    (c : Carrying whole count ps vs p v i) where
  -- so many pairs, of these positions and versions, are the whole, and fit
  abbrev Told : ℕ → List ℕ → List ℕ → Type 0
  Told n qs ws = HoldsIfRoom whole (Some (record { positions = qs; versions = ws; count = n }))

  -- they are, where the arrays hold them
  told : (n : ℕ) (qs ws : List ℕ) (es : List MapEntry) → es ≡ whole → n ≤ map_limit → n ≡ length es
      → qs ≡ padded map_limit (positions es)
      → ws ≡ padded map_limit (versions es) → Told n qs ws
  told n qs ws es e h l a b =
      let k : length whole ≤ map_limit = omega (arith, ap length e) in
      let r : Holds whole (record { positions = qs; versions = ws; count = n }) =
      record {
        positions = a ∙ ap (λ (x : List MapEntry). padded map_limit (positions x)) e;
        versions = b ∙ ap (λ (x : List MapEntry). padded map_limit (versions x)) e;
        count = l ∙ ap length e;
      } in
      (k, r)

  -- the pair that stands at an index which is left, and those after it
  record Here : Type 0 where
    pair : MapEntry
    others : List MapEntry
    counted : i + length (pair ∷ others) ≡ count
    rise : rising (positions (pair ∷ others)) ≡ true
    in_positions : ps ≡ padded map_limit (positions (c.done ++ pair ∷ others))
    in_versions : vs ≡ padded map_limit (versions (c.done ++ pair ∷ others))
    put : c.done ++ put_version p v (pair ∷ others) ≡ whole

  -- there is one before the count
  here : i < count → Here
  here h = go c.left c.counted c.rise c.in_positions c.in_versions c.put
    where
      go : (es : List MapEntry) → i + length es ≡ count → rising (positions es) ≡ true
          → ps ≡ padded map_limit (positions (c.done ++ es))
          → vs ≡ padded map_limit (versions (c.done ++ es)) → c.done ++ put_version p v es ≡ whole → Here
      go [] l r a b e = absurd (omega arith)
      go (x ∷ xs) l r a b e =
          record { pair = x; others = xs; counted = l; rise = r; in_positions = a; in_versions = b; put = e }

  -- the position there is its own
  position_here : (x : Here) → get_or ps i 0 ≡ x.pair.position
  position_here x =
      column-at (λ (e : MapEntry). e.position) map_limit i c.done c.front ps x.pair x.others
      x.in_positions

  -- and so is the version
  version-here : (x : Here) → get_or vs i 0 ≡ x.pair.version
  version-here x =
      column-at (λ (e : MapEntry). e.version) map_limit i c.done c.front vs x.pair x.others
      x.in_versions

  -- one index on
  front-next : (x : MapEntry) → length (c.done ++ x ∷ []) ≡ i + 1
  front-next x = omega (arith, length-append c.done (x ∷ []), c.front)

  -- a pair of the same position: the carried one goes over it
  pub carried-over : i < count → get_or ps i 0 ≡ p → Told count ps (set vs i v)
  carried-over h e =
      let x = here h in
      let new : MapEntry = record { position = p; version = v } in
      let q : x.pair.position ≡ p = sym (position_here x) ∙ e in
      let w : c.done ++ new ∷ x.others ≡ whole =
      ap (λ (l : List MapEntry). c.done ++ l) (sym (put_over p v x.pair x.others q)) ∙ x.put in
      let l : count ≡ length (c.done ++ new ∷ x.others) =
      omega (arith, length-append c.done (new ∷ x.others), c.front, x.counted) in
      let a : ps ≡ padded map_limit (positions (c.done ++ new ∷ x.others)) =
      x.in_positions
      ∙ ap (padded map_limit)
      (column_same (λ (y : MapEntry). y.position) c.done x.pair new x.others q) in
      told count ps (set vs i v) (c.done ++ new ∷ x.others) w few l a
      (column-set (λ (y : MapEntry). y.version) map_limit i c.done c.front vs x.pair new x.others
      x.in_versions)

  -- a pair of a lower position: it stays
  pub carried-past : {qs ws : List ℕ} {q w : ℕ} → i < count → get_or ps i 0 < p → qs ≡ ps → ws ≡ vs → q ≡ p
      → w ≡ v → Carrying whole count qs ws q w (i + 1)
  carried-past {q = q} {w = w} h e eqs ews eq ew =
      let x = here h in
      let on : put_version q w x.others ≡ put_version p v x.others = rw (eq, ew) refl in
      let s : (c.done ++ x.pair ∷ []) ++ x.others ≡ c.done ++ x.pair ∷ x.others =
      append_assoc c.done (x.pair ∷ []) x.others in
      record {
        done = c.done ++ x.pair ∷ [];
        left = x.others;
        front = front-next x.pair;
        counted = omega (arith, x.counted);
        rise = rising_tail x.pair.position (positions x.others) x.rise;
        in_positions =
            eqs ∙ x.in_positions ∙ ap (λ (l : List MapEntry). padded map_limit (positions l)) (sym s);
        in_versions = ews ∙ x.in_versions ∙ ap (λ (l : List MapEntry). padded map_limit (versions l)) (sym s);
        put =
            append_assoc c.done (x.pair ∷ []) (put_version q w x.others)
            ∙ ap (λ (l : List MapEntry). c.done ++ x.pair ∷ l) on
            ∙ ap (λ (l : List MapEntry). c.done ++ l)
            (sym (put-above p v x.pair x.others (omega (arith, position_here x)))) ∙ x.put;
      }

  -- a pair of a higher position: it is carried on
  pub carried-stored : {qs ws : List ℕ} {q w : ℕ} → i < count → p < get_or ps i 0 → qs ≡ set ps i p
      → ws ≡ set vs i v → q ≡ get_or ps i 0 → w ≡ get_or vs i 0
      → Carrying whole count qs ws q w (i + 1)
  carried-stored {q = q} {w = w} h e eqs ews eq ew =
      let x = here h in
      let new : MapEntry = record { position = p; version = v } in
      let s : (c.done ++ new ∷ []) ++ x.others ≡ c.done ++ new ∷ x.others =
      append_assoc c.done (new ∷ []) x.others in
      let on : put_version q w x.others ≡ x.pair ∷ x.others =
      rw (eq ∙ position_here x, ew ∙ version-here x) (put_again x.pair x.others x.rise) in
      record {
        done = c.done ++ new ∷ [];
        left = x.others;
        front = front-next new;
        counted = omega (arith, x.counted);
        rise = rising_tail x.pair.position (positions x.others) x.rise;
        in_positions =
            eqs ∙ column-set (λ (y : MapEntry). y.position) map_limit i c.done c.front ps x.pair new
            x.others x.in_positions
            ∙ ap (λ (l : List MapEntry). padded map_limit (positions l)) (sym s);
        in_versions =
            ews ∙ column-set (λ (y : MapEntry). y.version) map_limit i c.done c.front vs x.pair new
            x.others x.in_versions
            ∙ ap (λ (l : List MapEntry). padded map_limit (versions l)) (sym s);
        put =
            append_assoc c.done (new ∷ []) (put_version q w x.others)
            ∙ ap (λ (l : List MapEntry). c.done ++ new ∷ l) on
            ∙ ap (λ (l : List MapEntry). c.done ++ l)
            (sym (put-below p v x.pair x.others (omega (arith, position_here x)))) ∙ x.put;
      }

  -- after all pairs the carried one is the last
  module _ (h : count ≤ i) where
    -- nothing is left
    nothing_left : c.left ≡ []
    nothing_left = go c.left c.counted
      where
        go : (es : List MapEntry) → i + length es ≡ count → es ≡ []
        go [] l = refl
        go (x ∷ xs) l = absurd (omega arith)

    -- all is done
    all_done : c.done ++ c.left ≡ c.done
    all_done = ap (λ (l : List MapEntry). c.done ++ l) nothing_left ∙ append-nil c.done

    -- the whole has one pair more
    one_more : c.done ++ record { position = p; version = v } ∷ [] ≡ whole
    one_more =
        ap (λ (l : List MapEntry). c.done ++ l) (sym (ap (put_version p v) nothing_left ∙ put_none p v))
        ∙ c.put

    -- than so many
    front-whole : length c.done ≡ count
    front-whole = omega (arith, c.counted, c.front)

    -- with no room for it
    pub carried-beyond : count ≡ map_limit → HoldsIfRoom whole None
    carried-beyond e =
        let l = length-append c.done (record { position = p; version = v } ∷ []) in
        omega (arith, l, front-whole, ap length one_more)

    -- with room
    pub carried-last : count < map_limit → Told (count + 1) (set ps count p) (set vs count v)
    carried-last k =
        let new : MapEntry = record { position = p; version = v } in
        told (count + 1) (set ps count p) (set vs count v) (c.done ++ new ∷ []) one_more (omega arith)
        (omega (arith, length-append c.done (new ∷ []), front-whole))
        (column-end (λ (y : MapEntry). y.position) map_limit count c.done front-whole ps new
        (c.in_positions ∙ ap (λ (l : List MapEntry). padded map_limit (positions l)) all_done) k)
        (column-end (λ (y : MapEntry). y.version) map_limit count c.done front-whole vs new
        (c.in_versions ∙ ap (λ (l : List MapEntry). padded map_limit (versions l)) all_done) k)
