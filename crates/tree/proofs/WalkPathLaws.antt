-- Walks of the log tree and paths of parents (specs/LogTree.antt): what a walk of a subtree works
-- out leads down to each shown entry, and to each entry that a kept value led down to.
use mathlib.Core.Path.{◌≡◌, refl, sym, ap, ◌∙◌, subst}
use mathlib.Core.Bool.{true, ◌&&◌, false≢true}
use mathlib.Core.List.Memᴰ
use mathlib.Core.List.{List, Memᴰ}
use Prim.Native.Nat.{ℕ, ◌+◌, ◌≤◌, ◌<◌}
use native.Mathlib.Omega.{arith}
use lib.ListN.{drop}
use Rattle.lists.specs.Lists.{Bytes}
use Rattle.lists.proofs.ChoiceLaws.{and_holds}
use Rattle.lists.proofs.ListLaws.{same_true}
use Rattle.hash.specs.Sha256.{sha256}
use Rattle.tree.specs.LogTree.{Range, split_at, left_half, right_half, log_parent_string, is_full, Walk}
use Rattle.tree.specs.LogTree.{parent, node_count, width_of, Known, kept_value, string_at, value, agrees}
use Rattle.tree.specs.LogTree.{kept_values_met, walk_strings}
use Rattle.tree.proofs.CollisionLaws.{Sized, Within}
use Rattle.tree.proofs.DigitLaws.{by_order}
use Rattle.tree.proofs.PowerLaws.{left_half_lem, halves_meet}
use Rattle.tree.proofs.SubtreeLaws.{Subtree, subtree_halves}
use Rattle.tree.proofs.HoldingLaws.{Inside, LiesIn, range_equal, inside_shown, holds_full_lem, full_one}
use Rattle.tree.proofs.HoldingLaws.{Lies, equal, in_left, in_right, full_in_half}
use Rattle.tree.proofs.PathLaws.{parent_string, Parent, Path, at_entry, to-left, to-right, path_from}
use Rattle.tree.proofs.WalkCaseLaws.{Walks, keeps, takes, shows, splits, walks_width}
use Rattle.tree.proofs.WalkValueLaws.{sized_drop, value_length_lem}

-- ---- one parent

-- The strings of the left half are among those of the parent.
pub strings_left : (k : Known) (r : Range) (x y : Walk) (ns S : List Bytes) → Within (walk_strings k (parent r x y) ns) S → Within (walk_strings k x ns) S
unfolding walk_strings
strings_left k r x y ns S f z m = f z (Memᴰ.tail (Memᴰ.append_left (walk_strings k y (drop (node_count x) ns)) m))

-- So are the strings of the right half.
pub strings_right : (k : Known) (r : Range) (x y : Walk) (ns S : List Bytes) → Within (walk_strings k (parent r x y) ns) S
    → Within (walk_strings k y (drop (node_count x) ns)) S
unfolding walk_strings
strings_right k r x y ns S f z m = f z (Memᴰ.tail (Memᴰ.append_right (walk_strings k x ns) m))

module _ (k : Known) (ps : List ℕ) (kept : Sized k.values) (S : List Bytes) where
  -- Where a subtree splits, its value is that of a parent.
  walk-parent : (r : Range) (x y : Walk) (ns : List Bytes) → Sized ns → 1 < r.width → Walks k.size ps (left_half r) x → Walks k.size ps (right_half r) y
      → Within (walk_strings k (parent r x y) ns) S → Parent S r (value k (parent r x y) ns)
  unfolding walk_strings value parent_string
  walk-parent r x y ns h w a b f =
      record {
        left = value k x ns;
        right = value k y (drop (node_count x) ns);
        wide = w;
        sized = value_length_lem k x ns kept h;
        listed = rw (sym (walks_width a), sym (walks_width b)) (f (log_parent_string (width_of x) (value k x ns) (width_of y) (value k y (drop (node_count x) ns))) (Memᴰ.head refl));
        hashed = rw (walks_width a, walks_width b) refl;
      }

  -- A path from the value of the half that holds p is one from the value of the whole.
  pub path-through : (r : Range) (x y : Walk) (ns : List Bytes) (p : ℕ) (u : Bytes) → Sized ns → 1 < r.width → Walks k.size ps (left_half r) x
      → Walks k.size ps (right_half r) y → Within (walk_strings k (parent r x y) ns) S
      → (p < r.start + split_at r.width → Path S p u (left_half r) (value k x ns))
      → (r.start + split_at r.width ≤ p → Path S p u (right_half r) (value k y (drop (node_count x) ns)))
      → Path S p u r (value k (parent r x y) ns)
  unfolding walk-parent
  path-through r x y ns p u h w a b f l g = by_order p (r.start + split_at r.width)
      (λ i. to-left (walk-parent r x y ns h w a b f) i (l i))
      (λ i. to-right (walk-parent r x y ns h w a b f) i (g i))

  -- ---- shown entries

  -- The value of a subtree with a shown entry leads down to the digest of the entry's string.
  pub shown-path : {r : Range} {w : Walk} → Walks k.size ps r w → (ns : List Bytes) (p : ℕ) → Sized ns → Memᴰ p ps → Inside r p
      → Within (walk_strings k w ns) S → Path S p (sha256 (string_at k.entries p)) r (value k w ns)
  unfolding value
  shown-path (keeps {r} s h) ns p d i j f = absurd (false≢true (sym s ∙ inside_shown ps r p i j))
  shown-path (takes {r} s h) ns p d i j f = absurd (false≢true (sym s ∙ inside_shown ps r p i j))
  shown-path (shows {r} h) ns p d i j f =
      let e : r.start ≡ p = omega arith in
      at_entry e h (ap (λ (q : ℕ). sha256 (string_at k.entries q)) e)
  shown-path (splits {r} {x} {y} h a b) ns p d i j f =
      let (ls, lw) = left_half_lem r in
      let (hs, hw) = halves_meet r h in
      path-through r x y ns p (sha256 (string_at k.entries p)) d h a b f
      (λ u. shown-path a ns p d i (omega arith, omega arith) (strings_left k r x y ns S f))
      (λ u. shown-path b (drop (node_count x) ns) p (sized_drop (node_count x) ns d) i (omega arith, omega arith) (strings_right k r x y ns S f))

  -- The string of a shown entry is among those hashed.
  pub shown-listed : {r : Range} {w : Walk} → Walks k.size ps r w → (ns : List Bytes) (p : ℕ) → Memᴰ p ps → Inside r p
      → Within (walk_strings k w ns) S → Memᴰ (string_at k.entries p) S
  unfolding walk_strings
  shown-listed (keeps {r} s h) ns p i j f = absurd (false≢true (sym s ∙ inside_shown ps r p i j))
  shown-listed (takes {r} s h) ns p i j f = absurd (false≢true (sym s ∙ inside_shown ps r p i j))
  shown-listed (shows {r} h) ns p i j f =
      let e : p ≡ r.start = omega arith in
      f (string_at k.entries p) (Memᴰ.head (ap (string_at k.entries) e))
  shown-listed (splits {r} {x} {y} h a b) ns p i j f =
      let (ls, lw) = left_half_lem r in
      let (hs, hw) = halves_meet r h in
      by_order p (r.start + split_at r.width)
      (λ u. shown-listed a ns p i (omega arith, omega arith) (strings_left k r x y ns S f))
      (λ u. shown-listed b (drop (node_count x) ns) p i (omega arith, omega arith) (strings_right k r x y ns S f))

-- ---- kept values

-- A value that agrees with the kept values is the one kept of its subtree.
agrees_kept : (k : Known) (r : Range) (v : Bytes) → is_full k.size r ≡ true → agrees k r v ≡ true → v ≡ kept_value k r
unfolding agrees
agrees_kept k r v h e = same_true v (kept_value k r) (rw h at e)

-- Where the kept values are met at a parent, they are met by its value and in both halves.
pub met_parent : (k : Known) (r : Range) (x y : Walk) (ns : List Bytes) → kept_values_met k (parent r x y) ns ≡ true
    → (agrees k r (value k (parent r x y) ns) ≡ true) × (kept_values_met k x ns ≡ true) × (kept_values_met k y (drop (node_count x) ns) ≡ true)
unfolding kept_values_met
met_parent k r x y ns e =
    let (a, b) = and_holds (agrees k r (value k (parent r x y) ns)) (kept_values_met k x ns && kept_values_met k y (drop (node_count x) ns)) e in
    let (c, d) = and_holds (kept_values_met k x ns) (kept_values_met k y (drop (node_count x) ns)) b in
    (a, c, d)

-- A full subtree that is walked over has the value that is kept of it: it is retained, or worked
-- out and compared.
pub kept_met : (k : Known) {ps : List ℕ} {r : Range} {w : Walk} → Walks k.size ps r w → (ns : List Bytes) → is_full k.size r ≡ true
    → kept_values_met k w ns ≡ true → value k w ns ≡ kept_value k r
unfolding value kept_values_met
kept_met k (keeps s h) ns i e = refl
kept_met k (takes {r} s h) ns i e = absurd (false≢true (sym h ∙ holds_full_lem k.size r r i (omega arith, omega arith)))
kept_met k (shows {r} h) ns i e =
    let q : r ≡ record { start = r.start; width = 1 } = range_equal r (record { start = r.start; width = 1 }) refl h in
    agrees_kept k r (sha256 (string_at k.entries r.start)) i (subst (λ (x : Range). agrees k x (sha256 (string_at k.entries r.start)) ≡ true) (sym q) e)
kept_met k (splits {r} {x} {y} h a b) ns i e = agrees_kept k r (value k (parent r x y) ns) i (met_parent k r x y ns e).0

-- What the kept value of a full subtree f leads down to, the value of each subtree r that holds f
-- leads down to. A subtree that holds f is not given. If it is f itself, its value is the kept one.
-- Else it is no full subtree, so it was not retained; it splits, and f lies in one half.
module _ (k : Known) (ps : List ℕ) (kept : Sized k.values) (n : ℕ) (S : List Bytes) (p : ℕ) (u : Bytes) (f : Range) (full : is_full k.size f ≡ true)
    (inside : Inside f p) (known : Path S p u f (kept_value k f)) where
  -- The value of f itself leads down as its kept value does.
  kept_here : {r : Range} {w : Walk} → Walks k.size ps r w → (ns : List Bytes) → kept_values_met k w ns ≡ true → f ≡ r → Path S p u r (value k w ns)
  kept_here {r} t ns e q =
      path_from (sym (kept_met k t ns (subst (λ (x : Range). is_full k.size x ≡ true) q full) e)) (subst (λ (x : Range). Path S p u x (kept_value k x)) q known)

  -- The value of a subtree that holds f leads down to the same value.
  pub kept-path : {r : Range} {w : Walk} → Walks k.size ps r w → Subtree n r → (ns : List Bytes) → Sized ns → kept_values_met k w ns ≡ true → LiesIn r f
      → Within (walk_strings k w ns) S → Path S p u r (value k w ns)
  kept-path (keeps {r} s h) t ns d e l g = kept_here (keeps s h) ns e (full_one k.size p f r full h inside (omega arith, omega arith))
  kept-path (takes {r} s h) t ns d e l g = absurd (false≢true (sym h ∙ holds_full_lem k.size r f full l))
  kept-path (shows {r} h) t ns d e l g = kept_here (shows h) ns e (range_equal f r (omega arith) (omega arith))
  kept-path (splits {r} {x} {y} h a b) t ns d e l g =
      go (full_in_half k.size n p r f t h full inside l)
      (λ z. kept-path a (subtree_halves n r t h).0 ns d (met_parent k r x y ns e).1 z (strings_left k r x y ns S g))
      (λ z. kept-path b (subtree_halves n r t h).1 ms (sized_drop (node_count x) ns d) (met_parent k r x y ns e).2 z (strings_right k r x y ns S g))
    where
      ms : List Bytes
      ms = drop (node_count x) ns

      go : Lies r f p → (LiesIn (left_half r) f → Path S p u (left_half r) (value k x ns)) → (LiesIn (right_half r) f → Path S p u (right_half r) (value k y ms))
          → Path S p u r (value k (parent r x y) ns)
      go (equal q) to-l to-r = kept_here (splits h a b) ns e q
      go (in_left i z) to-l to-r = path-through k ps kept S r x y ns p u d h a b g (λ _. to-l z) (λ j. absurd (omega arith))
      go (in_right i z) to-l to-r = path-through k ps kept S r x y ns p u d h a b g (λ j. absurd (omega arith)) (λ _. to-r z)
