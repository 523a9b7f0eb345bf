-- Laws of the walk over a whole block of the log tree (src/log_tree.rt): what it asks of its two
-- halves, and what it yields at each step.
use mathlib.Core.Path.{◌≡◌, refl, sym, ap, ap₂, ◌∙◌}
use mathlib.Core.Logic.{◌⊎◌, inl, inr, ⊎_elim}
use mathlib.Core.Bool.{Bool, true, false}
use mathlib.Core.List.{List, []}
use Prim.Native.Nat.{ℕ, zero, suc, ◌+◌, ◌-◌, ◌*◌, ◌/◌, ◌%◌, ◌^◌, ◌≤◌, ◌<◌}
use native.Mathlib.Nat.{mul-one}
use native.Mathlib.Omega.{arith}
use lib.Dec.{ltb}
use lib.ListN.{length, get_or, drop}
use borrow.Author.Tests.{eq-eqb, ne_eqb, ltb-true, ltb-false}
use Rattle.std.proofs.lemmas.Option.{unwrap_or-slice_get}
use Rattle.lists.specs.Lists.{Bytes}
use Rattle.hash.specs.Sha256.{sha256}
use Rattle.lines.specs.Layout.{entry_fields}
use Rattle.tree.specs.declared.walk_cursor.WalkCursor.{WalkCursor}
use Rattle.tree.specs.declared.log_tree.Walked.{Walked}
use Rattle.tree.specs.declared.log_tree.Source.TheVariants.{Retained, Given, Shown, Parent}
use Rattle.tree.specs.LogTree.{LogEntry, log_leaf_string, Range, left_half, right_half, is_shown, is_full}
use Rattle.tree.specs.LogTree.{holds_full, Walk, retained, given, shown, parent, walk, node_count}
use Rattle.tree.specs.LogTree.{width_of, Known, kept_value, value, agrees, kept_values_met}
use Rattle.tree.specs.LogText.{entry_in, next_line, entry_offsets, shown_in}
use Rattle.tree.specs.LogHead.{level_limit, positions}
use Rattle.tree.specs.LogWalk.{range, below, no_position, position_of, cursor_at, cursor_from, cursor_before, Ready}
use Rattle.tree.specs.LogWalk.{Whole, Halves, even, SourceFacts, walked_by, walked_on, node_next, parent_by}
use Rattle.tree.specs.LogWalk.{compared_by}
use Rattle.tree.proofs.PowerLaws.{halves_meet, halves_filled}
use Rattle.tree.proofs.SubtreeLaws.{block, starts_double, halves_whole}
use Rattle.tree.proofs.WalkStepLaws.{walk_retained, walk_given, walk_shown, walk_split, walk_fuel}
use Rattle.tree.proofs.WalkCaseLaws.{Walks, keeps, takes, shows, splits, walk_cases, walks_width}
use Rattle.tree.proofs.RunLaws.{get_d_any}
use Rattle.tree.proofs.EntryLineLaws.{offset-within}
use Rattle.tree.proofs.CursorLaws.{is_shown_lem, below_quiet, below_one, string_at_lem, entry_at}
use Rattle.tree.proofs.CursorLaws.{length_positions, cursor_next}
use Rattle.tree.proofs.DecisionLaws.{whole_some, full-taken, full_left}
use Rattle.tree.proofs.WalkedLaws.{kept_entries, compared_entries, walked-cursor}
use Rattle.tree.proofs.WalkedLaws.{walked-retained, walked-given, walked-shown, walked-parent}

-- what is known, by its parts
abbrev pub known : ℕ → List Bytes → List LogEntry → Known
known m vs es = record { size = m; values = vs; entries = es }

-- ---- the next shown entry

module _ {t : Bytes} {m s : ℕ} {c : WalkCursor} (r : Ready t m s c) where
  -- where its line begins, and its position
  offset_at : c.at ≡ get_or (entry_offsets t 0) (below (positions (shown_in t)) s) (length t)
  offset_at = ap (λ (x : WalkCursor). x.at) r.stands

  position_at : position_of c.position ≡ get_or (positions (shown_in t)) (below (positions (shown_in t)) s) no_position
  position_at = ap (λ (x : WalkCursor). position_of x.position) r.stands ∙ unwrap_or-slice_get (positions (shown_in t)) (below (positions (shown_in t)) s) no_position

  -- it is in the entries that follow if its position is below their end
  pub next-shown : (w : ℕ) → s + w ≤ no_position → is_shown (positions (shown_in t)) (range s w) ≡ ltb (position_of c.position) (s + w)
  next-shown w h = is_shown_lem (positions (shown_in t)) s w no_position r.rises h ∙ ap (λ (p : ℕ). ltb p (s + w)) (sym position_at)

  -- where it is not, the walk stands after them as before them
  pub next_stays : (w : ℕ) → ltb (position_of c.position) (s + w) ≡ false → c ≡ cursor_before t (s + w) c.node
  next_stays w h =
      let ps : List ℕ = positions (shown_in t) in
      let q : s + w ≤ get_or ps (below ps s) no_position = omega (arith, ltb-false (position_of c.position) (s + w) h, position_at) in
      r.stands ∙ ap (λ (i : ℕ). cursor_at t i c.node) (sym (below_quiet ps s (s + w) no_position (omega arith) q))

-- ---- a shown entry

-- a single entry is a block
pub whole_one : (s : ℕ) → s < 2 ^ level_limit → Whole s 1
whole_one s h = record { level = 0; number = s; start_is = sym (mul-one s); width_is = refl; small = omega arith }

module _ (m s : ℕ) (b : s < 2 ^ level_limit) where
  -- it is full where it is the last one of an odd number
  pub entry-full : s + 1 ≡ m → s % 2 ≡ 0 → is_full m (range s 1) ≡ true
  entry-full e z = sym (full-taken m s 1 (whole_one s b) (omega arith)) ∙ eq-eqb (s / 1 % 2) 0 (omega arith)

  -- not where it is the last one of an even number
  pub entry-even : s + 1 ≡ m → (s % 2 ≡ 0 → ⊥) → is_full m (range s 1) ≡ false
  entry-even e z =
      sym (full-taken m s 1 (whole_one s b) (omega arith)) ∙ ne_eqb (s / 1 % 2) 0 (λ y. z (omega arith))

  -- nor where it is not the last one
  pub entry-inner : (s + 1 ≡ m → ⊥) → is_full m (range s 1) ≡ false
  entry-inner e = sym (full_left m s 1 (whole_one s b) (λ y. e (omega arith)))

module _ (t : Bytes) {m s : ℕ} {c : WalkCursor} (r : Ready t m s c) (b : s < 2 ^ level_limit) (h : position_of c.position < s + 1) where
  passed : (below (positions (shown_in t)) (s + 1) ≡ below (positions (shown_in t)) s + 1) × (below (positions (shown_in t)) s < length (positions (shown_in t)))
  passed = below_one (positions (shown_in t)) s no_position r.rises (omega arith) (omega (arith, h, position_at r))

  -- there is one more entry line than those passed
  one_left : below (positions (shown_in t)) s < length (entry_offsets t 0)
  unfolding shown_in
  one_left = omega (arith, passed.1, length_positions t (entry_offsets t 0))

  -- where it begins
  offset-there : c.at ≡ get_or (entry_offsets t 0) (below (positions (shown_in t)) s) 0
  offset-there = offset_at r ∙ get_d_any (entry_offsets t 0) (below (positions (shown_in t)) s) (length t) 0 one_left

  -- it stands in the text
  pub entry-room : c.at < length t
  entry-room = omega (arith, offset-there, offset-within t 0 (below (positions (shown_in t)) s) one_left)

  -- its value, and the entries shown after it
  pub entry-walked : (vs : List Bytes) (v : Bytes) (x : WalkCursor) (g : Bool) → v ≡ sha256 (log_leaf_string (entry_in (drop (c.at + entry_fields) t)))
      → x ≡ cursor_from t (next_line t c.at) c.node → g ≡ agrees (known m vs (shown_in t)) (range s 1) v
      → record { value = v; cursor = x; met = g } ≡ walked_by t (known m vs (shown_in t)) [] (s + 1) c.node (shown s)
  unfolding value shown_in
  entry-walked vs v x g ev ex eg =
      let z : LogEntry = entry_in (drop (c.at + entry_fields) t) in
      let es : List LogEntry = shown_in t in
      let i : ℕ = below (positions es) s in
      let y : get_or es i z ≡ z = entry_at t (entry_offsets t 0) i z one_left ∙ ap (λ (j : ℕ). entry_in (drop (j + entry_fields) t)) (sym offset-there) in
      walked-shown t (known m vs es) [] (s + 1) c.node s x v g
      (ex ∙ cursor_next t i c.node c.at one_left (offset_at r) ∙ ap (λ (j : ℕ). cursor_at t j c.node) (sym passed.0))
      (ev ∙ ap (λ (e : LogEntry). sha256 (log_leaf_string e)) (sym y) ∙ ap sha256 (sym (string_at_lem es z s no_position (omega arith) (omega (arith, h, position_at r)))))
      eg

-- ---- the nodes taken

-- the walk over some entries, by its cases
pub over_cases : (m : ℕ) (ps : List ℕ) (s w : ℕ) → 0 < w → Walks m ps (range s w) (walk w m ps (range s w))
over_cases m ps s w p = walk_cases w m ps (range s w) p (omega arith)

-- a walk takes no more nodes than there are entries
nodes_within : {m : ℕ} {ps : List ℕ} {r : Range} {w : Walk} → Walks m ps r w → 0 < r.width → node_count w ≤ r.width
unfolding node_count
nodes_within (keeps a b) p = omega arith
nodes_within (takes a b) p = p
nodes_within (shows e) p = omega arith
nodes_within (splits {r} g x y) p =
    let (a, b) = halves_filled r g in
    omega (arith, nodes_within x a, nodes_within y b, halves_meet r g)

-- after the entries walked over the walk may go on
pub ready_behind : {t : Bytes} {m s : ℕ} {c : WalkCursor} → Ready t m s c → (w : ℕ) → 0 < w → (x : WalkCursor)
    → x ≡ cursor_before t (s + w) (c.node + node_count (walk w m (positions (shown_in t)) (range s w))) → Ready t m (s + w) x
ready_behind {t} {m} {s} {c} r w p x e =
    let ps : List ℕ = positions (shown_in t) in
    let n : x.node ≡ c.node + node_count (walk w m ps (range s w)) = ap (λ (y : WalkCursor). y.node) e in
    record {
      rises = r.rises;
      size_small = r.size_small;
      stands = e ∙ ap (cursor_before t (s + w)) (sym n);
      taken = omega (arith, n, nodes_within (over_cases m ps s w p) p, r.taken);
    }

-- ---- the halves of a block

-- a block of a level above the lowest
record Pair (s w : ℕ) : Type 0 where
  level : ℕ
  number : ℕ
  start_is : s ≡ number * 2 ^ suc level
  width_is : w ≡ 2 ^ suc level
  half_is : w / 2 ≡ 2 ^ level
  twice : w ≡ w / 2 + w / 2
  left_is : s ≡ 2 * number * 2 ^ level
  right_is : s + w / 2 ≡ (2 * number + 1) * 2 ^ level

-- a block of more than one entry is such a one
pair : (l q : ℕ) {s w : ℕ} → s ≡ q * 2 ^ l → w ≡ 2 ^ l → 1 < w → Pair s w
pair zero q a b g = absurd (omega arith)
pair (suc e) q {s} {w} a b g =
    let h : w / 2 ≡ 2 ^ e = omega arith in
    let (x, y) = starts_double e q in
    let d : s ≡ 2 * q * 2 ^ e = a ∙ sym x in
    record { level = e; number = q; start_is = a; width_is = b; half_is = h; twice = omega arith; left_is = d; right_is = omega arith }

module _ {s w : ℕ} (h : Whole s w) (g : 1 < w) where
  halves : Pair s w
  halves = pair h.level h.number h.start_is h.width_is g

  -- the left half is a block
  pub whole-left : Whole s (w / 2)
  whole-left = let v = halves in record { level = v.level; number = 2 * v.number; start_is = v.left_is; width_is = v.half_is; small = omega (arith, h.small) }

  -- so is the right one
  pub whole-right : Whole (s + w / 2) (w / 2)
  whole-right =
      let v = halves in
      record { level = v.level; number = 2 * v.number + 1; start_is = v.right_is; width_is = v.half_is; small = omega (arith, h.small, v.twice) }

  -- the halves have as many entries as the block
  pub half_twice : w ≡ w / 2 + w / 2
  half_twice = halves.twice

  -- they are equal
  pub whole-halves : (m : ℕ) → Halves m s (w / 2) (w / 2)
  whole-halves m = let t = half_twice in even refl (record { level = h.level; number = h.number; start_is = h.start_is; width_is = sym t ∙ h.width_is; small = omega (arith, h.small) })

  -- the walk over a block that splits
  pub split-whole : (m : ℕ) (ps : List ℕ) → (is_shown ps (range s w) ≡ true) ⊎ ((is_full m (range s w) ≡ false) × (holds_full m (range s w) ≡ true))
      → walk w m ps (range s w) ≡ parent (range s w) (walk (w / 2) m ps (range s (w / 2))) (walk (w / 2) m ps (range (s + w / 2) (w / 2)))
  split-whole m ps f =
      let v = halves in
      let k : w ≡ suc (w - 1) = omega arith in
      let u : range s w ≡ block (suc v.level) v.number = ap₂ range v.start_is v.width_is in
      let (l, r) = halves_whole v.level v.number in
      let x : left_half (range s w) ≡ range s (w / 2) = ap left_half u ∙ l ∙ ap₂ range (sym v.left_is) (sym v.half_is) in
      let y : right_half (range s w) ≡ range (s + w / 2) (w / 2) = ap right_half u ∙ r ∙ ap₂ range (sym v.right_is) (sym v.half_is) in
      ap (λ (i : ℕ). walk i m ps (range s w)) k ∙ walk_split (w - 1) m ps (range s w) g f
      ∙ ap₂ (parent (range s w))
      (ap (walk (w - 1) m ps) x ∙ walk_fuel (w - 1) (w / 2) m ps (range s (w / 2)) (omega (arith, v.twice)) (omega (arith, v.twice)) (omega arith))
      (ap (walk (w - 1) m ps) y ∙ walk_fuel (w - 1) (w / 2) m ps (range (s + w / 2) (w / 2)) (omega (arith, v.twice)) (omega (arith, v.twice)) (omega arith))

-- ---- what the walk over a block yields

module _ (vs : List Bytes) (text : Bytes) (ns : List Bytes) {m s w : ℕ} {c : WalkCursor} (h : Whole s w) (r : Ready text m s c) where
  -- the walk takes a first step
  first_step : walk w m (positions (shown_in text)) (range s w) ≡ walk (suc (w - 1)) m (positions (shown_in text)) (range s w)
  first_step = let e : w ≡ suc (w - 1) = omega (arith, whole_some h) in ap (λ (i : ℕ). walk i m (positions (shown_in text)) (range s w)) e

  -- whether something is shown in the block
  block-shown : is_shown (positions (shown_in text)) (range s w) ≡ ltb (position_of c.position) (s + w)
  block-shown = next-shown r w (omega (arith, h.small))

  -- a retained one
  pub block-retained : (fs : List LogEntry) (v : Bytes)
      → SourceFacts (ltb (position_of c.position) (s + w)) m (range s w) Retained
      → v ≡ kept_value (known m vs fs) (range s w)
      → record { value = v; cursor = c; met = true } ≡ walked_on text (known m vs (shown_in text)) ns c.node (range s w)
  block-retained fs v f e =
      let x : walk w m (positions (shown_in text)) (range s w) ≡ retained (range s w) = first_step ∙ walk_retained (w - 1) m (positions (shown_in text)) (range s w) (block-shown ∙ f.0) f.1 in
      walked-retained text (known m vs (shown_in text)) ns (s + w) c.node (range s w) c v (next_stays r w f.0)
      (e ∙ kept_entries m vs fs (shown_in text) (range s w))
      ∙ ap (walked_by text (known m vs (shown_in text)) ns (s + w) c.node) (sym x)

  -- a given one
  pub block-given : SourceFacts (ltb (position_of c.position) (s + w)) m (range s w) Given → node_next ns c ≡ walked_on text (known m vs (shown_in text)) ns c.node (range s w)
  block-given f =
      let x : walk w m (positions (shown_in text)) (range s w) ≡ given (range s w) = first_step ∙ walk_given (w - 1) m (positions (shown_in text)) (range s w) (block-shown ∙ f.0) f.1 f.2 in
      walked-given text (known m vs (shown_in text)) ns (s + w) c.node (range s w) c (next_stays r w f.0) ∙ ap (walked_by text (known m vs (shown_in text)) ns (s + w) c.node) (sym x)

  -- a shown entry is a block of width 1
  pub block-entry : SourceFacts (ltb (position_of c.position) (s + w)) m (range s w) Shown → (s < 2 ^ level_limit) × (position_of c.position < s + 1)
  block-entry f = (omega (arith, h.small, f.1), omega (arith, ltb-true (position_of c.position) (s + w) f.0, f.1))

  -- what a shown entry yields is what the walk over its block does
  pub block-shown-entry : SourceFacts (ltb (position_of c.position) (s + w)) m (range s w) Shown
      → walked_by text (known m vs (shown_in text)) [] (s + 1) c.node (shown s) ≡ walked_on text (known m vs (shown_in text)) ns c.node (range s w)
  unfolding walked_by value kept_values_met
  block-shown-entry f =
      let x : walk w m (positions (shown_in text)) (range s w) ≡ shown s = first_step ∙ walk_shown (w - 1) m (positions (shown_in text)) (range s w) (block-shown ∙ f.0) f.1 in
      rw (x, f.1) refl

  -- the right half may be walked over after the left one
  pub ready-right : (i : Walked) → 1 < w → i ≡ walked_on text (known m vs (shown_in text)) ns c.node (range s (w / 2)) → Ready text m (s + w / 2) i.cursor
  ready-right i g e =
      ready_behind r (w / 2) (whole_some (whole-left h g)) i.cursor
      (walked-cursor text (known m vs (shown_in text)) ns (s + w / 2) c.node (walk (w / 2) m (positions (shown_in text)) (range s (w / 2))) i e)

  -- one that splits, from what its halves yield
  pub block-parent : (fs : List LogEntry) (i j z : Walked)
      → SourceFacts (ltb (position_of c.position) (s + w)) m (range s w) Parent
      → i ≡ walked_on text (known m vs (shown_in text)) ns c.node (range s (w / 2)) → j ≡ walked_on text (known m vs (shown_in text)) ns i.cursor.node (range (s + w / 2) (w / 2))
      → z ≡ compared_by (known m vs fs) (range s (w / 2 + w / 2)) (parent_by (w / 2) i (w / 2) j)
      → z ≡ walked_on text (known m vs (shown_in text)) ns c.node (range s w)
  block-parent fs i j z f ei ej ez =
      let k : Known = known m vs (shown_in text) in
      let g : 1 < w = f.0 in
      let p : 0 < w / 2 = whole_some (whole-left h g) in
      let a : Walk = walk (w / 2) m (positions (shown_in text)) (range s (w / 2)) in
      let b : Walk = walk (w / 2) m (positions (shown_in text)) (range (s + w / 2) (w / 2)) in
      let n : i.cursor.node ≡ c.node + node_count a = ap (λ (x : WalkCursor). x.node) (walked-cursor text k ns (s + w / 2) c.node a i ei) in
      let t : s + w / 2 + w / 2 ≡ s + w = omega (arith, half_twice h g) in
      let u : width_of a ≡ w / 2 = walks_width (over_cases m (positions (shown_in text)) s (w / 2) p) in
      let v : width_of b ≡ w / 2 = walks_width (over_cases m (positions (shown_in text)) (s + w / 2) (w / 2) p) in
      let x : walk w m (positions (shown_in text)) (range s w) ≡ parent (range s w) a b = split-whole h g m (positions (shown_in text)) (⊎_elim (λ q. inl (block-shown ∙ q)) inr f.1) in
      ez ∙ compared_entries m vs fs (shown_in text) (range s (w / 2 + w / 2)) (parent_by (w / 2) i (w / 2) j)
      ∙ ap (λ (d : ℕ). compared_by k (range s d) (parent_by (w / 2) i (w / 2) j)) (sym (half_twice h g))
      ∙ ap₂ (λ (d e : ℕ). compared_by k (range s w) (parent_by d i e j)) (sym u) (sym v)
      ∙ walked-parent text k ns (s + w) c.node (range s w) a b (s + w / 2) i j ei (ej ∙ ap₂ (λ (d e : ℕ). walked_by text k ns d e b) t n)
      ∙ ap (walked_by text k ns (s + w) c.node) (sym x)
