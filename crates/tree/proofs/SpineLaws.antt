-- Laws of the walk over the last entries of a log (src/log_tree.rt): what it yields, and the values
-- of the full subtrees of all n entries.
use mathlib.Core.Path.{◌≡◌, refl, sym, ap, ap₂, ◌∙◌}
use mathlib.Core.Logic.{◌⊎◌, inl, inr, ⊎_elim}
use mathlib.Core.Bool.{true, false}
use mathlib.Core.List.{List, [], ◌∷◌, ◌++◌, flatten, append-nil, append_assoc}
use Prim.Native.Nat.{ℕ, ◌+◌, ◌-◌, ◌*◌, ◌≤◌, ◌<◌}
use native.Mathlib.Omega.{arith}
use lib.Dec.{ltb}
use lib.ListN.{length, drop, length-append}
use lib.Seq.{drop-drop}
use borrow.Author.Tests.{lt-ltb}
use Rattle.lists.specs.Lists.{Bytes}
use Rattle.hash.specs.Bytes.{padded}
use Rattle.hash.specs.Sha256.{digest_length}
use Rattle.tree.specs.declared.walk_cursor.WalkCursor.{WalkCursor}
use Rattle.tree.specs.declared.log_tree.Source.TheVariants.{Shown}
use Rattle.tree.specs.declared.log_tree.Walked.{Walked}
use Rattle.tree.specs.SearchTree.{power}
use Rattle.tree.specs.LogTree.{LogEntry, is_shown, is_full, Walk, given, parent, walk, node_count, width_of}
use Rattle.tree.specs.LogTree.{Known, value, full_values}
use Rattle.tree.specs.LogText.{shown_in}
use Rattle.tree.specs.LogHead.{block_length, positions}
use Rattle.tree.specs.LogWalk.{range, position_of, cursor_before, past_node, Ready, SourceFacts, Tail, walk_on}
use Rattle.tree.specs.LogWalk.{end_on, walked_by, walked_on, node_next, parent_by, compared_by, Filled, values_from}
use Rattle.tree.proofs.WalkCaseLaws.{walks_over, walks_width}
use Rattle.tree.proofs.WalkValueLaws.{full_values_one, full_values_both}
use Rattle.tree.proofs.WalkedLaws.{compared_entries, walked-cursor, walked-given, walked-parent}
use Rattle.tree.proofs.DecisionLaws.{whole_some}
use Rattle.tree.proofs.WalkLaws.{known, next-shown, next_stays, over_cases, ready_behind}
use Rattle.tree.proofs.EndLaws.{ends_joined}
use Rattle.tree.proofs.TailLaws.{tail-whole, tail-full, cut-not-full, cut-given, cut-split}

-- ---- the values of full subtrees

flatten_one : (v : Bytes) → flatten (v ∷ []) ≡ v
unfolding flatten
flatten_one v = append-nil v

flatten_cons : (v : Bytes) (vs : List Bytes) → flatten (v ∷ vs) ≡ v ++ flatten vs
unfolding flatten
flatten_cons v vs = refl

-- the walk over a full subtree of n gives its value
full_walked : (n : ℕ) (k : Known) (ns : List Bytes) (s w : ℕ) → 0 < w → is_full n (range s w) ≡ true
    → full_values n k (walk_on k (range s w)) ns ≡ value k (walk_on k (range s w)) ns ∷ []
full_walked n k ns s w p f = full_values_one n (range s w) (walk_on k (range s w)) k ns (walks_over (over_cases k.size (positions k.entries) s w p)) f

module _ (text : Bytes) (n : ℕ) (k : Known) (ns : List Bytes) (s node : ℕ) where
  -- what the walk yields where it is one value
  values_one : (i : Walked) → i ≡ walked_on text k ns node (range s (n - s))
      → full_values n k (walk_on k (range s (n - s))) (drop node ns) ≡ value k (walk_on k (range s (n - s))) (drop node ns) ∷ []
      → i.value ≡ values_from n k ns s node
  unfolding walked_by values_from
  values_one i e f = ap (λ (x : Walked). x.value) e ∙ sym (ap flatten f ∙ flatten_one _)

  -- all entries are a full subtree
  pub values-full : (i : Walked) → s < n → i ≡ walked_on text k ns node (range s (n - s)) → is_full n (range s (n - s)) ≡ true → i.value ≡ values_from n k ns s node
  values-full i h e f = values_one i e (full_walked n k (drop node ns) s (n - s) (omega arith) f)

  -- all entries are the next node
  pub values-given : (i : Walked) → i ≡ walked_on text k ns node (range s (n - s)) → walk_on k (range s (n - s)) ≡ given (range s (n - s)) → i.value ≡ values_from n k ns s node
  unfolding full_values
  values-given i e g = values_one i e (rw g refl)

  -- the left half is a full subtree, and the whole is none
  pub values-two : (h : ℕ) (i : Walked) → 0 < h → i ≡ walked_on text k ns node (range s h) → is_full n (range s h) ≡ true → is_full n (range s (n - s)) ≡ false
      → walk_on k (range s (n - s)) ≡ parent (range s (n - s)) (walk_on k (range s h)) (walk_on k (range (s + h) (n - (s + h))))
      → i.value ++ values_from n k ns (s + h) i.cursor.node ≡ values_from n k ns s node
  unfolding walked_by values_from
  values-two h i p e f g w =
      let a : Walk = walk_on k (range s h) in
      let b : Walk = walk_on k (range (s + h) (n - (s + h))) in
      let d : i.cursor.node ≡ node + node_count a = ap (λ (x : Walked). x.cursor.node) e in
      let y : full_values n k b (drop (node_count a) (drop node ns)) ≡ full_values n k b (drop i.cursor.node ns) =
      ap (full_values n k b) (drop-drop (node_count a) node ns ∙ ap (λ (j : ℕ). drop j ns) (sym d)) in
      ap (λ (x : Bytes). x ++ flatten (full_values n k b (drop i.cursor.node ns))) (ap (λ (x : Walked). x.value) e)
      ∙ sym (ap (λ (x : Walk). flatten (full_values n k x (drop node ns))) w
      ∙ ap flatten (full_values_both n (range s (n - s)) a b k (drop node ns) g ∙ ap₂ (λ (x z : List Bytes). x ++ z) (full_walked n k (drop node ns) s h p f) y)
      ∙ flatten_cons (value k a (drop node ns)) (full_values n k b (drop i.cursor.node ns)))

-- ---- a block that is filled

-- one value and then others
pub filled_then : (count : ℕ) (a b c t u : Bytes) → length t ≡ digest_length → Filled count a b t → Filled (count + 1) b c u → Filled count a c (t ++ u)
filled_then count a b c t u l f g s e h =
    let x : length (s ++ t) ≡ digest_length * (count + 1) = omega (arith, length-append s t) in
    g (s ++ t) (f s e h) x ∙ ap (padded block_length) (append_assoc s t u)

-- ---- what the walk yields

-- where the last entries are a single one, which is shown, the walk takes that step
pub spine_entry : (m n s w position : ℕ) → s + w ≡ n → w ≡ 1 → position < n
    → SourceFacts (ltb position (s + w)) m (range s w) Shown
spine_entry m n s w position e o p = (lt-ltb position (s + w) (omega arith), o)

module _ (vs : List Bytes) (text : Bytes) (ns : List Bytes) {m n s w : ℕ} {c : WalkCursor} (t : Tail n s) (z : w ≡ power (n - s)) (r : Ready text m s c) (h : m ≤ n) where
  -- whether something is shown in the last entries
  tail-shown : is_shown (positions (shown_in text)) (range s (n - s)) ≡ ltb (position_of c.position) n
  tail-shown = let e : s + (n - s) ≡ n = omega (arith, t.some) in next-shown r (n - s) (omega (arith, t.some, t.small)) ∙ ap (ltb (position_of c.position)) e

  -- they fill a block
  pub spine-block : (i : Walked) → s + w ≡ n → i ≡ walked_on text (known m vs (shown_in text)) ns c.node (range s w)
      → (i ≡ walked_on text (known m vs (shown_in text)) ns c.node (range s (n - s))) × (i.value ≡ values_from n (known m vs (shown_in text)) ns s c.node)
  spine-block i e ei =
      let d : w ≡ n - s = omega arith in
      let x : i ≡ walked_on text (known m vs (shown_in text)) ns c.node (range s (n - s)) = ei ∙ ap (λ (j : ℕ). walked_on text (known m vs (shown_in text)) ns c.node (range s j)) d in
      (x, values-full text n (known m vs (shown_in text)) ns s c.node i t.some x (ap (λ (j : ℕ). is_full n (range s j)) (sym d) ∙ tail-full t z))

  -- they are the next node
  pub spine-node : (i : Walked) → s + w < n → ltb (position_of c.position) n ≡ false → m ≤ s → i ≡ node_next ns c
      → (i ≡ walked_on text (known m vs (shown_in text)) ns c.node (range s (n - s))) × (i.value ≡ values_from n (known m vs (shown_in text)) ns s c.node)
  spine-node i l q b ei =
      let k : Known = known m vs (shown_in text) in
      let e : s + (n - s) ≡ n = omega (arith, t.some) in
      let g : walk (n - s) m (positions (shown_in text)) (range s (n - s)) ≡ given (range s (n - s)) = cut-given t z l m (positions (shown_in text)) h (tail-shown ∙ q) b in
      let d : c ≡ cursor_before text (s + (n - s)) c.node = next_stays r (n - s) (ap (ltb (position_of c.position)) e ∙ q) in
      let x : i ≡ walked_on text k ns c.node (range s (n - s)) =
      ei ∙ walked-given text k ns (s + (n - s)) c.node (range s (n - s)) c d ∙ ap (walked_by text k ns (s + (n - s)) c.node) (sym g) in
      (x, values-given text n k ns s c.node i x g)

  module _ (l : s + w < n) where
    half-some : 0 < w
    half-some = whole_some (tail-whole t z)

    -- after the left half the walk may go on
    pub spine-ready : (a : WalkCursor) → a ≡ end_on text (known m vs (shown_in text)) c.node (range s w) → Ready text m (s + w) a
    spine-ready a e = ready_behind r (w) half-some a e

    -- they split
    pub spine-split : (ltb (position_of c.position) n ≡ true) ⊎ (s < m) → walk_on (known m vs (shown_in text)) (range s (n - s))
        ≡ parent (range s (n - s)) (walk_on (known m vs (shown_in text)) (range s w)) (walk_on (known m vs (shown_in text)) (range (s + w) (n - (s + w))))
    spine-split q = cut-split t z l m (positions (shown_in text)) h (⊎_elim (λ b. inl (tail-shown ∙ b)) inr q)

    -- what they yield, from what the full subtree yields with which they begin and those after it
    pub spine-cut : (fs : List LogEntry) (i j x : Walked) → (ltb (position_of c.position) n ≡ true) ⊎ (s < m)
        → i ≡ walked_on text (known m vs (shown_in text)) ns c.node (range s w)
        → j ≡ walked_on text (known m vs (shown_in text)) ns i.cursor.node (range (s + w) (n - (s + w)))
        → x ≡ compared_by (known m vs fs) (range s (w + (n - (s + w)))) (parent_by w i (n - (s + w)) j)
        → x ≡ walked_on text (known m vs (shown_in text)) ns c.node (range s (n - s))
    spine-cut fs i j x q ei ej ex =
        let k : Known = known m vs (shown_in text) in
        let a : Walk = walk_on k (range s w) in
        let b : Walk = walk_on k (range (s + w) (n - (s + w))) in
        let d : i.cursor.node ≡ c.node + node_count a = ap (λ (y : WalkCursor). y.node) (walked-cursor text k ns (s + w) c.node a i ei) in
        let e : s + w + (n - (s + w)) ≡ s + (n - s) = omega (arith, t.some) in
        let f : width_of a ≡ w = walks_width (over_cases m (positions (shown_in text)) s (w) half-some) in
        let g : width_of b ≡ n - (s + w) = walks_width (over_cases m (positions (shown_in text)) (s + w) (n - (s + w)) (omega arith)) in
        let o : w + (n - (s + w)) ≡ n - s = omega arith in
        ex ∙ compared_entries m vs fs (shown_in text) (range s (w + (n - (s + w)))) (parent_by w i (n - (s + w)) j)
        ∙ ap (λ (y : ℕ). compared_by k (range s y) (parent_by w i (n - (s + w)) j)) o
        ∙ ap₂ (λ (y z : ℕ). compared_by k (range s (n - s)) (parent_by y i z j)) (sym f) (sym g)
        ∙ walked-parent text k ns (s + (n - s)) c.node (range s (n - s)) a b (s + w) i j ei (ej ∙ ap₂ (λ (y z : ℕ). walked_by text k ns y z b) e d)
        ∙ ap (walked_by text k ns (s + (n - s)) c.node) (sym (spine-split q))

    -- the values of full subtrees: that of the left half, and those in the right one
    pub spine-values : (i : Walked) → (ltb (position_of c.position) n ≡ true) ⊎ (s < m) → i ≡ walked_on text (known m vs (shown_in text)) ns c.node (range s w)
        → i.value ++ values_from n (known m vs (shown_in text)) ns (s + w) i.cursor.node ≡ values_from n (known m vs (shown_in text)) ns s c.node
    spine-values i q e = values-two text n (known m vs (shown_in text)) ns s c.node (w) i half-some e (tail-full t z) (cut-not-full t z l n) (spine-split q)

-- ---- where it ends

module _ (text : Bytes) {m n s w : ℕ} {c : WalkCursor} (t : Tail n s) (z : w ≡ power (n - s)) (r : Ready text m s c) (h : m ≤ n) where
  -- where they are that full subtree it ends after it
  pub spine-end-block : (a : WalkCursor) → s + w ≡ n
      → a ≡ end_on text (known m [] (shown_in text)) c.node (range s w)
      → a ≡ end_on text (known m [] (shown_in text)) c.node (range s (n - s))
  spine-end-block a e ea =
      let d : w ≡ n - s = omega arith in
      ea ∙ ap (λ (j : ℕ). end_on text (known m [] (shown_in text)) c.node (range s j)) d

  -- where they are the next node it has passed one node more
  pub spine-end-node : s + w < n → ltb (position_of c.position) n ≡ false → m ≤ s → past_node c ≡ end_on text (known m [] (shown_in text)) c.node (range s (n - s))
  unfolding node_next
  spine-end-node l q b =
      walked-cursor text (known m [] (shown_in text)) [] (s + (n - s)) c.node (walk (n - s) m (positions (shown_in text)) (range s (n - s))) (node_next [] c)
      (spine-node [] text [] t z r h (node_next [] c) l q b refl).0

  -- where they split it ends after the others
  pub spine-end-cut : (l : s + w < n) (a b : WalkCursor) → (ltb (position_of c.position) n ≡ true) ⊎ (s < m) → a ≡ end_on text (known m [] (shown_in text)) c.node (range s w)
      → b ≡ end_on text (known m [] (shown_in text)) a.node (range (s + w) (n - (s + w))) → b ≡ end_on text (known m [] (shown_in text)) c.node (range s (n - s))
  spine-end-cut l a b q ea eb =
      let k : Known = known m [] (shown_in text) in
      let y : Walk = walk_on k (range (s + w) (n - (s + w))) in
      let e : s + w + (n - (s + w)) ≡ s + (n - s) = omega (arith, t.some) in
      ends_joined text c.node (s + w) (s + (n - s)) (range s (n - s)) (walk_on k (range s w)) y (walk_on k (range s (n - s))) a b
      (spine-split [] text [] t z r h l q) ea
      (eb ∙ ap (λ (i : ℕ). cursor_before text i (a.node + node_count y)) e)
