-- Laws of where the walk over the log tree ends (src/log_tree.rt): what it yields besides is left
-- out.
use mathlib.Core.Path.{◌≡◌, refl, sym, ap, ◌∙◌}
use mathlib.Core.Logic.{inl, inr, ⊎_elim}
use mathlib.Core.Bool.{true}
use mathlib.Core.List.{List, []}
use Prim.Native.Nat.{ℕ, ◌+◌, ◌/◌, ◌<◌}
use native.Mathlib.Nat.{add_assoc}
use native.Mathlib.Omega.{arith}
use lib.Dec.{ltb}
use lib.ListN.{drop}
use Rattle.lists.specs.Lists.{Bytes}
use Rattle.hash.specs.Sha256.{sha256}
use Rattle.lines.specs.Layout.{entry_fields}
use Rattle.tree.specs.declared.walk_cursor.WalkCursor.{WalkCursor}
use Rattle.tree.specs.declared.log_tree.Source.TheVariants.{Retained, Given, Shown, Parent}
use Rattle.tree.specs.LogTree.{LogEntry, log_leaf_string, Range, Walk, parent, walk, node_count, kept_value}
use Rattle.tree.specs.LogTree.{agrees}
use Rattle.tree.specs.LogText.{entry_in, next_line, shown_in}
use Rattle.tree.specs.LogHead.{positions}
use Rattle.tree.specs.LogWalk.{range, position_of, cursor_from, cursor_before, past_node, Ready, Whole, SourceFacts}
use Rattle.tree.specs.LogWalk.{end_on, node_next}
use Rattle.tree.proofs.DecisionLaws.{whole_some}
use Rattle.tree.proofs.WalkedLaws.{walked-cursor}
use Rattle.tree.proofs.WalkLaws.{known, next-shown, entry-walked, ready_behind, whole-left, half_twice}
use Rattle.tree.proofs.WalkLaws.{split-whole, block-retained, block-given, block-entry}
use Rattle.tree.proofs.WalkLaws.{block-shown-entry}

-- after two halves: the nodes of both are taken
pub ends_joined : (text : Bytes) (node mid end : ℕ) (r : Range) (x y w : Walk) (a b : WalkCursor) → w ≡ parent r x y → a ≡ cursor_before text mid (node + node_count x)
    → b ≡ cursor_before text end (a.node + node_count y) → b ≡ cursor_before text end (node + node_count w)
unfolding node_count
ends_joined text node mid end r x y w a b ew ea eb =
    let n : a.node ≡ node + node_count x = ap (λ (c : WalkCursor). c.node) ea in
    eb ∙ ap (cursor_before text end) (ap (λ (i : ℕ). i + node_count y) n ∙ add_assoc node (node_count x) (node_count y) ∙ ap (λ (v : Walk). node + node_count v) (sym ew))

module _ (text : Bytes) {m s w : ℕ} {c : WalkCursor} (h : Whole s w) (r : Ready text m s c) where
  -- after a retained block the walk stands as before it
  pub end-retained : SourceFacts (ltb (position_of c.position) (s + w)) m (range s w) Retained → c ≡ end_on text (known m [] (shown_in text)) c.node (range s w)
  end-retained f =
      walked-cursor text (known m [] (shown_in text)) [] (s + w) c.node (walk w m (positions (shown_in text)) (range s w)) (record { value = kept_value (known m [] (shown_in text)) (range s w); cursor = c; met = true })
      (block-retained [] text [] h r (shown_in text) (kept_value (known m [] (shown_in text)) (range s w)) f refl)

  -- after a given one it has passed one node more
  pub end-given : SourceFacts (ltb (position_of c.position) (s + w)) m (range s w) Given → past_node c ≡ end_on text (known m [] (shown_in text)) c.node (range s w)
  unfolding node_next
  end-given f = walked-cursor text (known m [] (shown_in text)) [] (s + w) c.node (walk w m (positions (shown_in text)) (range s w)) (node_next [] c) (block-given [] text [] h r f)

  -- the right half may be walked over after the left one
  pub ready-half : (a : WalkCursor) → 1 < w → a ≡ end_on text (known m [] (shown_in text)) c.node (range s (w / 2)) → Ready text m (s + w / 2) a
  ready-half a g e = ready_behind r (w / 2) (whole_some (whole-left h g)) a e

  -- after one that splits it stands as after its right half
  pub end-parent : (a b : WalkCursor) → SourceFacts (ltb (position_of c.position) (s + w)) m (range s w) Parent → a ≡ end_on text (known m [] (shown_in text)) c.node (range s (w / 2))
      → b ≡ end_on text (known m [] (shown_in text)) a.node (range (s + w / 2) (w / 2)) → b ≡ end_on text (known m [] (shown_in text)) c.node (range s w)
  end-parent a b f ea eb =
      let t : s + w / 2 + w / 2 ≡ s + w = omega (arith, half_twice h f.0) in
      let y : Walk = walk (w / 2) m (positions (shown_in text)) (range (s + w / 2) (w / 2)) in
      ends_joined text c.node (s + w / 2) (s + w) (range s w) (walk (w / 2) m (positions (shown_in text)) (range s (w / 2))) y (walk w m (positions (shown_in text)) (range s w)) a b
      (split-whole h f.0 m (positions (shown_in text)) (⊎_elim (λ q. inl (next-shown r w (omega (arith, h.small)) ∙ q)) inr f.1))
      ea
      (eb ∙ ap (λ (i : ℕ). cursor_before text i (a.node + node_count y)) t)

-- after a shown entry
pub end_shown : (text : Bytes) {m s w : ℕ} {c : WalkCursor} (h : Whole s w) (r : Ready text m s c)
    → SourceFacts (ltb (position_of c.position) (s + w)) m (range s w) Shown → (a : WalkCursor) → a ≡ cursor_from text (next_line text c.at) c.node
    → a ≡ end_on text (known m [] (shown_in text)) c.node (range s w)
end_shown text {m} {s} {w} {c} h r f a ea =
    let es : List LogEntry = shown_in text in
    let (b, l) = block-entry [] text [] h r f in
    let v : Bytes = sha256 (log_leaf_string (entry_in (drop (c.at + entry_fields) text))) in
    let g = agrees (known m [] es) (range s 1) v in
    walked-cursor text (known m [] es) [] (s + w) c.node (walk w m (positions es) (range s w)) (record { value = v; cursor = a; met = g })
    (entry-walked text r b l [] v a g refl ea refl ∙ block-shown-entry [] text [] h r f)
