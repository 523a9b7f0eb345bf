-- Laws of what the walk over the log tree yields, step by step (specs/LogWalk.antt).
use mathlib.Core.Path.{◌≡◌, refl, sym, ap}
use mathlib.Core.Bool.{Bool, true, false, ◌&&◌, cond}
use mathlib.Core.List.{List, ◌∷◌, ◌++◌}
use Prim.Native.Nat.{ℕ, ◌+◌}
use native.Mathlib.Nat.{add-zero, add_assoc}
use lib.Dec.{eqb}
use lib.ListN.{get_or}
use lib.Seq.{get_or-drop, drop-drop}
use Rattle.lists.specs.Lists.{Bytes, same}
use Rattle.hash.specs.Sha256.{sha256}
use Rattle.tree.specs.declared.walk_cursor.WalkCursor.{WalkCursor}
use Rattle.tree.specs.declared.log_tree.Walked.{Walked}
use Rattle.tree.specs.LogTree.{LogEntry, hash_content, log_parent_string, Range, is_full, Walk, retained}
use Rattle.tree.specs.LogTree.{given, shown, parent, node_count, width_of, Known, zeros, kept_value, value}
use Rattle.tree.specs.LogTree.{agrees, kept_values_met}
use Rattle.tree.specs.LogWalk.{cursor_before, past_node, walked_by, node_next, parent_by, compared_by}

-- ---- what is kept

-- which entries are shown does not matter to the kept values
pub kept_entries : (m : ℕ) (vs : List Bytes) (es fs : List LogEntry) (r : Range)
    → kept_value (record { size = m; values = vs; entries = es }) r
    ≡ kept_value (record { size = m; values = vs; entries = fs }) r
unfolding kept_value
kept_entries m vs es fs r = refl

-- nor to the comparison with them
pub agrees_entries : (m : ℕ) (vs : List Bytes) (es fs : List LogEntry) (r : Range) (v : Bytes)
    → agrees (record { size = m; values = vs; entries = es }) r v
    ≡ agrees (record { size = m; values = vs; entries = fs }) r v
unfolding agrees kept_value
agrees_entries m vs es fs r v = refl

module _ (k : Known) (r : Range) (v : Bytes) where
  -- a value of a full subtree is compared
  pub agrees_full : is_full k.size r ≡ true → (x : Bytes) → x ≡ kept_value k r → same v x ≡ agrees k r v
  unfolding agrees
  agrees_full f x e = rw (f, e) refl

  -- another is not
  pub agrees-none : is_full k.size r ≡ false → true ≡ agrees k r v
  unfolding agrees
  agrees-none f = rw f refl

-- ---- the functions of the walk

-- a parent, its value made from the marked values of its children and compared
pub joined_made : (k : Known) (r : Range) (u w : ℕ) (x y : Walked) (a b : ℕ) (v : Bytes) (g : Bool) → a ≡ cond (eqb u 1) 0 1 → b ≡ cond (eqb w 1) 0 1
    → v ≡ sha256 (a ∷ x.value ++ b ∷ y.value) → g ≡ agrees k r v
    → record { value = v; cursor = y.cursor; met = g && (x.met && y.met) } ≡ compared_by k r (parent_by u x w y)
unfolding compared_by parent_by log_parent_string hash_content
joined_made k r u w x y a b v g ea eb ev eg = rw (eg, ev, ea, eb) refl

-- which entries are shown does not matter to it
pub compared_entries : (m : ℕ) (vs : List Bytes) (es fs : List LogEntry) (r : Range) (x : Walked)
    → compared_by (record { size = m; values = vs; entries = es }) r x
    ≡ compared_by (record { size = m; values = vs; entries = fs }) r x
unfolding compared_by agrees kept_value
compared_entries m vs es fs r x = refl

-- the next node
pub node_made : (ns : List Bytes) (c x : WalkCursor) (v : Bytes) → v ≡ get_or ns c.node zeros → x ≡ past_node c → record { value = v; cursor = x; met = true } ≡ node_next ns c
unfolding node_next
node_made ns c x v ev ex = rw (ev, ex) refl

-- ---- what each kind of walk yields

module _ (text : Bytes) (k : Known) (ns : List Bytes) (end node : ℕ) where
  -- where it ends
  pub walked-cursor : (w : Walk) (i : Walked) → i ≡ walked_by text k ns end node w → i.cursor ≡ cursor_before text end (node + node_count w)
  unfolding walked_by
  walked-cursor w i e = ap (λ (x : Walked). x.cursor) e

  -- a retained subtree: its kept value, and no node
  pub walked-retained : (r : Range) (c : WalkCursor) (v : Bytes) → c ≡ cursor_before text end node → v ≡ kept_value k r
      → record { value = v; cursor = c; met = true } ≡ walked_by text k ns end node (retained r)
  unfolding walked_by value node_count kept_values_met
  walked-retained r c v ec ev = rw (ec, ev, add-zero node) refl

  -- a given one: the next node
  pub walked-given : (r : Range) (c : WalkCursor) → c ≡ cursor_before text end node → node_next ns c ≡ walked_by text k ns end node (given r)
  unfolding node_next walked_by value node_count kept_values_met
  walked-given r c ec = rw (ec, get_or-drop node ns 0 zeros, add-zero node) refl

  -- a shown entry: its value, compared, and no node
  pub walked-shown : (p : ℕ) (c : WalkCursor) (v : Bytes) (t : Bool) → c ≡ cursor_before text end node → v ≡ value k (shown p) ns
      → t ≡ agrees k (record { start = p; width = 1 }) v → record { value = v; cursor = c; met = t } ≡ walked_by text k ns end node (shown p)
  unfolding walked_by value node_count kept_values_met
  walked-shown p c v t ec ev et = rw (ec, et, ev, add-zero node) refl

  -- a parent: what its children yield, the right one after the left one, compared
  pub walked-parent : (r : Range) (x y : Walk) (mid : ℕ) (i j : Walked) → i ≡ walked_by text k ns mid node x → j ≡ walked_by text k ns end (node + node_count x) y
      → compared_by k r (parent_by (width_of x) i (width_of y) j) ≡ walked_by text k ns end node (parent r x y)
  unfolding compared_by parent_by walked_by value node_count kept_values_met
  walked-parent r x y mid i j ei ej = rw (ei, ej, drop-drop (node_count x) node ns, sym (add_assoc node (node_count x) (node_count y))) refl
