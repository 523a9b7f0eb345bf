-- The values and strings of a walk of the log tree (specs/LogTree.antt): each value is a kept one,
-- a given node, zeros or a digest; each string is one of bytes.
use mathlib.Core.Path.{◌≡◌, refl, ap, ◌∙◌}
use mathlib.Core.Bool.{Bool, true, false, cond}
use mathlib.Core.List.{List, [], ◌∷◌, ◌++◌, Memᴰ}
use Prim.Native.Nat.{ℕ, zero, suc, ◌<◌}
use native.Mathlib.Omega.{arith}
use lib.Dec.{eqb}
use lib.ListN.{length, get_or, drop, length-replicate}
use Rattle.lists.specs.Choice.{choose}
use Rattle.lists.specs.Lists.{Bytes}
use Rattle.lists.proofs.ChoiceLaws.{choose_by}
use Rattle.lists.proofs.MemberLaws.{each_nil, each-cons, each_append}
use Rattle.hash.specs.Bytes.{AreBytes, big_endian}
use Rattle.hash.specs.Sha256.{digest_length, sha256}
use Rattle.hash.proofs.BytesLaws.{bytes_append, bytes_zeros, bytes_big_endian}
use Rattle.hash.proofs.MessageLaws.{length_digest, bytes_digest}
use Rattle.tree.specs.LogTree.{LogEntry, log_leaf_string, hash_content, log_parent_string, Range, same_range}
use Rattle.tree.specs.LogTree.{full_subtrees, is_full, Walk, retained, given, shown, parent, node_count}
use Rattle.tree.specs.LogTree.{width_of, Known, zeros, value_among, kept_value, string_at, value}
use Rattle.tree.specs.LogTree.{full_values, walk_strings}
use Rattle.tree.proofs.CollisionLaws.{ByteStrings, Sized, Each}
use Rattle.tree.proofs.WalkCaseLaws.{Over}

-- ---- what holds of each value of a list

-- What holds of each holds of each after the first ones.
pub each_drop : (P : Bytes → Type 0) (i : ℕ) (vs : List Bytes) → Each P vs → Each P (drop i vs)
each_drop P zero vs h = h
each_drop P (suc i) [] h = h
each_drop P (suc i) (v ∷ vs) h = each_drop P i vs (λ x m. h x (Memᴰ.tail m))

-- What holds of each and of zeros holds of the first one, missing or not.
pub each_first : (P : Bytes → Type 0) (vs : List Bytes) → P zeros → Each P vs → P (get_or vs 0 zeros)
each_first P [] z h = z
each_first P (v ∷ vs) z h = h v (Memᴰ.head refl)

-- What holds of a value holds of each value of the list of it alone.
each_one : (P : Bytes → Type 0) (v : Bytes) → P v → Each P (v ∷ [])
each_one P v h = each-cons P v [] h (each_nil P)

-- ---- the values of full subtrees

-- A walk over a full subtree of c entries gives its value.
pub full_values_one : (c : ℕ) (r : Range) (t : Walk) (k : Known) (nodes : List Bytes) → Over r t → is_full c r ≡ true → full_values c k t nodes ≡ value k t nodes ∷ []
unfolding full_values choose
full_values_one c r (retained x) k nodes o h = refl
full_values_one c r (given x) k nodes o h = refl
full_values_one c r (shown p) k nodes o h = refl
full_values_one c r (parent z x y) k nodes (e, _, _, _) h = rw (ap (is_full c) e ∙ h) refl

-- One over another range with two children gives those of both.
pub full_values_both : (c : ℕ) (z : Range) (x y : Walk) (k : Known) (nodes : List Bytes) → is_full c z ≡ false
    → full_values c k (parent z x y) nodes ≡ full_values c k x nodes ++ full_values c k y (drop (node_count x) nodes)
unfolding full_values choose
full_values_both c z x y k nodes h = rw h refl

-- ---- values

-- What holds of zeros and of each kept value holds of the value kept of a subtree.
pub among_by : (P : Bytes → Type 0) → P zeros → (l : List Range) (vs : List Bytes) (r : Range) → Each P vs → P (value_among l vs r)
unfolding value_among
among_by P empty [] vs r h = empty
among_by P empty (x ∷ l) vs r h =
    choose_by P (same_range r x) (λ _. get_or vs 0 zeros) (λ _. value_among l (drop 1 vs) r)
    (λ _. each_first P vs empty h) (λ _. among_by P empty l (drop 1 vs) r (each_drop P 1 vs h))

-- What holds of zeros, of each digest, of each kept value and of each node holds of every value
-- that a walk works out.
module _ (P : Bytes → Type 0) (empty : P zeros) (digest : (x : Bytes) → P (sha256 x)) where
  -- It holds of the value of a walk.
  pub value-by : (k : Known) (w : Walk) (ns : List Bytes) → Each P k.values → Each P ns → P (value k w ns)
  unfolding value kept_value
  value-by k (retained r) ns h i = among_by P empty (full_subtrees k.size) k.values r h
  value-by k (given r) ns h i = each_first P ns empty i
  value-by k (shown p) ns h i = digest (string_at k.entries p)
  value-by k (parent r x y) ns h i = digest (log_parent_string (width_of x) (value k x ns) (width_of y) (value k y (drop (node_count x) ns)))

  -- It holds of each value handed on.
  pub full-values-by : (n : ℕ) (k : Known) (w : Walk) (ns : List Bytes) → Each P k.values → Each P ns → Each P (full_values n k w ns)
  unfolding full_values
  full-values-by n k (retained r) ns h i = each_one P (value k (retained r) ns) (value-by k (retained r) ns h i)
  full-values-by n k (given r) ns h i = each_one P (value k (given r) ns) (value-by k (given r) ns h i)
  full-values-by n k (shown p) ns h i = each_one P (value k (shown p) ns) (value-by k (shown p) ns h i)
  full-values-by n k (parent r x y) ns h i =
      choose_by (λ (vs : List Bytes). Each P vs) (is_full n r) (λ _. value k (parent r x y) ns ∷ [])
      (λ _. full_values n k x ns ++ full_values n k y (drop (node_count x) ns))
      (λ _. each_one P (value k (parent r x y) ns) (value-by k (parent r x y) ns h i))
      (λ _. each_append P (full_values n k x ns) (full_values n k y (drop (node_count x) ns)) (full-values-by n k x ns h i)
      (full-values-by n k y (drop (node_count x) ns) h (each_drop P (node_count x) ns i)))

-- ---- lengths

-- Those after the first ones are as long as digests too.
pub sized_drop : (i : ℕ) (vs : List Bytes) → Sized vs → Sized (drop i vs)
sized_drop = each_drop (λ (v : Bytes). length v ≡ digest_length)

-- Zeros are as long as a digest.
zeros_length : length zeros ≡ digest_length
unfolding zeros
zeros_length = length-replicate {A = ℕ} digest_length 0

-- A value that a walk works out is as long as a digest.
pub value_length_lem : (k : Known) (w : Walk) (ns : List Bytes) → Sized k.values → Sized ns → length (value k w ns) ≡ digest_length
value_length_lem = value-by (λ (v : Bytes). length v ≡ digest_length) zeros_length length_digest

-- Each value that a walk hands on is as long as a digest.
pub full_values_length : (n : ℕ) (k : Known) (w : Walk) (ns : List Bytes) → Sized k.values → Sized ns → Sized (full_values n k w ns)
full_values_length = full-values-by (λ (v : Bytes). length v ≡ digest_length) zeros_length length_digest

-- ---- bytes

-- What stands for a missing value is a byte string.
zeros_bytes : AreBytes zeros
unfolding zeros
zeros_bytes = bytes_zeros digest_length

-- A value that a walk works out is a byte string.
pub bytes_value : (k : Known) (w : Walk) (ns : List Bytes) → ByteStrings k.values → ByteStrings ns → AreBytes (value k w ns)
bytes_value = value-by AreBytes zeros_bytes bytes_digest

-- Each value that a walk hands on is a byte string.
pub full_values_bytes : (n : ℕ) (k : Known) (w : Walk) (ns : List Bytes) → ByteStrings k.values → ByteStrings ns → ByteStrings (full_values n k w ns)
full_values_bytes = full-values-by AreBytes zeros_bytes bytes_digest

-- each entry's prefix root is a byte string
abbrev pub ByteEntries : List LogEntry → Type 0
ByteEntries es = (e : LogEntry) → Memᴰ e es → AreBytes e.prefix_root

-- The string of an entry is a byte string.
bytes_leaf : (es : List LogEntry) (p : ℕ) → ByteEntries es → AreBytes (string_at es p)
unfolding string_at log_leaf_string
bytes_leaf [] p h = tt
bytes_leaf (e ∷ es) p h =
    choose_by AreBytes (eqb e.position p) (λ _. log_leaf_string e) (λ _. string_at es p)
    (λ _. bytes_append (big_endian 8 e.timestamp) e.prefix_root (bytes_big_endian 8 e.timestamp) (h e (Memᴰ.head refl)))
    (λ _. bytes_leaf es p (λ x m. h x (Memᴰ.tail m)))

-- A child's value after its mark is a byte string.
bytes_content : (n : ℕ) (v : Bytes) → AreBytes v → AreBytes (hash_content n v)
unfolding hash_content
bytes_content n v h = (mark (eqb n 1), h)
  where
    mark : (t : Bool) → cond t 0 1 < 256
    mark true = omega arith
    mark false = omega arith

-- Every string that a walk hashes is a byte string, where the prefix roots of the entries, the kept
-- values and the nodes are.
pub bytes_walk : (k : Known) (w : Walk) (ns : List Bytes) → ByteEntries k.entries → ByteStrings k.values → ByteStrings ns
    → ByteStrings (walk_strings k w ns)
unfolding walk_strings log_parent_string
bytes_walk k (retained r) ns e h i = each_nil AreBytes
bytes_walk k (given r) ns e h i = each_nil AreBytes
bytes_walk k (shown p) ns e h i = each-cons AreBytes (string_at k.entries p) [] (bytes_leaf k.entries p e) (each_nil AreBytes)
bytes_walk k (parent r x y) ns e h i =
    each-cons AreBytes (log_parent_string (width_of x) (value k x ns) (width_of y) (value k y ms)) (walk_strings k x ns ++ walk_strings k y ms)
    (bytes_append (hash_content (width_of x) (value k x ns)) (hash_content (width_of y) (value k y ms))
    (bytes_content (width_of x) (value k x ns) (bytes_value k x ns h i)) (bytes_content (width_of y) (value k y ms) (bytes_value k y ms h j)))
    (each_append AreBytes (walk_strings k x ns) (walk_strings k y ms) (bytes_walk k x ns e h i) (bytes_walk k y ms e h j))
  where
    ms : List Bytes
    ms = drop (node_count x) ns

    j : ByteStrings ms
    j = each_drop AreBytes (node_count x) ns i
