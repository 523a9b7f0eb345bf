-- Paths of parents in the log tree (specs/LogTree.antt): from the value of a subtree down to the
-- value at an entry, by parents whose strings stand in a list.
use mathlib.Core.Path.{◌≡◌, sym, ◌∙◌, subst}
use mathlib.Core.Logic.{◌⊎◌, inl}
use mathlib.Core.List.{List, Memᴰ}
use Prim.Native.Nat.{ℕ, ◌+◌, ◌≤◌, ◌<◌}
use native.Mathlib.Omega.{arith}
use lib.ListN.{length}
use Rattle.lists.specs.Lists.{Bytes}
use Rattle.hash.specs.Sha256.{digest_length, sha256}
use Rattle.tree.specs.LogTree.{Range, split_at, left_half, right_half, hash_content, log_parent_string}
use Rattle.tree.specs.Collisions.{Broken}
use Rattle.tree.proofs.CollisionLaws.{◌>>=◌, append_split, ByteStrings, same-string}

-- ---- parents

-- the string of the parent whose subtree is r, from the values of its two halves
unfoldable pub parent_string : Range → Bytes → Bytes → Bytes
parent_string r left right = log_parent_string (left_half r).width left (right_half r).width right

-- the value v of the subtree r is that of a parent whose string stands in S
pub record Parent (S : List Bytes) (r : Range) (v : Bytes) : Type 0 where
  pub left : Bytes
  pub right : Bytes
  pub wide : 1 < r.width
  pub sized : length left ≡ digest_length
  pub listed : Memᴰ (parent_string r left right) S
  pub hashed : v ≡ sha256 (parent_string r left right)

-- Equal strings of parents of one subtree have equal children.
parent_strings : (r : Range) (x y x' y' : Bytes) → length x ≡ digest_length → length x' ≡ digest_length → parent_string r x y ≡ parent_string r x' y'
    → (x ≡ x') × (y ≡ y')
unfolding parent_string log_parent_string hash_content
parent_strings r x y x' y' h h' e =
    let (a, b) = append_split (hash_content (left_half r).width x) (hash_content (left_half r).width x') (hash_content (right_half r).width y) (hash_content (right_half r).width y') (omega arith) e in
    (cc, cc)

-- Two parents of one subtree with one value have equal children.
pub parent_one : {S : List Bytes} {r : Range} {v : Bytes} → ByteStrings S → (c d : Parent S r v) → ((c.left ≡ d.left) × (c.right ≡ d.right)) ⊎ Broken S
parent_one {S} {r} b c d = do
  q ← same-string S b (parent_string r c.left c.right) (parent_string r d.left d.right) c.listed d.listed (sym c.hashed ∙ d.hashed)
  inl (parent_strings r c.left c.right d.left d.right c.sized d.sized q)

-- ---- paths

-- From the value v of the subtree r parents whose strings stand in S lead down to the value u of
-- the entry p: at each the half that holds p is taken.
pub data Path (S : List Bytes) (p : ℕ) (u : Bytes) : Range → Bytes → Type 0 where
  at_entry : {r : Range} {v : Bytes} → r.start ≡ p → r.width ≡ 1 → v ≡ u → Path S p u r v
  to-left : {r : Range} {v : Bytes} (c : Parent S r v) → p < r.start + split_at r.width → Path S p u (left_half r) c.left → Path S p u r v
  to-right : {r : Range} {v : Bytes} (c : Parent S r v) → r.start + split_at r.width ≤ p → Path S p u (right_half r) c.right → Path S p u r v

-- A path from a value is one from each value equal to it.
pub path_from : {S : List Bytes} {p : ℕ} {u : Bytes} {r : Range} {v w : Bytes} → v ≡ w → Path S p u r v → Path S p u r w
path_from {S} {p} {u} {r} e t = subst (λ (x : Bytes). Path S p u r x) e t

-- Two paths from one value of one subtree to one entry lead to one value: at each parent both go
-- the same way, and the two strings with one value are equal.
pub path_one : {S : List Bytes} {p : ℕ} {u u' : Bytes} {r : Range} {v : Bytes} → ByteStrings S → Path S p u r v → Path S p u' r v → (u ≡ u') ⊎ Broken S
path_one b (at_entry s w e) (at_entry s' w' e') = inl (sym e ∙ e')
path_one b (at_entry s w e) (to-left c h t) = let k = c.wide in absurd (omega arith)
path_one b (at_entry s w e) (to-right c h t) = let k = c.wide in absurd (omega arith)
path_one b (to-left c h t) (at_entry s w e) = let k = c.wide in absurd (omega arith)
path_one b (to-left c h t) (to-left c' h' t') = do
  q ← parent_one b c c'
  path_one b t (path_from (sym q.0) t')
path_one b (to-left c h t) (to-right c' h' t') = absurd (omega arith)
path_one b (to-right c h t) (at_entry s w e) = let k = c.wide in absurd (omega arith)
path_one b (to-right c h t) (to-left c' h' t') = absurd (omega arith)
path_one b (to-right c h t) (to-right c' h' t') = do
  q ← parent_one b c c'
  path_one b t (path_from (sym q.1) t')
