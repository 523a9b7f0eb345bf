-- The log tree (paper 01, Trees; 001, 10.8; 004, 4.1 and 7.3): the strings of its leaves and
-- parents, its full subtrees, and the walk from the root down.
use Rattle.std.specs.Prelude.{Bool, true, ◌&&◌, ◌||◌, not, cond, List, [], ◌∷◌, ◌++◌, ℕ, zero, suc, ◌+◌, ◌-◌, eqb, leb, ltb, get_or, drop, replicate}
use Rattle.lists.specs.Choice.{choose}
use Rattle.lists.specs.Lists.{Bytes, any, same}
use Rattle.hash.specs.Bytes.{big_endian}
use Rattle.hash.specs.Sha256.{digest_length, sha256}
use Rattle.tree.specs.SearchTree.{power}

-- ---- what is hashed

-- 001, 10.8: a log entry, with its position
pub record LogEntry : Type 0 where
  pub position : ℕ
  pub timestamp : ℕ
  pub prefix_root : Bytes

unfoldable pub log_leaf_string : LogEntry → Bytes
log_leaf_string e = big_endian 8 e.timestamp ++ e.prefix_root

-- 001, 10.8: hash_content of a child of so many entries: 0x00 before a leaf's value, 0x01 before a
-- parent's
unfoldable pub hash_content : ℕ → Bytes → Bytes
hash_content width value = cond (eqb width 1) 0 1 ∷ value

unfoldable pub log_parent_string : ℕ → Bytes → ℕ → Bytes → Bytes
log_parent_string left_width left right_width right = hash_content left_width left ++ hash_content right_width right

-- ---- subtrees

-- the entries of a subtree: so many, from a first one on
pub record Range : Type 0 where
  pub start : ℕ
  pub width : ℕ

unfoldable pub same_range : Range → Range → Bool
same_range x y = eqb x.start y.start && eqb x.width y.width

-- every entry of the second is one of the first
unfoldable pub holds : Range → Range → Bool
holds x y = leb x.start y.start && leb (y.start + y.width) (x.start + x.width)

-- 004, 4.1: the left part of a tree has as many entries as the largest power of two that is smaller
-- than the tree
unfoldable pub split_at : ℕ → ℕ
split_at width = power (width - 1)

unfoldable pub left_half : Range → Range
left_half r = record { start = r.start; width = split_at r.width }

unfoldable pub right_half : Range → Range
right_half r = record { start = r.start + split_at r.width; width = r.width - split_at r.width }

unfoldable pub full_from : ℕ → ℕ → ℕ → List Range
full_from zero start width = []
full_from (suc k) start width =
    choose (eqb width 0) (λ _. []) (λ _. record {
      start = start;
      width = power width;
    } ∷ full_from k (start + power width) (width - power width))

-- 001, 4.2: the full subtrees of a tree of m entries, left to right: the balanced subtrees that are
-- as large as possible
unfoldable pub full_subtrees : ℕ → List Range
full_subtrees m = full_from m 0 m

unfoldable pub is_full : ℕ → Range → Bool
is_full m r = any (same_range r) (full_subtrees m)

unfoldable pub holds_full : ℕ → Range → Bool
holds_full m r = any (holds r) (full_subtrees m)

-- ---- the walk: how each subtree is worked out, given m and the shown positions

pub data Walk : Type 0 where
  retained : Range → Walk  -- its value is kept
  given : Range → Walk  -- its value is the next node
  shown : ℕ → Walk  -- a shown entry, hashed
  parent : Range → Walk → Walk → Walk  -- hashed from its two children

unfoldable pub is_shown : List ℕ → Range → Bool
is_shown positions r = any (λ (p : ℕ). leb r.start p && ltb p (r.start + r.width)) positions

-- A subtree with nothing shown is retained, if it is exactly a full subtree of m; else given, if it
-- holds none. What is left, shown or not, splits, down to single entries, which are shown. The
-- first number is at least the width.
unfoldable pub walk : ℕ → ℕ → List ℕ → Range → Walk
walk zero m positions r = given r
walk (suc k) m positions r =
    choose (not (is_shown positions r) && is_full m r) (λ _. retained r)
    (λ _. choose (not (is_shown positions r) && not (holds_full m r)) (λ _. given r)
    (λ _. choose (eqb r.width 1) (λ _. shown r.start)
    (λ _. parent r (walk k m positions (left_half r)) (walk k m positions (right_half r)))))

-- the walk of a tree of n entries
unfoldable pub walk_of : ℕ → ℕ → List ℕ → Walk
walk_of n m positions = walk n m positions (record { start = 0; width = n })

-- how many nodes it takes
unfoldable pub node_count : Walk → ℕ
node_count (retained r) = 0
node_count (given r) = 1
node_count (shown p) = 0
node_count (parent r x y) = node_count x + node_count y

unfoldable pub width_of : Walk → ℕ
width_of (retained r) = r.width
width_of (given r) = r.width
width_of (shown p) = 1
width_of (parent r x y) = r.width

-- ---- values

-- what is known beside the nodes, which are given and taken from left to right: m, the kept values
-- of the full subtrees of m entries, and the entries shown
pub record Known : Type 0 where
  pub size : ℕ
  pub values : List Bytes
  pub entries : List LogEntry

-- what stands for the value of an empty place (001, 10.9), and for one that is missing
unfoldable pub zeros : Bytes
zeros = replicate digest_length 0

-- the kept value of a full subtree
unfoldable pub value_among : List Range → List Bytes → Range → Bytes
value_among [] vs r = zeros
value_among (x ∷ xs) vs r = choose (same_range r x) (λ _. get_or vs 0 zeros) (λ _. value_among xs (drop 1 vs) r)

unfoldable pub kept_value : Known → Range → Bytes
kept_value k r = value_among (full_subtrees k.size) k.values r

-- the leaf string of a shown position
unfoldable pub string_at : List LogEntry → ℕ → Bytes
string_at [] p = []
string_at (e ∷ es) p = choose (eqb e.position p) (λ _. log_leaf_string e) (λ _. string_at es p)

unfoldable pub value : Known → Walk → List Bytes → Bytes
value k (retained r) nodes = kept_value k r
value k (given r) nodes = get_or nodes 0 zeros
value k (shown p) nodes = sha256 (string_at k.entries p)
value k (parent r x y) nodes =
    sha256 (log_parent_string (width_of x) (value k x nodes) (width_of y)
    (value k y (drop (node_count x) nodes)))

-- a subtree that was worked out has the value that is kept of it, if one is
unfoldable pub agrees : Known → Range → Bytes → Bool
agrees k r v = not (is_full k.size r) || same v (kept_value k r)

-- so does every subtree that was worked out
unfoldable pub kept_values_met : Known → Walk → List Bytes → Bool
kept_values_met k (retained r) nodes = true
kept_values_met k (given r) nodes = true
kept_values_met k (shown p) nodes = agrees k (record { start = p; width = 1 }) (value k (shown p) nodes)
kept_values_met k (parent r x y) nodes =
    agrees k r (value k (parent r x y) nodes)
    && (kept_values_met k x nodes && kept_values_met k y (drop (node_count x) nodes))

-- the values of the full subtrees of the n entries walked over, left to right, where entry n - 1 is
-- shown
unfoldable pub full_values : ℕ → Known → Walk → List Bytes → List Bytes
full_values n k (retained r) nodes = value k (retained r) nodes ∷ []
full_values n k (given r) nodes = value k (given r) nodes ∷ []
full_values n k (shown p) nodes = value k (shown p) nodes ∷ []
full_values n k (parent r x y) nodes =
    choose (is_full n r) (λ _. value k (parent r x y) nodes ∷ [])
    (λ _. full_values n k x nodes ++ full_values n k y (drop (node_count x) nodes))

-- the strings hashed: a leaf's of each shown entry, a parent's of each subtree hashed from its
-- children
unfoldable pub walk_strings : Known → Walk → List Bytes → List Bytes
walk_strings k (retained r) nodes = []
walk_strings k (given r) nodes = []
walk_strings k (shown p) nodes = string_at k.entries p ∷ []
walk_strings k (parent r x y) nodes =
    log_parent_string (width_of x) (value k x nodes) (width_of y) (value k y (drop (node_count x) nodes))
    ∷ walk_strings k x nodes ++ walk_strings k y (drop (node_count x) nodes)
