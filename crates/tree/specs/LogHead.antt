-- What the walk over a log of n entries yields (paper 01, Trees): the root, the values of the full
-- subtrees, whether the kept values were met, the number of nodes.
use Rattle.std.specs.Prelude.{Bool, false, not, ◌||◌, ℕ, ◌*◌, ◌^◌, eqb, leb, ltb, replicate}
use mathlib.Core.List.{List, [], ◌∷◌, map, flatten}
use Rattle.std.specs.Int.Count.{ones}
use Rattle.lists.specs.Choice.{choose}
use Rattle.lists.specs.Lists.{Bytes, all, every, rising, runs}
use Rattle.hash.specs.Bytes.{padded}
use Rattle.hash.specs.Sha256.{digest_length}
use Rattle.tree.specs.declared.log_head.LogHead.{LogHead}
use Rattle.tree.specs.LogTree.{LogEntry, Known, Walk, walk_of, node_count, zeros, value, kept_values_met}
use Rattle.tree.specs.LogTree.{full_values}
use Rattle.tree.specs.LogText.{shown_in}

-- a log has at most 2 ^ 40 entries, so that it has at most as many full subtrees as there are
-- levels
abbrev pub level_limit : ℕ
level_limit = 40

-- the block of the values of full subtrees
abbrev pub block_length : ℕ
block_length = level_limit * digest_length

-- what is known: the values that fill a block from its front, as many as m has full subtrees, and
-- the entries that a text shows
unfoldable pub known_in : Bytes → ℕ → Bytes → Known
known_in text m block = record { size = m; values = runs (ones m) digest_length block; entries = shown_in text }

abbrev pub positions : List LogEntry → List ℕ
positions es = map (λ (e : LogEntry). e.position) es

-- a log has entries and not too many, no fewer than m
abbrev pub has_size : ℕ → ℕ → Bool
has_size n m = not (eqb n 0 || ltb (2 ^ level_limit) n || ltb n m)

-- there is a walk: the log has entries and not too many, no fewer than m, and the shown ones rise
-- and are in it
unfoldable pub is_walkable : ℕ → Known → Bool
is_walkable n k =
    every
    (ltb 0 n
    ∷ leb n (2 ^ level_limit)
    ∷ leb k.size n
    ∷ rising (positions k.entries)
    ∷ all (λ (p : ℕ). ltb p n) (positions k.entries)
    ∷ [])

abbrev pub walk_over : ℕ → Known → Walk
walk_over n k = walk_of n k.size (positions k.entries)

-- the head of a log: its root, the block of the values of its full subtrees, and whether the kept
-- values were met
pub record Head : Type 0 where
  pub root : Bytes
  pub values : Bytes
  pub met : Bool

-- the head that the walk yields; where there is no walk, zeros, and no kept value met
unfoldable pub log_head : ℕ → Known → List Bytes → Head
log_head n k nodes =
    choose (is_walkable n k)
    (λ _.
    record {
      root = value k (walk_over n k) nodes;
      values = padded block_length (flatten (full_values n k (walk_over n k) nodes));
      met = kept_values_met k (walk_over n k) nodes;
    })
    (λ _. record { root = zeros; values = replicate block_length 0; met = false })

-- what the code answers, with the values from the block that it filled
abbrev pub head_with : Bytes → LogHead → Head
head_with block h = record { root = h.root; values = block; met = h.met }

-- the number of nodes that the walk takes; 0 where there is none
unfoldable pub nodes_asked : ℕ → Known → ℕ
nodes_asked n k = choose (is_walkable n k) (λ _. node_count (walk_over n k)) (λ _. 0)
