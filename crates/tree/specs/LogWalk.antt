-- The words in which the private functions of the walk over the log tree say what they ask and
-- yield (src/log_tree.rt, src/log_spine.rt, src/walk_cursor.rt): where the walk stands, which step
-- it takes, what it has worked out. No public contract cites them.
use Rattle.std.specs.Prelude.{◌≡◌, ◌⊎◌, Bool, true, false, ◌&&◌, ℕ, suc, ◌+◌, ◌-◌, ◌*◌, ◌^◌, ◌≤◌, ◌<◌, ltb, length, get_or, drop, Option}
use Rattle.std.specs.Prelude.{slice_get, unwrap_or}
use mathlib.Core.List.{List, [], ◌∷◌, ◌++◌, flatten}
use Rattle.lists.specs.Choice.{choose}
use Rattle.lists.specs.Lists.{Bytes, all, rising}
use Rattle.tree.specs.declared.known_log.KnownLog.{KnownLog}
use Rattle.tree.specs.declared.log_tree.Source.{Source}
use Rattle.tree.specs.declared.log_tree.Source.TheVariants.{Retained, Given, Shown, Parent}
use Rattle.tree.specs.declared.log_spine.Edge.{Edge}
use Rattle.tree.specs.declared.log_spine.Edge.TheVariants.{Block, Node, Cut}
use Rattle.tree.specs.declared.walk_cursor.WalkCursor.{WalkCursor}
use Rattle.tree.specs.declared.log_tree.Walked.{Walked}
use Rattle.hash.specs.Bytes.{padded}
use Rattle.hash.specs.Sha256.{digest_length, sha256}
use Rattle.tree.specs.LogTree.{log_parent_string, Range, is_full, holds_full, Walk, walk, node_count, Known}
use Rattle.tree.specs.LogTree.{zeros, value, agrees, kept_values_met, full_values}
use Rattle.tree.specs.LogText.{entry_offsets, shown_in, nodes_in}
use Rattle.tree.specs.LogHead.{level_limit, block_length, known_in, positions}

-- so many entries from a first one on
abbrev pub range : ℕ → ℕ → Range
range s w = record { start = s; width = w }

-- what is known of a log, and the values of its nodes
abbrev pub known_by : KnownLog → Known
known_by l = known_in l.text.now l.kept_size l.kept.now

abbrev pub nodes_by : KnownLog → List Bytes
nodes_by l = nodes_in l.nodes.now

-- positions rise and are below n
abbrev pub rising_below : ℕ → List ℕ → Bool
rising_below n ps = rising ps && all (λ (p : ℕ). ltb p n) ps

-- ---- where the walk stands

-- how many positions of a rising list are below an entry
unfoldable pub below : List ℕ → ℕ → ℕ
below [] s = 0
below (p ∷ ps) s = choose (ltb p s) (λ _. suc (below ps s)) (λ _. 0)

-- what stands for the position of the next shown entry where none is left: no log has so many
-- entries
abbrev pub no_position : ℕ
no_position = 2 ^ 64 - 1

-- the position of the next shown entry, or what stands for it
abbrev pub position_of : Option ℕ → ℕ
position_of p = unwrap_or p no_position

-- so many shown entries of a text and so many nodes are passed
abbrev pub cursor_at : Bytes → ℕ → ℕ → WalkCursor
cursor_at text i node =
    record {
      at = get_or (entry_offsets text 0) i (length text);
      position = slice_get (positions (shown_in text)) i;
      node = node;
    }

-- the walk stands before an entry
abbrev pub cursor_before : Bytes → ℕ → ℕ → WalkCursor
cursor_before text start node = cursor_at text (below (positions (shown_in text)) start) node

-- the first entry line from a line's start on comes next
abbrev pub cursor_from : Bytes → ℕ → ℕ → WalkCursor
cursor_from text start node =
    record {
      at = get_or (entry_offsets text start) 0 (length text);
      position = slice_get (positions (shown_in (drop start text))) 0;
      node = node;
    }

-- one node more is passed
abbrev pub past_node : WalkCursor → WalkCursor
past_node c = record { at = c.at; position = c.position; node = c.node + 1 }

-- the walk may go on at an entry: the shown positions rise, it stands before the entry, and has
-- taken no more nodes than it has passed entries
pub record Ready (text : Bytes) (m start : ℕ) (c : WalkCursor) : Type 0 where
  pub rises : rising (positions (shown_in text)) ≡ true
  pub size_small : m ≤ 2 ^ level_limit
  pub stands : c ≡ cursor_before text start c.node
  pub taken : c.node ≤ start

-- the width entries from start on are a whole block, of no more entries than a log may have
pub record Whole (start width : ℕ) : Type 0 where
  pub level : ℕ
  pub number : ℕ
  pub start_is : start ≡ number * 2 ^ level
  pub width_is : width ≡ 2 ^ level
  pub small : start + width ≤ 2 ^ level_limit

-- so many entries from start on, and the rest after them, are the halves of a whole block; or they
-- are of a cut one, which is no full subtree
pub data Halves (m start half rest : ℕ) : Type 0 where
  even : rest ≡ half → Whole start (half + rest) → Halves m start half rest
  uneven : rest < half → is_full m (range start (half + rest)) ≡ false → Halves m start half rest

-- ---- the step that the walk takes at a subtree, something being shown in it or not

abbrev pub SourceFacts : Bool → ℕ → Range → Source → Type 0
SourceFacts b m r Retained = (b ≡ false) × (is_full m r ≡ true)
SourceFacts b m r Given = (b ≡ false) × (is_full m r ≡ false) × (holds_full m r ≡ false)
SourceFacts b m r Shown = (b ≡ true) × (r.width ≡ 1)
SourceFacts b m r Parent = (1 < r.width) × ((b ≡ true) ⊎ ((is_full m r ≡ false) × (holds_full m r ≡ true)))

-- ---- the last entries of a log of n entries

-- the entries from start on up to n, of which there are some, are fewer than those of a block from
-- start on
pub record Tail (n start : ℕ) : Type 0 where
  pub level : ℕ
  pub number : ℕ
  pub start_is : start ≡ number * 2 ^ level
  pub some : start < n
  pub within : n < start + 2 ^ level
  pub small : n ≤ 2 ^ level_limit

-- something being shown in them or not, the first of them, as many as width, are all; or there are
-- more, which are the next node together with them, or are split off
abbrev pub EdgeFacts : ℕ → ℕ → ℕ → ℕ → Bool → Edge → Type 0
EdgeFacts m n start width b Block = start + width ≡ n
EdgeFacts m n start width b Node = (start + width < n) × (b ≡ false) × (m ≤ start)
EdgeFacts m n start width b Cut = (start + width < n) × ((b ≡ true) ⊎ (start < m))

-- ---- what the walk over a subtree yields

-- the walk over a subtree, with steps enough
abbrev pub walk_on : Known → Range → Walk
walk_on k r = walk r.width k.size (positions k.entries) r

-- its value, whether the kept values were met, and where it ends in the text of the shown entries,
-- so many nodes being taken before
unfoldable pub walked_by : Bytes → Known → List Bytes → ℕ → ℕ → Walk → Walked
walked_by text k ns end node w =
    record {
      value = value k w (drop node ns);
      cursor = cursor_before text end (node + node_count w);
      met = kept_values_met k w (drop node ns);
    }

-- where it ends
abbrev pub end_on : Bytes → Known → ℕ → Range → WalkCursor
end_on text k node r = cursor_before text (r.start + r.width) (node + node_count (walk_on k r))

-- all of it
abbrev pub walked_on : Bytes → Known → List Bytes → ℕ → Range → Walked
walked_on text k ns node r = walked_by text k ns (r.start + r.width) node (walk_on k r)

-- ---- what the steps yield

-- the next node
unfoldable pub node_next : List Bytes → WalkCursor → Walked
node_next ns c =
    record {
      value = get_or ns c.node zeros;
      cursor = past_node c;
      met = true;
    }

-- a parent, of its two children
unfoldable pub parent_by : ℕ → Walked → ℕ → Walked → Walked
parent_by lw x rw y =
    record {
      value = sha256 (log_parent_string lw x.value rw y.value);
      cursor = y.cursor;
      met = x.met && y.met;
    }

-- compared with the kept value
unfoldable pub compared_by : Known → Range → Walked → Walked
compared_by k r x = record { value = x.value; cursor = x.cursor; met = agrees k r x.value && x.met }

-- ---- the block of the values of full subtrees

-- a block that held so many values, and zeros after them, holds another string after them
abbrev pub Filled : ℕ → Bytes → Bytes → Bytes → Type 0
Filled count old new t =
    (s : Bytes) → old ≡ padded block_length s → length s ≡ digest_length * count
    → new ≡ padded block_length (s ++ t)

-- the values of the full subtrees of n in the entries from start on up to n, one after another
unfoldable pub values_from : ℕ → Known → List Bytes → ℕ → ℕ → Bytes
values_from n k ns start node = flatten (full_values n k (walk_on k (range start (n - start))) (drop node ns))
