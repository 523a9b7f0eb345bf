-- Small trees written out: how the walk goes, which bytes are hashed in which order. antt computes
-- each one; SHA-256 stays shut.
use mathlib.Core.Path.{◌≡◌, refl}
use mathlib.Core.List.{[], ◌∷◌, ◌++◌, map}
use mathlib.Core.Option.{bind}
use Prim.Native.Nat.{ℕ, ◌-◌, ◌^◌}
use Rattle.lists.specs.Lists.{Bytes}
use Rattle.lists.proofs.Computing.{list_definitions}
use Rattle.hash.specs.Bytes.{big_endian}
use Rattle.hash.specs.Sha256.{sha256}
use Rattle.lines.specs.Number.{ascii}
use Rattle.lines.specs.Line.{tab, newline}
use Rattle.lines.proofs.Computing.{line_definitions}
use Rattle.tree.specs.Ladder.{ladder_within}
use Rattle.tree.specs.SearchTree.{frontier, frontier_and_paths, next_from}
use Rattle.tree.specs.LogTree.{LogEntry, Range, retained, given, shown, parent, walk_of, Known, zeros}
use Rattle.tree.specs.LogTree.{value, full_values, walk_strings}
use Rattle.tree.specs.LogText.{entry_in, entry_offsets, shown_in}
use Rattle.tree.specs.LogHead.{known_in, nodes_asked}
use Rattle.tree.specs.PrefixTree.{bits, value_above, strings_above}
use Rattle.tree.proofs.Computing.{tree_definitions}

abbrev range : ℕ → ℕ → Range
range s w = record { start = s; width = w }

-- the frontier of 14 from 10 entries kept: entries 0 to 7 are worked out although their value is
-- kept, since 7 is shown; 8 and 9 are taken as kept
pub walk_of_14 : walk_of 14 10 (frontier 14)
    ≡ parent (range 0 14)
    (parent (range 0 8) (given (range 0 4)) (parent (range 4 4) (given (range 4 2)) (parent (range 6 2) (given (range 6 1)) (shown 7))))
    (parent (range 8 6)
    (parent (range 8 4) (retained (range 8 2)) (parent (range 10 2) (given (range 10 1)) (shown 11)))
    (parent (range 12 2) (given (range 12 1)) (shown 13)))
unfolding list_definitions tree_definitions
walk_of_14 = refl

-- with nothing shown, what was kept and what is new stand side by side
pub walk_of_5 : walk_of 5 3 [] ≡ parent (range 0 5) (parent (range 0 4) (retained (range 0 2)) (parent (range 2 2) (retained (range 2 1)) (given (range 3 1)))) (given (range 4 1))
unfolding list_definitions tree_definitions
walk_of_5 = refl

-- three entries, of which 0 and 1 are kept and 2 is shown
module _ (k : Bytes) (t : ℕ) (r : Bytes) where
  abbrev three : Known
  three = record { size = 2; values = k ∷ []; entries = record { position = 2; timestamp = t; prefix_root = r } ∷ [] }

  pub three-value : value three (walk_of 3 2 (2 ∷ [])) [] ≡ sha256 (0x01 ∷ k ++ 0x00 ∷ sha256 (big_endian 8 t ++ r))
  unfolding list_definitions tree_definitions
  three-value = refl

  pub three-full-values : full_values 3 three (walk_of 3 2 (2 ∷ [])) [] ≡ k ∷ sha256 (big_endian 8 t ++ r) ∷ []
  unfolding list_definitions tree_definitions
  three-full-values = refl

  pub three-strings : walk_strings three (walk_of 3 2 (2 ∷ [])) []
      ≡ (0x01 ∷ k ++ 0x00 ∷ sha256 (big_endian 8 t ++ r)) ∷ (big_endian 8 t ++ r) ∷ []
  unfolding list_definitions tree_definitions
  three-strings = refl

-- two nodes are taken from left to right
pub nodes_in_order : (a b : Bytes) (t : ℕ) (r : Bytes)
    → value (record { size = 0; values = []; entries = record { position = 3; timestamp = t; prefix_root = r } ∷ [] }) (walk_of 4 0 (3 ∷ [])) (a ∷ b ∷ [])
    ≡ sha256 (0x01 ∷ a ++ 0x01 ∷ sha256 (0x00 ∷ b ++ 0x00 ∷ sha256 (big_endian 8 t ++ r)))
unfolding list_definitions tree_definitions
nodes_in_order a b t r = refl

-- the high bit of the first byte leads first
pub bits_of_two_bytes : bits (0x80 ∷ 0x03 ∷ []) ≡ 1 ∷ 0 ∷ 0 ∷ 0 ∷ 0 ∷ 0 ∷ 0 ∷ 0 ∷ 0 ∷ 0 ∷ 0 ∷ 0 ∷ 0 ∷ 0 ∷ 1 ∷ 1 ∷ []
unfolding list_definitions tree_definitions
bits_of_two_bytes = refl

-- a place at depth 2, right of the root and then left: the sibling listed first stands left, at the
-- root
pub two_siblings : (a b v : Bytes) → value_above (1 ∷ 0 ∷ 1 ∷ []) (a ∷ b ∷ []) v ≡ sha256 (0x02 ∷ a ++ sha256 (0x02 ∷ v ++ b))
unfolding list_definitions tree_definitions
two_siblings a b v = refl

pub two_siblings_strings : (a b v : Bytes) → strings_above (1 ∷ 0 ∷ 1 ∷ []) (a ∷ b ∷ []) v ≡ (0x02 ∷ a ++ sha256 (0x02 ∷ v ++ b)) ∷ (0x02 ∷ v ++ b) ∷ []
unfolding list_definitions tree_definitions
two_siblings_strings a b v = refl

-- ---- positions asked, and what stands in a text

-- the frontier of 14 with the right paths of 4 and 8: each entry once, rising
pub asked_of_14 : frontier_and_paths 14 (4 ∷ 8 ∷ []) ≡ 5 ∷ 7 ∷ 9 ∷ 11 ∷ 13 ∷ []
unfolding list_definitions tree_definitions
asked_of_14 = refl

-- the next of them from an entry on, itself or a later one, and 14 where none is left
pub next_of_14 : map (next_from 14 (frontier_and_paths 14 (4 ∷ 8 ∷ []))) (0 ∷ 7 ∷ 8 ∷ 14 ∷ []) ≡ 5 ∷ 7 ∷ 9 ∷ 14 ∷ []
unfolding list_definitions tree_definitions
next_of_14 = refl

-- 2 ^ 32 - 2 is the last version that has a ladder within 32 bits
pub ladder_beyond : ladder_within (2 ^ 32 - 1) ≡ []
unfolding list_definitions tree_definitions
ladder_beyond = refl

-- the fields of an entry, its prefix root left out: 7 and 11, parted by a tab
abbrev fields_text : Bytes
fields_text = ascii "7" ++ tab ∷ ascii "11" ++ tab ∷ []

-- a time that reads is read; a value that does not is zeros
pub fields_in_text : entry_in fields_text ≡ record { position = 7; timestamp = 11; prefix_root = zeros }
unfolding list_definitions line_definitions tree_definitions bind
fields_in_text = refl

-- the line of an entry at a position, and one of a lookup
abbrev entry_text : Bytes → Bytes
entry_text position = ascii "entry" ++ tab ∷ position ++ tab ∷ newline ∷ []

abbrev lookup_text : Bytes
lookup_text = ascii "in" ++ tab ∷ ascii "7" ++ newline ∷ []

-- the positions 7, 11 and 13, with lookups between them
abbrev frontier_text : Bytes
frontier_text = entry_text (ascii "7") ++ lookup_text ++ lookup_text ++ entry_text (ascii "11") ++ lookup_text ++ entry_text (ascii "13") ++ lookup_text

-- they are shown, each where its line begins
pub places_in_text : entry_offsets frontier_text 0 ≡ 0 ∷ 19 ∷ 34 ∷ []
unfolding list_definitions line_definitions tree_definitions
places_in_text = refl

pub shown_in_text : map (λ (e : LogEntry). e.position) (shown_in frontier_text) ≡ 7 ∷ 11 ∷ 13 ∷ []
unfolding list_definitions line_definitions tree_definitions
shown_in_text = refl

-- nodes for the frontier of 14 at m = 0 and at m = 10; none where there is no walk: more kept than
-- there is, no entries, positions that do not rise
pub nodes_of_14 : map (λ (m : ℕ). nodes_asked 14 (known_in frontier_text m [])) (0 ∷ 10 ∷ 15 ∷ []) ≡ 6 ∷ 5 ∷ 0 ∷ []
unfolding list_definitions line_definitions tree_definitions
nodes_of_14 = refl

pub no_walk : nodes_asked 0 (known_in frontier_text 0 []) ∷ nodes_asked 14 (known_in (entry_text (ascii "11") ++ entry_text (ascii "7")) 0 []) ∷ [] ≡ 0 ∷ 0 ∷ []
unfolding list_definitions line_definitions tree_definitions
no_walk = refl
