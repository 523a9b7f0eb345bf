-- The prefix tree (paper 01, Trees; 001, 10.9 and 11.2): the strings of its leaves and parents, and
-- what a lookup shows.
use Rattle.std.specs.Prelude.{Bool, true, ◌&&◌, not, List, [], ◌∷◌, ◌++◌, ℕ, zero, suc, ◌/◌, ◌%◌, take}
use Rattle.lists.specs.Lists.{Bytes, same}
use Rattle.hash.specs.Sha256.{sha256}
use Rattle.tree.specs.LogTree.{zeros}

-- ---- what is hashed

unfoldable pub prefix_leaf_string : Bytes → Bytes → Bytes
prefix_leaf_string vrf_output commitment = 0x01 ∷ vrf_output ++ commitment

unfoldable pub prefix_parent_string : Bytes → Bytes → Bytes
prefix_parent_string left right = 0x02 ∷ left ++ right

-- ---- lookups

-- the n low bits of x, the highest first
unfoldable pub low_bits : ℕ → ℕ → List ℕ
low_bits zero x = []
low_bits (suc n) x = low_bits n (x / 2) ++ x % 2 ∷ []

-- the bits that lead down to a VRF output's place, each byte's high bit first
unfoldable pub bits : Bytes → List ℕ
bits [] = []
bits (b ∷ bs) = low_bits 8 b ++ bits bs

-- what stands at the place a lookup ends in: the leaf of the output looked up, with its commitment;
-- nothing; or another leaf
pub data Terminal : Type 0 where
  searched_leaf : Bytes → Terminal
  empty_place : Terminal
  foreign_leaf : Bytes → Bytes → Terminal

-- the string hashed for it, if any, and its value
unfoldable pub terminal_strings : Bytes → Terminal → List Bytes
terminal_strings output (searched_leaf commitment) = prefix_leaf_string output commitment ∷ []
terminal_strings output empty_place = []
terminal_strings output (foreign_leaf other commitment) = prefix_leaf_string other commitment ∷ []

unfoldable pub terminal_value : Bytes → Terminal → Bytes
terminal_value output (searched_leaf commitment) = sha256 (prefix_leaf_string output commitment)
terminal_value output empty_place = zeros
terminal_value output (foreign_leaf other commitment) = sha256 (prefix_leaf_string other commitment)

-- the parent of a value and its sibling: a bit 0 leads left, 1 right
unfoldable pub parent_over : ℕ → Bytes → Bytes → Bytes
parent_over zero v sibling = prefix_parent_string v sibling
parent_over (suc b) v sibling = prefix_parent_string sibling v

-- the value of a subtree from that of a place in it: the bits lead down to the place, the siblings
-- stand along them, the topmost first
unfoldable pub value_above : List ℕ → List Bytes → Bytes → Bytes
value_above [] ss v = v
value_above (b ∷ bs) [] v = v
value_above (b ∷ bs) (s ∷ ss) v = sha256 (parent_over b (value_above bs ss v) s)

-- the strings hashed on the way up
unfoldable pub strings_above : List ℕ → List Bytes → Bytes → List Bytes
strings_above [] ss v = []
strings_above (b ∷ bs) [] v = []
strings_above (b ∷ bs) (s ∷ ss) v = parent_over b (value_above bs ss v) s ∷ strings_above bs ss v

-- the root that a lookup leads to
unfoldable pub lookup_root : Bytes → Terminal → List Bytes → Bytes
lookup_root output t siblings = value_above (bits output) siblings (terminal_value output t)

unfoldable pub lookup_strings : Bytes → Terminal → List Bytes → List Bytes
lookup_strings output t siblings =
    terminal_strings output t ++ strings_above (bits output) siblings (terminal_value output t)

-- another leaf is another, and stands where the lookup leads: the two outputs share their first
-- bits, as many as the depth
unfoldable pub terminal_fits : Bytes → Terminal → ℕ → Bool
terminal_fits output (searched_leaf commitment) depth = true
terminal_fits output empty_place depth = true
terminal_fits output (foreign_leaf other commitment) depth =
    not (same output other) && same (take depth (bits output)) (take depth (bits other))
