-- What stands at the place a lookup ends in, as the code holds it.
use Rattle.std.specs.Prelude.{ℕ, ◌*◌}
use Rattle.hash.specs.Sha256.{digest_length}
use Rattle.tree.specs.declared.prefix_tree.Terminal.{Terminal as Held}
use Rattle.tree.specs.declared.prefix_tree.Terminal.TheVariants.{SearchedLeaf, Empty, OtherLeaf}
use Rattle.tree.specs.PrefixTree.{Terminal, searched_leaf, empty_place, foreign_leaf}

-- the bits of a VRF output, of as many bytes as a digest
abbrev pub output_bits : ℕ
output_bits = 8 * digest_length

unfoldable pub terminal_of : Held → Terminal
terminal_of (SearchedLeaf commitment) = searched_leaf commitment
terminal_of Empty = empty_place
terminal_of (OtherLeaf output commitment) = foreign_leaf output commitment
