-- What breaks SHA-256 (paper 01, What the contracts owe): among the strings of a list, two
-- different ones with one value, or one whose value stands for an empty place. The strings are byte
-- strings: of lists with larger numbers SHA-256's definition has easy collisions.
use Rattle.std.specs.Prelude.{◌≡◌, ◌⊎◌}
use mathlib.Core.List.{List, Memᴰ}
use Rattle.lists.specs.Lists.{Bytes}
use Rattle.hash.specs.Bytes.{AreBytes}
use Rattle.hash.specs.Sha256.{sha256}
use Rattle.tree.specs.LogTree.{zeros}

-- two different byte strings of a list with one SHA-256 value
pub record Collision (strings : List Bytes) : Type 0 where
  pub x : Bytes
  pub y : Bytes
  pub x-listed : Memᴰ x strings
  pub y-listed : Memᴰ y strings
  pub x-bytes : AreBytes x
  pub y-bytes : AreBytes y
  pub different : x ≡ y → ⊥
  pub equal : sha256 x ≡ sha256 y

-- a byte string of a list whose SHA-256 value is 32 zero bytes
pub record ZeroDigest (strings : List Bytes) : Type 0 where
  pub x : Bytes
  pub x-listed : Memᴰ x strings
  pub x-bytes : AreBytes x
  pub zero-digest : sha256 x ≡ zeros

abbrev pub Broken : List Bytes → Type 0
Broken strings = Collision strings ⊎ ZeroDigest strings
