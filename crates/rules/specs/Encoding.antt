-- The encodings of 001 that are read or hashed here (RFC 8446, 3): numbers of fixed width, byte
-- strings with their length before them.
use Rattle.std.specs.Prelude.{[], ◌∷◌, ◌++◌, ℕ, ◌+◌, ◌*◌, leb, length, take, drop}
use Rattle.std.proofs.Math.Option.{Option, some, bind as ◌>>=◌}
use Rattle.lists.specs.Choice.{provided}
use Rattle.lists.specs.Lists.{Bytes}
use Rattle.hash.specs.Bytes.{big_endian}

-- opaque s with a length of k bytes
unfoldable pub opaque : ℕ → Bytes → Bytes
opaque k s = big_endian k (length s) ++ s

-- the number that bytes encode after those of n, the highest first
unfoldable pub bytes_after : ℕ → Bytes → ℕ
bytes_after n [] = n
bytes_after n (b ∷ s) = bytes_after (n * 256 + b) s

unfoldable pub uint : Bytes → ℕ
uint s = bytes_after 0 s

-- ---- reading: what stands first, and the rest

unfoldable pub read_bytes : ℕ → Bytes → Option (Bytes × Bytes)
read_bytes k s = provided (leb k (length s)) (take k s, drop k s)

-- a number of k bytes
unfoldable pub read_uint : ℕ → Bytes → Option (ℕ × Bytes)
read_uint k s = do
  (b, rest) ← read_bytes k s
  some (uint b, rest)

unfoldable pub read_opaque : ℕ → Bytes → Option (Bytes × Bytes)
read_opaque k s = do
  (n, rest) ← read_uint k s
  read_bytes n rest
