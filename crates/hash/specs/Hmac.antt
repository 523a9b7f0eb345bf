-- HMAC (RFC 2104, 2) with SHA-256, whose blocks have 64 bytes.
use Rattle.std.specs.Prelude.{ℕ, cond, List, ◌++◌, map, length, bit_xor, nat_le}
use Rattle.hash.specs.declared.hasher.Hasher.{Hasher}
use Rattle.hash.specs.Bytes.{padded}
use Rattle.hash.specs.Sha256.{sha256}
use Rattle.hash.specs.Hasher.{started, updated, closed}

-- the key K as a block: itself, or its digest where it is longer than a block, and zeros after it
unfoldable pub key_block : List ℕ → List ℕ
key_block k = padded 64 (cond (nat_le (length k) 64) k (sha256 k))

-- a block, each byte XOR the byte x
unfoldable pub xored : ℕ → List ℕ → List ℕ
xored x s = map (λ b. bit_xor b x) s

-- K XOR ipad
unfoldable pub inner_key : List ℕ → List ℕ
inner_key k = xored 0x36 (key_block k)

-- K XOR opad
unfoldable pub outer_key : List ℕ → List ℕ
outer_key k = xored 0x5c (key_block k)

-- the two strings that are hashed
unfoldable pub inner_string : List ℕ → List ℕ → List ℕ
inner_string k m = inner_key k ++ m

unfoldable pub outer_string : List ℕ → List ℕ → List ℕ
outer_string k m = outer_key k ++ sha256 (inner_string k m)

-- H(K XOR opad, H(K XOR ipad, text))
unfoldable pub hmac : List ℕ → List ℕ → List ℕ
hmac k m = sha256 (outer_string k m)

-- the same of a text that comes in parts: a Hasher that has taken K XOR ipad, and the code from one
-- that has then taken the text
unfoldable pub begun : List ℕ → Hasher
begun k = updated started (inner_key k)

unfoldable pub ended : List ℕ → Hasher → List ℕ
ended k h = sha256 (outer_key k ++ closed h)
