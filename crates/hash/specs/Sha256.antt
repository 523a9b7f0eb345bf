-- SHA-256 of a message of bytes (FIPS 180-4): the padding of 5.1.1, the blocks of 5.2.1, the first
-- hash value of 5.3.3 and the digest of 6.2.2.
use Rattle.std.specs.Prelude.{ℕ, zero, suc, ◌-◌, ◌*◌, ◌/◌, ◌%◌, ◌^◌, List, ◌∷◌, ◌++◌, length, take, drop, replicate}
use Rattle.hash.specs.declared.block.HashValue.{HashValue}
use Rattle.hash.specs.Bytes.{big_endian}
use Rattle.hash.specs.Block.{compressed}

-- 5.1.1: what follows a message of l bytes: a bit 1, then zeros up to 8 bytes before a block's end,
-- then the number of its bits in 8 bytes. The standard has messages of fewer than 2 ^ 64 bits; of
-- longer ones the number is taken modulo 2 ^ 64.
unfoldable pub padding : ℕ → List ℕ
padding l = 128 ∷ replicate ((119 - l % 64) % 64) 0 ++ big_endian 8 (l * 2 ^ 3 % 2 ^ 64)

-- 5.2.1, 6.2.2: the hash value after the first n blocks of s, from the value v
unfoldable pub blocks : ℕ → HashValue → List ℕ → HashValue
blocks zero v s = v
blocks (suc n) v s = compressed (blocks n v s) (take 64 (drop (64 * n) s))

-- 5.3.3: H^(0)
unfoldable pub initial : HashValue
initial =
    record {
      a = 0x6a09e667;
      b = 0xbb67ae85;
      c = 0x3c6ef372;
      d = 0xa54ff53a;
      e = 0x510e527f;
      f = 0x9b05688c;
      g = 0x1f83d9ab;
      h = 0x5be0cd19;
    }

-- 6.2.2: a digest has 8 words, 32 bytes
abbrev pub digest_length : ℕ
digest_length = 32

-- 6.2.2: the digest is the last hash value, its words one after the other
unfoldable pub digest_of : HashValue → List ℕ
digest_of v =
    big_endian 4 v.a ++ big_endian 4 v.b ++ big_endian 4 v.c ++ big_endian 4 v.d ++ big_endian 4 v.e
    ++ big_endian 4 v.f ++ big_endian 4 v.g ++ big_endian 4 v.h

-- the digest of a message of l bytes whose last ones are s, from the hash value v of the blocks
-- before s
unfoldable pub finished : HashValue → ℕ → List ℕ → List ℕ
finished v l s = digest_of (blocks (length (s ++ padding l) / 64) v (s ++ padding l))

unfoldable pub sha256 : List ℕ → List ℕ
sha256 m = finished initial (length m) m
