-- Laws of HMAC (specs/Hmac.antt).
use Rattle.std.proofs.Common.{◌≡◌, ℕ, ◌-◌, ◌<◌, ◌≤◌, Bool, true, false, cond, leb, List, [], ◌∷◌, ◌++◌, length, replicate, append-nil, arith, le-leb}
use borrow.Author.Tests.{lt-leb}
use lib.Bits.{xor_lt}
use Rattle.hash.specs.declared.hasher.Hasher.{Hasher}
use Rattle.hash.specs.Bytes.{AreBytes, padded}
use Rattle.hash.specs.Sha256.{sha256}
use Rattle.hash.specs.Hasher.{started, updated, closed}
use Rattle.hash.specs.Hmac.{key_block, xored, inner_key, outer_key, inner_string, outer_string, hmac, begun}
use Rattle.hash.specs.Hmac.{ended}
use Rattle.hash.proofs.BytesLaws.{bytes_append, bytes_zeros}
use Rattle.hash.proofs.MessageLaws.{length_digest, bytes_digest}
use Rattle.hash.proofs.HasherLaws.{updated_append, closed_updated}

-- ---- the key's block

pub key_short : (k b : List ℕ) → length k ≤ 64 → b ≡ padded 64 (k ++ []) → b ≡ key_block k
unfolding key_block
key_short k b h e = rw (le-leb (length k) 64 h) (rw (append-nil k) at e)

pub key_long : (k d b : List ℕ) → 64 < length k → d ≡ sha256 k → b ≡ padded 64 (d ++ []) → b ≡ key_block k
unfolding key_block
key_long k d b h hd e = rw (lt-leb (length k) 64 h, ← hd) (rw (append-nil d) at e)

-- ---- a text that comes in parts

-- the code, from a hasher that has taken the text: the outer key and the inner digest are hashed as
-- two parts
pub ended_law : (k : List ℕ) (h n u w : Hasher) (o i r : List ℕ) → n ≡ started → o ≡ xored 0x5c (key_block k) → i ≡ closed h
    → u ≡ updated n o → w ≡ updated u i → r ≡ closed w → r ≡ ended k h
unfolding ended outer_key
ended_law k h n u w o i r hn ho hi hu hw hr =
    rw (hr, hw, hu, hn, updated_append o i, closed_updated (o ++ i), ho, hi)

-- the text's code, taken at once or in parts
pub hmac_parts : (k m : List ℕ) → ended k (updated (begun k) m) ≡ hmac k m
unfolding ended begun hmac outer_string inner_string
hmac_parts k m = rw (updated_append (inner_key k) m, closed_updated (inner_key k ++ m))

-- ---- the code

pub length_hmac : (k m : List ℕ) → length (hmac k m) ≡ 32
unfolding hmac
length_hmac k m = length_digest (outer_string k m)

pub bytes_hmac : (k m : List ℕ) → AreBytes (hmac k m)
unfolding hmac
bytes_hmac k m = bytes_digest (outer_string k m)

-- ---- the two strings that are hashed are byte strings

-- a block of bytes whose bits are flipped is one of bytes
bytes_xored : (x : ℕ) (s : List ℕ) → x < 256 → AreBytes s → AreBytes (xored x s)
unfolding xored
bytes_xored x [] h b = tt
bytes_xored x (y ∷ s) h b = (xor_lt 8 y x b.0 h, bytes_xored x s h b.1)

-- so is the key's
bytes_key : (k : List ℕ) → AreBytes k → AreBytes (key_block k)
unfolding key_block padded
bytes_key k h = go (leb (length k) 64)
  where
    go : (t : Bool) → AreBytes (padded 64 (cond t k (sha256 k)))
    go true = bytes_append k (replicate (64 - length k) 0) h (bytes_zeros (64 - length k))
    go false = bytes_append (sha256 k) (replicate (64 - length (sha256 k)) 0) (bytes_digest k) (bytes_zeros (64 - length (sha256 k)))

pub bytes_inner : (k m : List ℕ) → AreBytes k → AreBytes m → AreBytes (inner_string k m)
unfolding inner_string inner_key
bytes_inner k m h b = bytes_append (inner_key k) m (bytes_xored 0x36 (key_block k) (omega arith) (bytes_key k h)) b

pub bytes_outer : (k m : List ℕ) → AreBytes k → AreBytes (outer_string k m)
unfolding outer_string outer_key
bytes_outer k m h =
    bytes_append (outer_key k) (sha256 (inner_string k m)) (bytes_xored 0x5c (key_block k) (omega arith) (bytes_key k h)) (bytes_digest (inner_string k m))
