-- SHA-256 of a message that comes in parts: what a Hasher is after each part. Laws in
-- proofs/HasherLaws.antt say that its digest is then that of the whole message.
use Rattle.std.specs.Prelude.{ℕ, ◌+◌, ◌*◌, ◌/◌, ◌%◌, ◌^◌, List, ◌++◌, length, take, drop, replicate}
use Rattle.hash.specs.declared.block.HashValue.{HashValue}
use Rattle.hash.specs.declared.hasher.Hasher.{Hasher}
use Rattle.hash.specs.Bytes.{padded}
use Rattle.hash.specs.Sha256.{initial, blocks, finished}

-- the bytes that have come since the last whole block
unfoldable pub pending : Hasher → List ℕ
pending h = take (h.count % 64) h.block

-- nothing has come
unfoldable pub started : Hasher
started = record { value = initial; block = replicate 64 0; count = 0 }

-- what is left after s, the last bytes of a message of l bytes, from the hash value v of the blocks
-- before s
unfoldable pub taken : HashValue → List ℕ → ℕ → Hasher
taken v s l =
    record {
      value = blocks (length s / 64) v s;
      block = padded 64 (drop (64 * (length s / 64)) s);
      count = l % 2 ^ 64;
    }

-- the part s has come
unfoldable pub updated : Hasher → List ℕ → Hasher
updated h s = taken h.value (pending h ++ s) (h.count + length s)

-- the digest of all that has come
unfoldable pub closed : Hasher → List ℕ
closed h = finished h.value h.count (pending h)
