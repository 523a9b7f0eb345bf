-- What the functions that C programs call answer, and what they leave in the bytes lent to them.
use Rattle.std.specs.Prelude.{cond, ℕ, leb, length, drop, Some, None, Option as CodeOption}
use mathlib.Core.List.{List, ◌++◌, flat_map}
use Rattle.hash.specs.Bytes.{big_endian}
use Rattle.hash.specs.Sha256.{digest_length, sha256}
use Rattle.tree.specs.Ladder.{ladder_within}
use Rattle.checks.specs.declared.call.Found.{Found}

-- kt_sha256, lent the bytes d: the digest's length, or 0 where it does not fit
unfoldable pub sha256_answer : List ℕ → ℕ
sha256_answer d = cond (leb digest_length (length d)) digest_length 0

-- the bytes d after kt_sha256 of a message: the digest and the bytes after it as they were, or all
-- as they were
unfoldable pub sha256_output : List ℕ → List ℕ → List ℕ
sha256_output message d = cond (leb digest_length (length d)) (sha256 message ++ drop digest_length d) d

-- the bytes of a version
abbrev pub version_length : ℕ
version_length = 4

-- the ladder of a version, within 32 bits, as bytes
unfoldable pub ladder_bytes : ℕ → List ℕ
ladder_bytes version = flat_map (big_endian version_length) (ladder_within version)

-- kt_ladder of a version, lent the bytes d: how many versions the ladder has, or 0 where they do
-- not fit
unfoldable pub ladder_answer : ℕ → List ℕ → ℕ
ladder_answer version d =
    cond (leb (length (ladder_bytes version)) (length d)) (length (ladder_within version)) 0

-- the bytes d after kt_ladder of a version: the versions and the bytes after them as they were, or
-- all as they were
unfoldable pub ladder_output : ℕ → List ℕ → List ℕ
ladder_output version d =
    cond (leb (length (ladder_bytes version)) (length d))
    (ladder_bytes version ++ drop (length (ladder_bytes version)) d) d

-- ==== for contracts of private functions alone

-- how many bytes the value that was found fills; 0 where none was
abbrev pub length_found : CodeOption Found → ℕ
length_found None = 0
length_found (Some f) = f.length
