-- One name for all definitions of this crate: where it unfolds, they all compute. For examples that
-- are proved by computing.
use Rattle.hash.specs.Bytes.{big_endian, padded}
use Rattle.hash.specs.Words.{constants}
use Rattle.hash.specs.Block.{words, mixed, next, extended, schedule, temp1, temp2, round, rounds, added}
use Rattle.hash.specs.Block.{compressed}
use Rattle.hash.specs.Sha256.{padding, blocks, initial, digest_of, finished, sha256}
use Rattle.hash.specs.Hasher.{pending, started, taken, updated, closed}
use Rattle.hash.specs.Hmac.{key_block, xored, inner_key, outer_key, inner_string, outer_string, hmac, begun}
use Rattle.hash.specs.Hmac.{ended}

unfoldable pub hash_definitions : Unit {0}
unfolding big_endian padded constants words mixed next extended schedule temp1 temp2 round rounds added compressed padding blocks initial digest_of finished sha256 pending started taken updated closed key_block xored inner_key outer_key inner_string outer_string hmac begun ended
hash_definitions = tt
