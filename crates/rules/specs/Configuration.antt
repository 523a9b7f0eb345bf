-- The Configuration of a log (001, 10.2), which paper 01 calls the settings, for contact
-- monitoring; and TreeHeadTBS.
use Rattle.std.specs.Prelude.{[], ◌∷◌, ◌++◌, ℕ, zero, suc, eqb}
use Rattle.std.proofs.Math.Option.{Option, none, some, bind as ◌>>=◌}
use Rattle.lists.specs.Choice.{◌>>◌}
use Rattle.lists.specs.Lists.{Bytes, same}
use Rattle.hash.specs.Bytes.{big_endian}
use Rattle.rules.specs.Encoding.{opaque, read_uint, read_opaque}

pub record Configuration : Type 0 where
  pub suite : ℕ
  pub mode : ℕ
  pub signature_key : Bytes
  pub vrf_key : Bytes
  pub max_ahead : ℕ
  pub max_behind : ℕ
  pub monitoring_window : ℕ
  pub maximum_lifetime : Option ℕ

-- 001, 15.1: KT_128_SHA256_P256
abbrev pub p256_suite : ℕ
p256_suite = 0x0001

-- 001, 10.2: the deployment mode
abbrev pub contact_monitoring : ℕ
contact_monitoring = 1

-- ---- reading

-- optional<uint64>: a byte 0, or a byte 1 and the number
unfoldable pub read_present : ℕ → Bytes → Option (Option ℕ × Bytes)
read_present zero s = some (none, s)
read_present (suc zero) s = do
  (n, rest) ← read_uint 8 s
  some (some n, rest)
read_present (suc (suc k)) s = none

unfoldable pub read_optional : Bytes → Option (Option ℕ × Bytes)
read_optional s = do
  (present, rest) ← read_uint 1 s
  read_present present rest

-- the fields in order and nothing after them; another suite or mode is not taken. In this mode
-- there is no leaf_public_key.
unfoldable pub read_configuration : Bytes → Option Configuration
read_configuration s = do
  (suite, s1) ← read_uint 2 s
  (mode, s2) ← read_uint 1 s1
  (signature_key, s3) ← read_opaque 2 s2
  (vrf_key, s4) ← read_opaque 2 s3
  (max_ahead, s5) ← read_uint 8 s4
  (max_behind, s6) ← read_uint 8 s5
  (monitoring_window, s7) ← read_uint 8 s6
  (maximum_lifetime, s8) ← read_optional s7
  same s8 []
  eqb suite p256_suite
  eqb mode contact_monitoring
  some (record {
    suite = suite;
    mode = mode;
    signature_key = signature_key;
    vrf_key = vrf_key;
    max_ahead = max_ahead;
    max_behind = max_behind;
    monitoring_window = monitoring_window;
    maximum_lifetime = maximum_lifetime;
  })

-- ---- writing

unfoldable pub write_optional : Option ℕ → Bytes
write_optional none = 0 ∷ []
write_optional (some n) = 1 ∷ big_endian 8 n

unfoldable pub write_configuration : Configuration → Bytes
write_configuration c =
    big_endian 2 c.suite ++ big_endian 1 c.mode ++ opaque 2 c.signature_key ++ opaque 2 c.vrf_key
    ++ big_endian 8 c.max_ahead ++ big_endian 8 c.max_behind ++ big_endian 8 c.monitoring_window
    ++ write_optional c.maximum_lifetime

-- TreeHeadTBS: the configuration as given, the size, the root
unfoldable pub tree_head : Bytes → ℕ → Bytes → Bytes
tree_head configuration size root = configuration ++ big_endian 8 size ++ root
