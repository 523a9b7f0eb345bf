-- How the configuration that was read stands for that of the rules.
use Rattle.std.proofs.Math.Option.{Option, none, some, bind as ◌>>=◌}
use Rattle.std.specs.Prelude.{ℕ, drop, Some, None, Option as CodeOption}
use Rattle.lists.specs.Choice.{option_of}
use Rattle.lists.specs.Lists.{Bytes}
use Rattle.lines.specs.declared.part.Part.{Part}
use Rattle.lines.specs.Readings.{part_of}
use Rattle.rules.specs.Encoding.{read_uint, read_opaque}
use Rattle.rules.specs.Configuration.{Configuration, read_optional}
use Rattle.inputs.specs.declared.configuration.Configuration.{Configuration as ConfigurationParts}
use Rattle.inputs.specs.declared.configuration.Front.{Front}
use Rattle.inputs.specs.declared.configuration.Times.{Times}

-- its numbers, and its keys as parts of the encoded configuration
unfoldable pub configuration_in : Bytes → ConfigurationParts → Configuration
configuration_in s c =
    record {
      suite = c.suite;
      mode = c.mode;
      signature_key = part_of s c.signature;
      vrf_key = part_of s c.vrf;
      max_ahead = c.ahead;
      max_behind = c.behind;
      monitoring_window = c.window;
      maximum_lifetime = option_of c.lifetime;
    }

-- what was read; bytes that do not read are refused with 2
abbrev pub configuration_of : Bytes → CodeOption ConfigurationParts → Option Configuration
configuration_of s (Some c) = some (configuration_in s c)
configuration_of s None = none

-- ==== for contracts of private functions alone

-- ---- single fields, with what follows them

-- the bytes of a number of each width
abbrev pub uint8 : ℕ
uint8 = 1

abbrev pub uint16 : ℕ
uint16 = 2

abbrev pub uint64 : ℕ
uint64 = 8

-- a number, if there is one
abbrev pub uint_in : Bytes → CodeOption (ℕ × ℕ) → Option (ℕ × Bytes)
uint_in s (Some (n, next)) = some (n, drop next s)
uint_in s None = none

-- the offset after a number
abbrev pub after_uint : CodeOption (ℕ × ℕ) → ℕ
after_uint (Some (n, next)) = next
after_uint None = 0

-- a byte string, if there is one
abbrev pub opaque_in : Bytes → CodeOption (Part × ℕ) → Option (Bytes × Bytes)
opaque_in s (Some (k, next)) = some (part_of s k, drop next s)
opaque_in s None = none

-- an optional number, if there is one
abbrev pub optional_in : Bytes → CodeOption (CodeOption ℕ × ℕ) → Option (Option ℕ × Bytes)
optional_in s (Some (l, next)) = some (option_of l, drop next s)
optional_in s None = none

-- ---- the fields in two groups, with what follows them

-- suite, mode, signature key, VRF key
unfoldable pub read_front : Bytes → Option (ℕ × ℕ × Bytes × Bytes × Bytes)
read_front s = do
  (suite, s1) ← read_uint uint16 s
  (mode, s2) ← read_uint uint8 s1
  (signature_key, s3) ← read_opaque uint16 s2
  (vrf_key, s4) ← read_opaque uint16 s3
  some (suite, mode, signature_key, vrf_key, s4)

-- what was read of them, if it could be
abbrev pub front_in : Bytes → CodeOption Front → Option (ℕ × ℕ × Bytes × Bytes × Bytes)
front_in s (Some f) = some (f.suite, f.mode, part_of s f.signature, part_of s f.vrf, drop f.next s)
front_in s None = none

-- the time ahead and behind, the monitoring window, the maximum lifetime
unfoldable pub read_times : Bytes → Option (ℕ × ℕ × ℕ × Option ℕ × Bytes)
read_times s = do
  (max_ahead, s1) ← read_uint uint64 s
  (max_behind, s2) ← read_uint uint64 s1
  (monitoring_window, s3) ← read_uint uint64 s2
  (maximum_lifetime, s4) ← read_optional s3
  some (max_ahead, max_behind, monitoring_window, maximum_lifetime, s4)

-- what was read of them, if it could be
abbrev pub times_in : Bytes → CodeOption Times → Option (ℕ × ℕ × ℕ × Option ℕ × Bytes)
times_in s (Some t) = some (t.ahead, t.behind, t.window, option_of t.lifetime, drop t.next s)
times_in s None = none
