-- The VRF outputs that the chip approved, which paper 01 calls the sheet (What a call is given):
-- records of a version in 4 bytes and its output, versions rising.
use Rattle.std.specs.Prelude.{Bool, ◌&&◌, List, [], map, ℕ, ◌+◌, ◌/◌, ◌%◌, eqb, length, take, drop}
use Rattle.std.proofs.Math.Option.{Option, Option-elim}
use Rattle.lists.specs.Choice.{provided}
use Rattle.lists.specs.Lists.{Bytes, any, first, rising, runs}
use Rattle.rules.specs.Limits.{vrf_output_length}
use Rattle.rules.specs.Encoding.{uint}

pub record VrfOutput : Type 0 where
  pub version : ℕ
  pub output : Bytes

abbrev pub record_length : ℕ
record_length = 4 + vrf_output_length

unfoldable pub read_record : Bytes → VrfOutput
read_record s = record { version = uint (take 4 s); output = drop 4 s }

unfoldable pub read_records : Bytes → List VrfOutput
read_records s = map read_record (runs (length s / record_length) record_length s)

-- whole records, versions strictly rising
unfoldable pub read_outputs : Bytes → Option (List VrfOutput)
read_outputs s =
    provided (eqb (length s % record_length) 0
    && rising (map (λ (x : VrfOutput). x.version) (read_records s))) (read_records s)

unfoldable pub has_output : List VrfOutput → ℕ → Bool
has_output outputs v = any (λ (x : VrfOutput). eqb x.version v) outputs

-- the output of a version; the empty string where there is none
unfoldable pub output_of : List VrfOutput → ℕ → Bytes
output_of outputs v = Option-elim (first (λ (x : VrfOutput). eqb x.version v) outputs) [] (λ x. x.output)
