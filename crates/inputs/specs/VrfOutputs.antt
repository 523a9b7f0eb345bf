-- What is found in the VRF outputs, from the list of the rules.
use Rattle.std.specs.Prelude.{◌≡◌, ◌⊎◌, List, ℕ, ◌*◌, ◌/◌, ◌<◌, eqb, ltb, length, take, drop, Some, None, Option as CodeOption}
use Rattle.std.proofs.Math.Option.{Option, none, some}
use Rattle.lists.specs.Lists.{Bytes, select, first}
use Rattle.rules.specs.VrfOutputs.{VrfOutput, record_length, read_record, read_outputs}
use Rattle.inputs.specs.declared.vrf_outputs.FoundOutput.{FoundOutput}

-- the output of a record with its number, if there is one
unfoldable pub found_output : ℕ → Option VrfOutput → CodeOption FoundOutput
found_output i none = None
found_output i (some x) = Some (record { index = i; output = x.output })

-- the record of a version, and how many stand before it
unfoldable pub record_of : List VrfOutput → ℕ → Option VrfOutput
record_of outputs v = first (λ (x : VrfOutput). eqb x.version v) outputs

unfoldable pub records_below : List VrfOutput → ℕ → ℕ
records_below outputs v = length (select (λ (x : VrfOutput). ltb x.version v) outputs)

-- of outputs that read, what is found is the record of the version
abbrev pub IsRecordOf : Bytes → ℕ → CodeOption FoundOutput → Type 0
IsRecordOf s v r =
    (xs : List VrfOutput) → read_outputs s ≡ some xs → r ≡ found_output (records_below xs v) (record_of xs v)

-- the record with a number, counted from 0
unfoldable pub record_at : Bytes → ℕ → VrfOutput
record_at s i = read_record (take record_length (drop (record_length * i) s))

-- of any bytes, it is some record of the version, or none
abbrev pub IsOfSomeRecord : Bytes → ℕ → CodeOption FoundOutput → Type 0
IsOfSomeRecord s v r =
    (r ≡ found_output 0 none)
    ⊎ ((i : ℕ) × (i < length s / record_length) × ((record_at s i).version ≡ v)
    × (r ≡ found_output i (some (record_at s i))))
