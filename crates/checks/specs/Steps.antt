-- What is known of the steps of a response, from where their commitments stand: for contracts of
-- private functions alone.
use Rattle.std.specs.Prelude.{◌≡◌, ◌⊎◌, Bool, true, false, ◌&&◌, ℕ, ltb, get_or, set, drop, Some, None, Option as CodeOption}
use mathlib.Core.List.{List, [], map, Memᴰ}
use Rattle.std.proofs.Math.Option.{some}
use Rattle.lists.specs.Lists.{Bytes, all, same}
use Rattle.tree.specs.Ladder.{ladder}
use Rattle.rules.specs.VrfOutputs.{VrfOutput, read_outputs, has_output}
use Rattle.rules.specs.Response.{Step}
use Rattle.rules.specs.Refusals.{commitment_asked}
use Rattle.inputs.specs.VrfOutputs.{records_below}
use Rattle.inputs.specs.Response.{steps_in}
use Rattle.checks.specs.declared.sections.NextStep.{NextStep}
use Rattle.checks.specs.Sections.{CommitmentAt, IsNextStep, has_commitment, noted_of}
use Rattle.checks.specs.MonitoredVersions.{counted}

abbrev pub versions_of : List Step → List ℕ
versions_of xs = map (λ (x : Step). x.version) xs

-- ---- the table of commitments

-- records of outputs
abbrev pub records_capacity : ℕ
records_capacity = 1024

-- the commitments of steps stand at the offsets with the numbers of their versions' records
abbrev pub CommitmentsBy : Bytes → List VrfOutput → List ℕ → List Step → Type 0
CommitmentsBy s outputs offsets steps =
    (x : Step) → Memᴰ x steps
    → CommitmentAt s (get_or offsets (records_below outputs x.version) 0) x.commitment

-- whether there is an output of a version; if so its offset in the table becomes the one given
abbrev pub IsNoted : Bytes → ℕ → ℕ → List ℕ → Bool → List ℕ → Type 0
IsNoted outputs v offset offsets r offsets' =
    (xs : List VrfOutput) → read_outputs outputs ≡ some xs
    → (r ≡ has_output xs v) × (r ≡ true → offsets' ≡ set offsets (records_below xs v) offset)
    × (r ≡ false → offsets' ≡ offsets)

-- ---- one step

-- none stands at an offset, or one that is not of a version wanted or has a commitment other than
-- wanted; or it is of that version, its commitment is noted, and the next step stands at an offset
abbrev pub IsWantedStep : Bytes → ℕ → ℕ → Bool → Bytes → List ℕ → CodeOption (Bool × ℕ) → List ℕ → Type 0
IsWantedStep s at v committed outputs offsets None offsets' =
    (steps_in (drop at s) ≡ [])
    ⊎ ((n : NextStep) × IsNextStep s at (Some n) × (n.version ≡ v → has_commitment n ≡ committed → ⊥))
IsWantedStep s at v committed outputs offsets (Some (there, next)) offsets' =
    (n : NextStep) × IsNextStep s at (Some n) × (n.version ≡ v) × (has_commitment n ≡ committed) × (n.next ≡ next)
    × IsNoted outputs v (noted_of n) offsets there offsets'

-- ---- whether the steps are as asked

-- the ladder of t, with commitments of the versions below t
abbrev pub are_search_steps : Bytes → ℕ → Bool
are_search_steps s t =
    same (versions_of (steps_in s)) (ladder t) && all (commitment_asked (λ (v : ℕ). ltb v t)) (steps_in s)

-- the versions looked up for the pairs that count, with commitments
abbrev pub are_monitoring_steps : Bytes → List ℕ → List ℕ → Bool
are_monitoring_steps s marks vs =
    same (versions_of (steps_in s)) (counted marks vs) && all (commitment_asked (λ (v : ℕ). true)) (steps_in s)

-- it is known whether outputs have all versions of some steps, and where they have, the commitments
-- stand at the offsets of the table
abbrev pub ArePlaced : Bytes → Bytes → List ℕ → Bool → List Step → Type 0
ArePlaced s outputs offsets there steps =
    (xs : List VrfOutput) → read_outputs outputs ≡ some xs
    → (there ≡ all (has_output xs) (versions_of steps)) × (there ≡ true → CommitmentsBy s xs offsets steps)

-- the steps are not as asked; or they are, and whether outputs have all versions
abbrev pub AreSteps : Bytes → Bytes → Bool → CodeOption Bool → List ℕ → Type 0
AreSteps s outputs asked None offsets = asked ≡ false
AreSteps s outputs asked (Some there) offsets = (asked ≡ true) × ArePlaced s outputs offsets there (steps_in s)
