-- Laws of the steps of a search (specs/Steps.antt): the versions of the ladder, one by one.
use mathlib.Core.Path.{◌≡◌, sym, subst}
use mathlib.Core.Bool.{Bool, true, ◌&&◌}
use mathlib.Core.List.{List}
use Prim.Native.Nat.{ℕ, ◌+◌, ◌≤◌, ◌<◌}
use lib.Dec.{eqb, ltb}
use lib.ListN.{length, get_or, drop}
use Rattle.std.specs.Prelude.{Some, None, Option as CodeOption}
use Rattle.std.specs.Bool.{then_some}
use Rattle.lists.specs.Lists.{Bytes}
use Rattle.lines.proofs.OffsetLaws.{at_cons, at_end}
use Rattle.tree.specs.Ladder.{ladder}
use Rattle.tree.proofs.LadderLaws.{ladder_distinct}
use Rattle.rules.specs.Limits.{vrf_outputs_limit}
use Rattle.checks.specs.Sections.{StepLines}
use Rattle.checks.specs.Steps.{records_capacity, IsWantedStep}
use Rattle.checks.proofs.StepLaws.{StepsRead, Answered, read_start, read_all, read_refused, read_taken}

-- the steps of as many versions of the ladder have been read
abbrev pub LadderRead : Bytes → Bytes → ℕ → List ℕ → List ℕ → ℕ → ℕ → Bool → Type 0
LadderRead s outputs t wanted offsets at i there =
    StepsRead s outputs (ladder t) (λ (v : ℕ). ltb v t) (drop i wanted) offsets at there

-- what is answered of them
abbrev pub LadderAnswered : Bytes → Bytes → ℕ → CodeOption Bool → List ℕ → Type 0
LadderAnswered s outputs t r offsets = Answered s outputs (ladder t) (λ (v : ℕ). ltb v t) r offsets

-- at first none
pub ladder_start : (s outputs : Bytes) (t : ℕ) (wanted offsets : List ℕ) → wanted ≡ ladder t
    → length offsets ≡ records_capacity → StepLines s → LadderRead s outputs t wanted offsets 0 0 true
ladder_start s outputs t wanted offsets e l h =
    subst (λ (left : List ℕ). StepsRead s outputs (ladder t) (λ (v : ℕ). ltb v t) left offsets 0 true) (sym e)
    (read_start s outputs (ladder t) (λ (v : ℕ). ltb v t) offsets l h)

module _ {s outputs : Bytes} (t : ℕ) (wanted : List ℕ) {offsets : List ℕ} {at : ℕ} (i : ℕ) {there : Bool}
    (r : LadderRead s outputs t wanted offsets at i there) where
  module _ (h : i < length wanted) (offsets' : List ℕ) where
    -- where the next step is not the next version's, they are not as asked
    pub ladder-other : IsWantedStep s at (get_or wanted i 0) (ltb (get_or wanted i 0) t) outputs offsets None offsets'
        → LadderAnswered s outputs t None offsets'
    ladder-other k = read_refused r (at_cons wanted i h) offsets' k

    -- otherwise it is one of those read
    pub ladder-next : length outputs ≤ vrf_outputs_limit → {b : Bool} {next : ℕ}
        → IsWantedStep s at (get_or wanted i 0) (ltb (get_or wanted i 0) t) outputs offsets (Some (b, next)) offsets'
        → length offsets' ≡ records_capacity → LadderRead s outputs t wanted offsets' next (i + 1) (there && b)
    ladder-next l k z = read_taken r (at_cons wanted i h) (ladder_distinct t) l k z

  -- after the last version they are as asked where no step is left
  pub ladder-end : length wanted ≤ i → at ≤ length s
      → LadderAnswered s outputs t (then_some (eqb at (length s)) there) offsets
  ladder-end h b = read_all r (at_end wanted i h) b
