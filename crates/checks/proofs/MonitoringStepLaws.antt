-- Laws of the steps of monitoring (specs/Steps.antt): the versions looked up for pairs, one by one.
use mathlib.Core.Path.{◌≡◌, sym, ◌∙◌, ap, subst}
use mathlib.Core.Bool.{Bool, true, ◌&&◌}
use mathlib.Core.List.{List, [], ◌∷◌}
use Prim.Native.Nat.{ℕ, ◌+◌, ◌≤◌, ◌<◌}
use native.Mathlib.Omega.{arith}
use lib.Dec.{eqb}
use lib.ListN.{length}
use Rattle.std.specs.Prelude.{Some, None, Option as CodeOption}
use Rattle.std.specs.Bool.{then_some}
use Rattle.lists.specs.Lists.{Bytes}
use Rattle.tree.specs.SearchTree.{next_from}
use Rattle.tree.proofs.NextLaws.{listed_from, from_all, from_none, next_above, from_next}
use Rattle.rules.specs.Limits.{vrf_outputs_limit, version_bound}
use Rattle.checks.specs.Sections.{StepLines}
use Rattle.checks.specs.Steps.{records_capacity, IsWantedStep}
use Rattle.checks.specs.MonitoredVersions.{counted, smallest, stepped_on, AreMarks}
use Rattle.checks.proofs.MarkLaws.{counted_rising}
use Rattle.checks.proofs.NextVersionLaws.{smallest_bound, nexts, nexts_length, nexts_start, nexts_on}
use Rattle.checks.proofs.NextVersionLaws.{next_counted, counted_within}
use Rattle.checks.proofs.StepLaws.{rising_distinct, StepsRead, Answered, read_start, read_all}
use Rattle.checks.proofs.StepLaws.{read_refused, read_taken}

-- ---- the steps

-- the steps up to an offset have been read: those of the versions looked up from one on are left,
-- and the next version of each pair is its first from there on
pub record Stepping (s outputs : Bytes) (ms vs next offsets : List ℕ) (at : ℕ) (there : Bool) : Type 0 where
  pub from : ℕ
  pub read : StepsRead s outputs (counted ms vs) (λ (v : ℕ). true) (listed_from from (counted ms vs)) offsets at there
  pub pairs : next ≡ nexts ms vs from

-- what is answered of them
abbrev SteppingAnswered : Bytes → Bytes → List ℕ → List ℕ → CodeOption Bool → List ℕ → Type 0
SteppingAnswered s outputs ms vs r offsets = Answered s outputs (counted ms vs) (λ (v : ℕ). true) r offsets

-- at first none
pub stepping_start : (s outputs : Bytes) (ms vs offsets : List ℕ) → AreMarks ms vs
    → length offsets ≡ records_capacity → StepLines s → Stepping s outputs ms vs ms offsets 0 true
stepping_start s outputs ms vs offsets a l h = record {
  from = 0;
  read =
      subst (λ (left : List ℕ). StepsRead s outputs (counted ms vs) (λ (v : ℕ). true) left offsets 0 true)
      (sym (from_all 0 (counted ms vs) (λ y m. omega arith)))
      (read_start s outputs (counted ms vs) (λ (v : ℕ). true) offsets l h);
  pairs = nexts_start ms vs a.alike a.marks;
}

module _ {s outputs : Bytes} {ms vs next offsets : List ℕ} {at : ℕ} {there : Bool} (a : AreMarks ms vs)
    (r : Stepping s outputs ms vs next offsets at there) where
  -- there are as many next versions as pairs
  pub pairs-length : length next ≡ length vs
  pairs-length = ap length r.pairs ∙ nexts_length ms vs r.from a.alike

  module _ {w : ℕ} (e : w ≡ smallest next) where
    -- the smallest next version is the next of all versions looked up
    wanted : w ≡ next_from version_bound (counted ms vs) r.from
    wanted = e ∙ ap smallest r.pairs ∙ next_counted ms vs r.from a.versions

    -- where it is the bound, none is left
    wanted-none : w ≡ version_bound → listed_from r.from (counted ms vs) ≡ []
    wanted-none b =
        from_none version_bound r.from (counted ms vs) (counted_within ms vs a.versions) (omega (arith, wanted))

    -- else it is below the bound
    pub wanted-below : (w ≡ version_bound → ⊥) → w < version_bound
    wanted-below b = omega (arith, smallest_bound next, b)

    -- and the first of those left
    wanted-first : (w ≡ version_bound → ⊥)
        → listed_from r.from (counted ms vs) ≡ w ∷ listed_from (w + 1) (counted ms vs)
    wanted-first b =
        rw wanted
        (from_next version_bound r.from (counted ms vs) (counted_rising ms vs) (omega (arith, wanted, wanted-below b)))

    -- it is not below the version up to which they have been read
    wanted-above : (w ≡ version_bound → ⊥) → r.from ≤ w
    wanted-above b =
        omega (arith, wanted, next_above version_bound r.from (counted ms vs) (omega (arith, wanted, wanted-below b)))

    -- where no version is left, they are as asked if no step is
    pub stepping-end : w ≡ version_bound → at ≤ length s
        → SteppingAnswered s outputs ms vs (then_some (eqb at (length s)) there) offsets
    stepping-end b h = read_all r.read (wanted-none b) h

    module _ (b : w ≡ version_bound → ⊥) (offsets' : List ℕ) where
      -- where the next step is not the next version's, they are not as asked
      pub stepping-other : IsWantedStep s at w true outputs offsets None offsets'
          → SteppingAnswered s outputs ms vs None offsets'
      stepping-other k = read_refused r.read (wanted-first b) offsets' k

      -- otherwise it is one of those read
      pub stepping-next : length outputs ≤ vrf_outputs_limit → {found : Bool} {after : ℕ} {next' : List ℕ}
          → IsWantedStep s at w true outputs offsets (Some (found, after)) offsets'
          → length offsets' ≡ records_capacity → next' ≡ stepped_on vs next (w + 1)
          → Stepping s outputs ms vs next' offsets' after (there && found)
      stepping-next l k z n =
          record {
            from = w + 1;
            read = read_taken r.read (wanted-first b) (rising_distinct (counted ms vs) (counted_rising ms vs)) l k z;
            pairs =
                n ∙ ap (λ (l : List ℕ). stepped_on vs l (w + 1)) r.pairs
                ∙ nexts_on ms vs r.from w (wanted-above b) (wanted-below b) (omega (arith, e, ap smallest r.pairs));
          }
