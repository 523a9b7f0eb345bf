-- Laws of the steps of a response (specs/Steps.antt), for any list of versions that is wanted of
-- them and any choice of those that have commitments: whether they are as asked, whether outputs
-- have their versions, and where their commitments stand.
use mathlib.Core.Path.{◌≡◌, refl, sym, ◌∙◌, ap, subst}
use mathlib.Core.HLevel.{⊥_prop}
use mathlib.Core.Logic.{◌⊎◌, inl, inr, ⊎_elim, ∥∥₁_elim}
use mathlib.Core.Bool.{Bool, true, false, ◌&&◌, not, false≢true, and-true, and-false}
use mathlib.Core.List.{List, [], ◌∷◌, ◌++◌, append-nil, append_cancel_left, map-append}
use mathlib.Core.List.Memᴰ
use mathlib.Core.List.{Nodup, Nodup-nil, Nodup-cons, Nodup-append, Memᴰ}
use mathlib.Core.Option.{Option, Option-elim, none, some}
use Prim.Native.Nat.{ℕ, ◌/◌, ◌≤◌, ◌<◌}
use native.Mathlib.Omega.{arith}
use lib.Dec.{eqb, ltb}
use lib.ListN.{length, get_or, drop, set, length-map}
use lib.Seq.{append_snoc, get_or-set_same, get_or-set_other}
use borrow.Author.Tests.{eqb-true, eqb-false, le-ltb, not-true}
use Rattle.std.specs.Prelude.{Some, None, Option as CodeOption}
use Rattle.std.specs.Bool.{then_some}
use Rattle.lists.specs.Choice.{is_some}
use Rattle.lists.specs.Lists.{Bytes, all, same, rising, runs}
use Rattle.lists.proofs.ChoiceLaws.{and_holds, holds_and, never_holds, provided_some}
use Rattle.lists.proofs.ListLaws.{all_at, all_with, all_without, any_at, mapped_at, same_true, equal_same}
use Rattle.lists.proofs.ListLaws.{select_fewer, select_length}
use Rattle.lists.proofs.RisingLaws.{rising_first, rising_tail}
use Rattle.tree.proofs.DigitLaws.{by_order}
use Rattle.tree.proofs.RunLaws.{length_runs}
use Rattle.rules.specs.Limits.{vrf_outputs_limit}
use Rattle.rules.specs.VrfOutputs.{VrfOutput, record_length, read_record, read_records, read_outputs, has_output}
use Rattle.rules.specs.Response.{Step}
use Rattle.rules.specs.Refusals.{commitment_asked}
use Rattle.inputs.specs.declared.vrf_outputs.FoundOutput.{FoundOutput}
use Rattle.inputs.specs.VrfOutputs.{records_below, IsRecordOf}
use Rattle.rules.specs.ResponseText.{read_step}
use Rattle.inputs.specs.Response.{steps_in}
use Rattle.inputs.proofs.VrfOutputLaws.{found_none, found_some, fewer_below}
use Rattle.checks.proofs.LineStepLaws.{no-line-end, some-line}
use Rattle.checks.specs.declared.sections.NextStep.{NextStep}
use Rattle.checks.specs.Sections.{StepLines, CommitmentAt, IsNextStep, has_commitment, noted_of}
use Rattle.checks.specs.Steps.{versions_of, records_capacity, CommitmentsBy, IsNoted, IsWantedStep}
use Rattle.checks.specs.Steps.{ArePlaced, AreSteps}

-- ---- records of outputs

-- different versions that have outputs have records of different numbers
records_differ : (xs : List VrfOutput) (u v : ℕ) → (u ≡ v → ⊥) → has_output xs u ≡ true → has_output xs v ≡ true
    → records_below xs u ≡ records_below xs v → ⊥
records_differ xs u v n a b e =
    by_order u v (λ h. omega (arith, fewer_below xs u v h a)) (λ h. omega (arith, fewer_below xs v u (omega arith) b))

-- the number of a record is below the table's room
record_within : (s : Bytes) (xs : List VrfOutput) (v : ℕ) → length s ≤ vrf_outputs_limit → read_outputs s ≡ some xs
    → has_output xs v ≡ true → records_below xs v < records_capacity
unfolding read_outputs read_records has_output records_below
record_within s xs v h e t =
    let q : read_records s ≡ xs = (provided_some _ (read_records s) xs e).1 in
    let rs = runs (length s / record_length) record_length s in
    let l : length xs ≡ length s / record_length =
    ap length (sym q) ∙ length-map rs read_record ∙ length_runs (length s / record_length) record_length s in
    let (a, m, z) = any_at (λ (x : VrfOutput). eqb x.version v) xs t in
    let b = le-ltb a.version v (omega (arith, eqb-true a.version v z)) in
    let f = select_fewer (λ (x : VrfOutput). ltb x.version v) (λ _. true) xs a (λ x _. refl) m b refl in
    omega (arith, f, select_length {A = VrfOutput} (λ _. true) xs, l)

-- ---- the offset of one commitment

module _ (outputs : Bytes) (v offset : ℕ) (offsets : List ℕ) where
  -- where an output is found, the offset at the number of its record becomes the commitment's
  pub noted_found : (x : FoundOutput) → IsRecordOf outputs v (Some x)
      → IsNoted outputs v offset offsets true (set offsets x.index offset)
  noted_found x f xs e =
      let (has, _, index) = found_some outputs v x f xs e in
      (sym has, λ _. ap (λ (j : ℕ). set offsets j offset) index, λ z. absurd (false≢true (sym z)))

  -- where none is, the table stays
  pub noted_missing : IsRecordOf outputs v None → IsNoted outputs v offset offsets false offsets
  noted_missing f xs e = (sym (found_none outputs v f xs e), λ z. absurd (false≢true z), λ _. refl)

-- ---- the commitments of the steps read

-- the versions of steps with one more
versions_snoc : (steps : List Step) (x : Step) → versions_of (steps ++ x ∷ []) ≡ versions_of steps ++ x.version ∷ []
versions_snoc steps x = map-append (λ (x : Step). x.version) steps (x ∷ [])

-- where there are no versions there are no steps
no_versions : (steps : List Step) → versions_of steps ≡ [] → steps ≡ []
no_versions [] e = refl
no_versions (x ∷ steps) e = absurd (omega (arith, ap length e))

module _ (s outputs : Bytes) (offsets : List ℕ) (there : Bool) (steps : List Step)
    (p : ArePlaced s outputs offsets there steps) (room : length offsets ≡ records_capacity)
    (few : length outputs ≤ vrf_outputs_limit) (x : Step) (offset : ℕ) (r : Bool) (offsets' : List ℕ) where
  -- a step more, of a version that none of the others has, whose commitment was noted
  placed-next : IsNoted outputs x.version offset offsets r offsets' → CommitmentAt s offset x.commitment
      → ((y : Step) → Memᴰ y steps → y.version ≡ x.version → ⊥)
      → ArePlaced s outputs offsets' (there && r) (steps ++ x ∷ [])
  placed-next i c n xs e = go r (i xs e)
    where
      v : ℕ
      v = x.version

      go : (r : Bool)
          → (r ≡ has_output xs v) × (r ≡ true → offsets' ≡ set offsets (records_below xs v) offset)
          × (r ≡ false → offsets' ≡ offsets)
          → ((there && r) ≡ all (has_output xs) (versions_of (steps ++ x ∷ [])))
          × ((there && r) ≡ true → CommitmentsBy s xs offsets' (steps ++ x ∷ []))
      go true (has, noted, _) = (
        and-true there ∙ (p xs e).0
            ∙ sym (ap (all (has_output xs)) (versions_snoc steps x)
            ∙ all_with (has_output xs) (versions_of steps) v (sym has)),
        λ h y m. rw (noted refl) (each (sym (and-true there) ∙ h) y (Memᴰ.append_cases steps m)),
      )
        where
          each : there ≡ true → (y : Step) → Memᴰ y steps ⊎ Memᴰ y (x ∷ [])
              → CommitmentAt s (get_or (set offsets (records_below xs v) offset) (records_below xs y.version) 0)
              y.commitment
          each h y (inl m) =
              let all_there : all (has_output xs) (versions_of steps) ≡ true = sym (p xs e).0 ∙ h in
              let listed = mapped_at (λ (x : Step). x.version) steps y m in
              let has' = all_at (has_output xs) (versions_of steps) y.version all_there listed in
              let differ = records_differ xs y.version v (n y m) has' (sym has) in
              rw (get_or-set_other offsets (records_below xs v) (records_below xs y.version) offset 0 differ)
              ((p xs e).1 h y m)
          each h y (inr m) =
              let l : records_below xs v < length offsets = rw room (record_within outputs xs v few e (sym has)) in
              rw (Memᴰ.eq_of_singleton m, get_or-set_same offsets (records_below xs v) offset 0 l) c
      go false (has, _, _) = (
        and-false there
            ∙ sym (ap (all (has_output xs)) (versions_snoc steps x)
            ∙ all_without (has_output xs) (versions_of steps) v (sym has)),
        λ h. absurd (false≢true (sym (and-false there) ∙ h)),
      )

-- ---- the commitment of one step

module _ (f : ℕ → Bool) (x : Step) where
  -- it is as asked where it is given exactly for a version that is to have one
  commitment-right : is_some x.commitment ≡ f x.version → commitment_asked f x ≡ true
  unfolding commitment_asked Option-elim is_some
  commitment-right e = go x.commitment e
    where
      go : (o : Option Bytes) → is_some o ≡ f x.version
          → Option-elim o (not (f x.version)) (λ _. f x.version) ≡ true
      go none e = ap not (sym e)
      go (some c) e = sym e

  -- and nowhere else
  commitment-was : commitment_asked f x ≡ true → is_some x.commitment ≡ f x.version
  unfolding commitment_asked Option-elim is_some
  commitment-was e = go x.commitment e
    where
      go : (o : Option Bytes) → Option-elim o (not (f x.version)) (λ _. f x.version) ≡ true
          → is_some o ≡ f x.version
      go none e = sym (not-true (f x.version) e)
      go (some c) e = sym e

-- ---- the steps, one after the other

-- rising numbers are different
pub rising_distinct : (l : List ℕ) → rising l ≡ true → Nodup l
rising_distinct [] r = Nodup-nil
rising_distinct (x ∷ xs) r =
    Nodup-cons.1 (
      λ i. ∥∥₁_elim i ⊥_prop (λ k. omega (arith, rising_first x xs r x k)),
      rising_distinct xs (rising_tail x xs r),
    )

-- a number of different ones does not stand before itself
never_before : (a : List ℕ) (v : ℕ) (b : List ℕ) → Nodup (a ++ v ∷ b) → Memᴰ v a → ⊥
never_before a v b d m = ((Nodup-append {l₁ = a} {l₂ = v ∷ b}).0 d).2 v ∣ m ∣₁ ∣ Memᴰ.head refl ∣₁

-- the steps up to an offset have been read: after their versions some of those wanted are left, and
-- their commitments are as asked and placed
pub record StepsRead (s outputs : Bytes) (wanted : List ℕ) (f : ℕ → Bool) (left offsets : List ℕ) (at : ℕ)
    (there : Bool) : Type 0 where
  pub done : List Step
  pub split : steps_in s ≡ done ++ steps_in (drop at s)
  pub versions : wanted ≡ versions_of done ++ left
  pub asked : all (commitment_asked f) done ≡ true
  pub room : length offsets ≡ records_capacity
  pub placed : ArePlaced s outputs offsets there done
  pub lines : StepLines (drop at s)

-- what is answered of the steps: that they are not as asked, or whether outputs have all versions
abbrev pub Answered : Bytes → Bytes → List ℕ → (ℕ → Bool) → CodeOption Bool → List ℕ → Type 0
Answered s outputs wanted f r offsets =
    AreSteps s outputs (same (versions_of (steps_in s)) wanted && all (commitment_asked f) (steps_in s)) r offsets

-- at first none has been read
pub read_start : (s outputs : Bytes) (wanted : List ℕ) (f : ℕ → Bool) (offsets : List ℕ)
    → length offsets ≡ records_capacity → StepLines s → StepsRead s outputs wanted f wanted offsets 0 true
unfolding all
read_start s outputs wanted f offsets l h = record {
  done = [];
  split = refl;
  versions = refl;
  asked = refl;
  room = l;
  placed = λ xs e. (refl, λ t x m. absurd (Memᴰ.not-nil m));
  lines = h;
}

module _ {s outputs : Bytes} {wanted : List ℕ} {f : ℕ → Bool} {left offsets : List ℕ} {at : ℕ} {there : Bool}
    (r : StepsRead s outputs wanted f left offsets at there) where
  -- steps are not as asked where it is absurd that the others have the versions left, and
  -- commitments
  refuted : (versions_of (steps_in (drop at s)) ≡ left → all (commitment_asked f) (steps_in s) ≡ true → ⊥)
      → Answered s outputs wanted f None offsets
  refuted h =
      let t = same (versions_of (steps_in s)) wanted in
      let u = all (commitment_asked f) (steps_in s) in
      never_holds (t && u)
      (λ q. h (others (same_true (versions_of (steps_in s)) wanted (and_holds t u q).0)) (and_holds t u q).1)
    where
      others : versions_of (steps_in s) ≡ wanted → versions_of (steps_in (drop at s)) ≡ left
      others v =
          append_cancel_left (versions_of r.done) (versions_of (steps_in (drop at s))) left
          (sym (ap versions_of r.split ∙ map-append (λ (x : Step). x.version) r.done (steps_in (drop at s)))
          ∙ v ∙ r.versions)

  -- where neither a step nor a version is left, they are as asked
  pub read-end : steps_in (drop at s) ≡ [] → left ≡ [] → Answered s outputs wanted f (Some there) offsets
  read-end n e =
      let whole : steps_in s ≡ r.done = r.split ∙ ap (λ (l : List Step). r.done ++ l) n ∙ append-nil r.done in
      let v : wanted ≡ versions_of r.done =
      r.versions ∙ ap (λ (l : List ℕ). versions_of r.done ++ l) e ∙ append-nil (versions_of r.done) in (
        holds_and (same (versions_of (steps_in s)) wanted) (all (commitment_asked f) (steps_in s))
            (equal_same (versions_of (steps_in s)) wanted (ap versions_of whole ∙ sym v))
            (ap (all (commitment_asked f)) whole ∙ r.asked),
        subst (ArePlaced s outputs offsets there) (sym whole) r.placed,
      )

  -- where a version is left and no step is, they are not
  pub read_short : {v : ℕ} {rest : List ℕ} → steps_in (drop at s) ≡ [] → left ≡ v ∷ rest
      → Answered s outputs wanted f None offsets
  read_short n e = refuted (λ v c. omega (arith, ap length (sym (ap versions_of n) ∙ v ∙ e)))

  -- nor where a step is left and no version is
  pub read_more : (steps_in (drop at s) ≡ [] → ⊥) → left ≡ [] → Answered s outputs wanted f None offsets
  read_more n e = refuted (λ v c. n (no_versions (steps_in (drop at s)) (v ∙ e)))

  -- where no version is left, they are as asked if the lines end here
  pub read_all : left ≡ [] → at ≤ length s → Answered s outputs wanted f (then_some (eqb at (length s)) there) offsets
  unfolding steps_in
  read_all e h = go (eqb at (length s)) refl
    where
      go : (q : Bool) → eqb at (length s) ≡ q → Answered s outputs wanted f (then_some q there) offsets
      go true q = read-end (no-line-end read_step s at (omega (arith, eqb-true at (length s) q))) e
      go false q = read_more (some-line read_step s at r.lines (omega (arith, eqb-false at (length s) q))) e

  module _ (n : NextStep) (k : IsNextStep s at (Some n)) where
    -- nor where the next step has another version than the next one left, or a commitment that is
    -- not asked, or lacks one that is
    pub read_other : {v : ℕ} {rest : List ℕ} → left ≡ v ∷ rest → (n.version ≡ v → has_commitment n ≡ f n.version → ⊥)
        → Answered s outputs wanted f None offsets
    read_other {v} e h = refuted (λ w c.
        h (sym k.2 ∙ ap (λ (l : List ℕ). get_or l 0 0) (sym (ap versions_of k.1) ∙ w ∙ e))
        (sym k.3 ∙ commitment-was f k.0 (all_at (commitment_asked f) (steps_in s) k.0 c member) ∙ ap f k.2))
      where
        member : Memᴰ k.0 (steps_in s)
        member = rw (r.split, k.1) (Memᴰ.append_right r.done (Memᴰ.head refl))

    -- otherwise it is one of those read, once its commitment is noted
    pub read_next : {rest offsets' : List ℕ} {b : Bool} → Nodup wanted → length outputs ≤ vrf_outputs_limit
        → left ≡ n.version ∷ rest → has_commitment n ≡ f n.version
        → IsNoted outputs n.version (noted_of n) offsets b offsets'
        → length offsets' ≡ records_capacity → StepsRead s outputs wanted f rest offsets' n.next (there && b)
    read_next {rest} {offsets'} {b} d l e g i z = record {
      done = r.done ++ x ∷ [];
      split =
          r.split ∙ ap (λ (l : List Step). r.done ++ l) k.1
          ∙ sym (append_snoc r.done x (steps_in (drop n.next s)));
      versions =
          both ∙ sym (append_snoc (versions_of r.done) n.version rest)
          ∙ ap (λ (l : List ℕ). l ++ rest)
          (sym (versions_snoc r.done x ∙ ap (λ (v : ℕ). versions_of r.done ++ v ∷ []) k.2));
      asked = all_with (commitment_asked f) r.done x (commitment-right f x (k.3 ∙ g ∙ ap f (sym k.2))) ∙ r.asked;
      room = z;
      placed =
          placed-next s outputs offsets there r.done r.placed r.room l x (noted_of n) b offsets' (rw k.2 i) k.4
          other;
      lines = k.5;
    }
      where
        x : Step
        x = k.0

        both : wanted ≡ versions_of r.done ++ n.version ∷ rest
        both = r.versions ∙ ap (λ (l : List ℕ). versions_of r.done ++ l) e

        other : (y : Step) → Memᴰ y r.done → y.version ≡ x.version → ⊥
        other y m q =
            never_before (versions_of r.done) n.version rest (subst (λ (l : List ℕ). Nodup l) both d)
            (subst (λ (v : ℕ). Memᴰ v (versions_of r.done)) (q ∙ k.2)
            (mapped_at (λ (x : Step). x.version) r.done y m))

  module _ {v : ℕ} {rest : List ℕ} (e : left ≡ v ∷ rest) where
    -- where the step at the offset is not the one wanted, they are not as asked
    pub read_refused : (offsets' : List ℕ) → IsWantedStep s at v (f v) outputs offsets None offsets'
        → Answered s outputs wanted f None offsets'
    read_refused offsets' k = ⊎_elim (λ n. read_short n e) (λ m. read_other m.0 m.1 e (λ a b. m.2 a (b ∙ ap f a))) k

    -- otherwise it is one of those read
    pub read_taken : {offsets' : List ℕ} {b : Bool} {next : ℕ} → Nodup wanted → length outputs ≤ vrf_outputs_limit
        → IsWantedStep s at v (f v) outputs offsets (Some (b, next)) offsets'
        → length offsets' ≡ records_capacity → StepsRead s outputs wanted f rest offsets' next (there && b)
    read_taken {offsets'} {b} d l (n, k, a, c, q, i) z =
        subst (λ (y : ℕ). StepsRead s outputs wanted f rest offsets' y (there && b)) q
        (read_next n k d l (e ∙ ap (λ (y : ℕ). y ∷ rest) (sym a)) (c ∙ ap f (sym a)) (rw a i) z)
