-- Laws of rules that are tried one after the other, or in parts that each answer the number of
-- their first rule that applies, or 0 (specs/Calls.antt).
use mathlib.Core.Path.{◌≡◌, refl, sym, ap, ◌∙◌}
use mathlib.Core.Logic.{inl, inr}
use mathlib.Core.Bool.{Bool, true, false}
use mathlib.Core.List.{List, [], ◌∷◌, ◌++◌}
use Prim.Native.Nat.{ℕ, ◌≤◌}
use native.Mathlib.Omega.{arith}
use Rattle.lists.specs.Choice.{choose}
use Rattle.rules.specs.Refusals.{Call, Judgement, refused, passed, Rule, rule, tried, tried_after}
use Rattle.rules.specs.Calls.{number_of}
use Rattle.rules.proofs.RefusalLaws.{NoneApplies, FirstApplies, Tried, tried_meaning, tried_append}
use Rattle.rules.proofs.RefusalLaws.{rest_tried, number_refused}
use Rattle.std.specs.Prelude.{Err, Result}
use Rattle.inputs.specs.declared.refusal.Refusal.{Refusal}
use Rattle.inputs.specs.declared.refusal.Refusal.TheVariants.{Length, Configuration, State, VrfOutputs, Lines}
use Rattle.inputs.specs.declared.refusal.Refusal.TheVariants.{Request, TreeSize, Target, Shape, MissingOutput, Time}
use Rattle.inputs.specs.declared.refusal.Refusal.TheVariants.{Lookup, Ladder, FullSubtree, SignedText, Room}
use Rattle.inputs.specs.Refusal.{refusal_number}
use Rattle.checks.specs.Calls.{number_tried, Tells}

-- ---- one rule after the other

module _ (k : ℕ) (f : Call → Bool) (rs : List Rule) (c : Call) where
  -- the first rule, where it applies, gives the number
  pub number-first : f c ≡ true → k ≡ number_tried (rule k f ∷ rs) c
  unfolding tried choose number_of
  number-first e = rw e refl

  -- where it does not, the others give it
  pub number-next : f c ≡ false → number_tried rs c ≡ number_tried (rule k f ∷ rs) c
  unfolding tried choose number_of
  number-next e = rw e refl

-- where there is none, it is 0
pub number_none : (c : Call) → 0 ≡ number_tried [] c
unfolding tried number_of
number_none c = refl

-- ---- one part after the other

-- no rule has the number 0
abbrev pub Numbered : List Rule → Type 0
Numbered [] = Unit {0}
Numbered (r ∷ rs) = (1 ≤ r.number) × Numbered rs

-- the first rule that applies has a number that is not 0
first_numbered : (rs : List Rule) (c : Call) (k : ℕ) → Numbered rs → FirstApplies rs c k → 1 ≤ k
first_numbered [] c k n h = absurd h
first_numbered (r ∷ rs) c k (n, ns) (inl (a, e)) = omega (arith, n, e)
first_numbered (r ∷ rs) c k (n, ns) (inr (a, h)) = first_numbered rs c k ns h

-- where the answer is 0, no rule applies
pub none_applies : (rs : List Rule) (c : Call) → Numbered rs → 0 ≡ number_tried rs c → NoneApplies rs c
unfolding number_of
none_applies rs c n = go (tried rs c) (tried_meaning rs c)
  where
    go : (j : Judgement) → Tried rs c j → 0 ≡ number_of j → NoneApplies rs c
    go (refused k) h e = let p = first_numbered rs c k n h in absurd (omega (arith, p, e))
    go (passed d) (q, h) e = h

-- where it is another, the call is refused with it, whatever rules follow
pub first_refuses : (xs ys : List Rule) (c : Call) (k : ℕ) → k ≡ number_tried xs c → (k ≡ 0 → ⊥) → tried (xs ++ ys) c ≡ refused k
unfolding tried_after
first_refuses xs ys c k e z = tried_append xs ys c ∙ ap (tried_after ys) (number_refused (tried xs c) k e z)

-- the number of rules in two parts is that of the first part, if it is not 0
pub number_front : (xs ys : List Rule) (c : Call) (k : ℕ) → k ≡ number_tried xs c → (k ≡ 0 → ⊥) → k ≡ number_tried (xs ++ ys) c
unfolding number_of
number_front xs ys c k e z = sym (ap number_of (first_refuses xs ys c k e z))

-- and else that of the second
pub number_rest : (xs ys : List Rule) (c : Call) → NoneApplies xs c → number_tried ys c ≡ number_tried (xs ++ ys) c
number_rest xs ys c h = ap number_of (sym (rest_tried xs ys c h))

-- ---- what the code answers

-- no refusal has the number 0
pub refusal_numbered : (e : Refusal) → refusal_number e ≡ 0 → ⊥
refusal_numbered Length z = omega arith
refusal_numbered Configuration z = omega arith
refusal_numbered State z = omega arith
refusal_numbered VrfOutputs z = omega arith
refusal_numbered Lines z = omega arith
refusal_numbered Request z = omega arith
refusal_numbered TreeSize z = omega arith
refusal_numbered Target z = omega arith
refusal_numbered Shape z = omega arith
refusal_numbered MissingOutput z = omega arith
refusal_numbered Time z = omega arith
refusal_numbered Lookup z = omega arith
refusal_numbered Ladder z = omega arith
refusal_numbered FullSubtree z = omega arith
refusal_numbered SignedText z = omega arith
refusal_numbered Room z = omega arith

-- a refusal in the first part is that of both
pub refused_front : (A : Type 0) (xs ys : List Rule) (c : Call) (e : Refusal) (P : A → Type 0)
    → refusal_number e ≡ number_tried xs c → Tells (Err e) (xs ++ ys) c P
refused_front A xs ys c e P h = (number_front xs ys c (refusal_number e) h (refusal_numbered e), tt)

-- where none of the first part applies, the second is told
pub told_rest : (A : Type 0) (xs ys : List Rule) (c : Call) (r : Result A Refusal) (P : A → Type 0) → NoneApplies xs c
    → Tells r ys c P → Tells r (xs ++ ys) c P
told_rest A xs ys c r P n (e, f) = (e ∙ number_rest xs ys c n, f)
