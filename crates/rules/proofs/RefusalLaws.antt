-- What a judgement means: acceptance is that everything reads and no rule applies, a refusal has
-- the number of the first that applies, and leaves everything.
use mathlib.Core.Path.{◌≡◌, refl, sym, ap, ◌∙◌, subst}
use mathlib.Core.Logic.{◌⊎◌, inl, inr}
use mathlib.Core.Bool.{Bool, true, false}
use mathlib.Core.List.{List, [], ◌∷◌, ◌++◌}
use mathlib.Core.Option.{Option, none, some, Option-elim, none-ne-some}
use Prim.Native.Nat.{ℕ, ◌≤◌}
use native.Mathlib.Omega.{arith}
use Rattle.lists.specs.Choice.{choose}
use Rattle.lists.specs.Lists.{Bytes}
use Rattle.lists.proofs.ChoiceLaws.{provided_true, provided_some}
use Rattle.rules.specs.Configuration.{read_configuration}
use Rattle.rules.specs.VrfOutputs.{read_outputs}
use Rattle.rules.specs.State.{State, is_valid}
use Rattle.rules.specs.ResponseText.{read_response}
use Rattle.rules.specs.Refusals.{Inputs, Call, Judgement, refused, passed, reading, lengths_fit}
use Rattle.rules.specs.Refusals.{valid_state, read_call, Rule, checks, last_checks, tried, tried_after}
use Rattle.rules.specs.Refusals.{judge}
use Rattle.rules.specs.Calls.{number_of, state_after, value_of, written_first, output_after, text_of}
use Rattle.rules.specs.Calls.{text_after}
use Rattle.rules.specs.Consistency.{accepted, accepted_calls}

-- no rule of a list applies to a call
abbrev pub NoneApplies : List Rule → Call → Type 0
NoneApplies [] c = Unit {0}
NoneApplies (r ∷ rs) c = (r.applies c ≡ false) × NoneApplies rs c

-- a call that no rule applies to passes
pub passes : (rs : List Rule) (c : Call) → NoneApplies rs c → tried rs c ≡ passed c
unfolding tried choose
passes [] c h = refl
passes (r ∷ rs) c (a, h) = rw a (passes rs c h)

-- the first rule of a list that applies to a call has the number k
abbrev pub FirstApplies : List Rule → Call → ℕ → Type 0
FirstApplies [] c k = ⊥
FirstApplies (r ∷ rs) c k = ((r.applies c ≡ true) × (r.number ≡ k)) ⊎ ((r.applies c ≡ false) × FirstApplies rs c k)

-- a call is refused with the number of the first rule that applies
pub refuses : (rs : List Rule) (c : Call) (k : ℕ) → FirstApplies rs c k → tried rs c ≡ refused k
unfolding tried choose
refuses [] c k h = absurd h
refuses (r ∷ rs) c k (inl (a, n)) = rw a (ap refused n)
refuses (r ∷ rs) c k (inr (a, h)) = rw a (refuses rs c k h)

-- what became of a call, from the answer
abbrev pub Tried : List Rule → Call → Judgement → Type 0
Tried rs c (refused k) = FirstApplies rs c k
Tried rs c (passed d) = (d ≡ c) × NoneApplies rs c

-- a refusal is no acceptance
pub refused_not_passed : (k : ℕ) (c : Call) → refused k ≡ passed c → ⊥
refused_not_passed k c e = let z : ◌≡◌ {A = ℕ} 0 1 = cc in omega arith

-- one rule more, before the others
tried_more : (r : Rule) (rs : List Rule) (c : Call) → r.applies c ≡ false → (j : Judgement) → Tried rs c j → Tried (r ∷ rs) c j
tried_more r rs c a (refused k) h = inr (a, h)
tried_more r rs c a (passed d) (e, h) = (e, (a, h))

-- the answer of a trial says which of the two it was: the first rule that applies, or none
pub tried_meaning : (rs : List Rule) (c : Call) → Tried rs c (tried rs c)
unfolding tried choose
tried_meaning [] c = (refl, tt)
tried_meaning (r ∷ rs) c = go (r.applies c) refl (tried_meaning rs c)
  where
    go : (b : Bool) → r.applies c ≡ b → Tried rs c (tried rs c) → Tried (r ∷ rs) c (choose b (λ _. refused r.number) (λ _. tried rs c))
    go true q h = inl (q, refl)
    go false q h = tried_more r rs c q (tried rs c) h

-- ---- rules after others

-- a trial is passed where a call was read, and no rule applies to it
pub after_passed : (rs : List Rule) (j : Judgement) (c : Call) → tried_after rs j ≡ passed c → (j ≡ passed c) × NoneApplies rs c
unfolding tried_after
after_passed rs (refused k) c e = absurd (refused_not_passed k c e)
after_passed rs (passed d) c e =
    let (q, h) : (c ≡ d) × NoneApplies rs d = subst (Tried rs d) e (tried_meaning rs d) in
    (ap passed (sym q), subst (NoneApplies rs) (sym q) h)

-- rules after others are tried on what those let pass
pub tried_append : (xs ys : List Rule) (c : Call) → tried (xs ++ ys) c ≡ tried_after ys (tried xs c)
unfolding tried tried_after choose
tried_append [] ys c = refl
tried_append (r ∷ rs) ys c = go (r.applies c) (tried_append rs ys c)
  where
    go : (b : Bool) → tried (rs ++ ys) c ≡ tried_after ys (tried rs c)
        → choose b (λ _. refused r.number) (λ _. tried (rs ++ ys) c) ≡ tried_after ys (choose b (λ _. refused r.number) (λ _. tried rs c))
    go true e = refl
    go false e = e

-- where none of the first applies, the others are tried
pub rest_tried : (xs ys : List Rule) (c : Call) → NoneApplies xs c → tried (xs ++ ys) c ≡ tried ys c
unfolding tried_after
rest_tried xs ys c h = tried_append xs ys c ∙ ap (tried_after ys) (passes xs c h)

-- a refusal by the first stays one, with its number
pub after_refused : (xs ys : List Rule) (j : Judgement) (k : ℕ) → tried_after xs j ≡ refused k → tried_after (xs ++ ys) j ≡ refused k
unfolding tried_after
after_refused xs ys (refused n) k e = e
after_refused xs ys (passed c) k e = tried_append xs ys c ∙ ap (tried_after ys) e

-- ---- what is read of a call: 1 to 5

-- the readings of a call, each with what it yields
pub record Readings (s : Option State) (i : Inputs) (c : Call) : Type 0 where
  pub fits : lengths_fit i ≡ true
  pub configuration : read_configuration i.configuration ≡ some c.configuration
  pub state : valid_state s ≡ some c.state
  pub outputs : read_outputs i.vrf_outputs ≡ some c.outputs
  pub parts : read_response i.response ≡ some c.parts
  pub inputs : c.inputs ≡ i

-- where a reading passes, what it yields is handed on
reading_by : {A R : Type 0} (k : ℕ) (o : Option A) (next : A → Judgement) (c : Call) → reading k o next ≡ passed c
    → ((a : A) → o ≡ some a → next a ≡ passed c → R) → R
unfolding reading
reading_by k none next c e f = absurd (refused_not_passed k c e)
reading_by k (some a) next c e f = f a refl e

-- a state that is handed on is the one given, and valid
pub valid_some : (o : Option State) (s : State) → valid_state o ≡ some s → (o ≡ some s) × (is_valid s ≡ true)
unfolding valid_state
valid_some none s e = absurd (none-ne-some s e)
valid_some (some x) s e = let (t, q) = provided_some (is_valid x) x s e in (ap some q, ap is_valid (sym q) ∙ t)

-- a call that was read has had its readings
pub readings_were : (s : Option State) (i : Inputs) (c : Call) → read_call s i ≡ passed c → Readings s i c
unfolding read_call
readings_were s i c e =
    reading_by 1 _ _ c e λ _ f e1.
    reading_by 2 (read_configuration i.configuration) _ c e1 λ g r2 e2.
    reading_by 3 (valid_state s) _ c e2 λ t r3 e3.
    reading_by 4 (read_outputs i.vrf_outputs) _ c e3 λ o r4 e4.
    reading_by 5 (read_response i.response) _ c e4 λ p r5 e5.
    let d : Call = record { inputs = i; configuration = g; state = t; outputs = o; parts = p } in
    let q : d ≡ c = cc in
    subst (Readings s i) q
    (record { fits = (provided_some (lengths_fit i) i _ f).0; configuration = r2; state = r3; outputs = r4; parts = r5; inputs = refl })

-- with its readings a call is read
pub readings_pass : (s : Option State) (i : Inputs) (c : Call) → Readings s i c → read_call s i ≡ passed c
unfolding read_call reading
readings_pass s i c h =
    rw (provided_true (lengths_fit i) i h.fits, h.configuration, h.state, h.outputs, h.parts, ← h.inputs) refl

-- ---- search and monitoring

-- acceptance: everything reads, and none of 6 to 16 applies
pub accepted_meaning : (s : Option State) (i : Inputs) (c : Call) → judge s i ≡ passed c → (read_call s i ≡ passed c) × NoneApplies (checks ++ last_checks) c
unfolding judge
accepted_meaning s i c e = after_passed (checks ++ last_checks) (read_call s i) c e

-- and the other way
pub acceptance : (s : Option State) (i : Inputs) (c : Call) → read_call s i ≡ passed c → NoneApplies (checks ++ last_checks) c → judge s i ≡ passed c
unfolding judge tried_after
acceptance s i c r h = rw r (passes (checks ++ last_checks) c h)

-- a number of the list
abbrev pub IsNumber : ℕ → Type 0
IsNumber k = (1 ≤ k) × (k ≤ 16)

-- a judgement, if it is a refusal, has one of them
abbrev Numbered : Judgement → Type 0
Numbered (refused k) = IsNumber k
Numbered (passed c) = Unit {0}

-- a reading with such a number, and such judgements after it
reading_numbered : {A : Type 0} (k : ℕ) (o : Option A) (next : A → Judgement) → IsNumber k → ((a : A) → Numbered (next a)) → Numbered (reading k o next)
unfolding reading
reading_numbered k none next n h = n
reading_numbered k (some a) next n h = h a

-- so have all rules of a list
abbrev AllNumbered : List Rule → Type 0
AllNumbered [] = Unit {0}
AllNumbered (r ∷ rs) = IsNumber r.number × AllNumbered rs

-- and then their trial
tried_numbered : (rs : List Rule) (c : Call) → AllNumbered rs → Numbered (tried rs c)
unfolding tried choose
tried_numbered [] c h = tt
tried_numbered (r ∷ rs) c (n, h) = go (r.applies c) (tried_numbered rs c h)
  where
    go : (b : Bool) → Numbered (tried rs c) → Numbered (choose b (λ _. refused r.number) (λ _. tried rs c))
    go true k = n
    go false k = k

-- every refusal has one of the sixteen numbers
pub sixteen_numbers : (s : Option State) (i : Inputs) (k : ℕ) → judge s i ≡ refused k → IsNumber k
unfolding judge tried_after checks last_checks read_call
sixteen_numbers s i k e = subst Numbered e (after (read_call s i) (
    reading_numbered 1 _ _ (omega arith) λ _.
    reading_numbered 2 _ _ (omega arith) λ _.
    reading_numbered 3 _ _ (omega arith) λ _.
    reading_numbered 4 _ _ (omega arith) λ _.
    reading_numbered 5 _ _ (omega arith) λ _. tt))
  where
    after : (j : Judgement) → Numbered j → Numbered (tried_after (checks ++ last_checks) j)
    after (refused n) h = h
    after (passed c) h = tried_numbered (checks ++ last_checks) c (omega arith)

-- a refusal leaves the state, the output bytes and the bytes lent for the new text as given
pub refusal_leaves : (s : Option State) (output new_text : Bytes) (k : ℕ)
    → (state_after s (refused k) ≡ s) × (output_after output (refused k) ≡ output) × (text_after new_text (refused k) ≡ new_text)
unfolding state_after output_after text_after value_of text_of written_first Option-elim
refusal_leaves s output new_text k = (refl, refl, refl)

-- the number 0 is acceptance
pub zero_accepts : (s : Option State) (i : Inputs) → number_of (judge s i) ≡ 0 → (c : Call) × (judge s i ≡ passed c)
unfolding number_of
zero_accepts s i e = go (judge s i) refl e
  where
    go : (j : Judgement) → judge s i ≡ j → number_of j ≡ 0 → (c : Call) × (judge s i ≡ passed c)
    go (refused k) q z = let n = sixteen_numbers s i k q in absurd (omega arith)
    go (passed c) q z = (c, q)

-- any other is that of a refusal
pub number_refused : (j : Judgement) (k : ℕ) → k ≡ number_of j → (k ≡ 0 → ⊥) → j ≡ refused k
unfolding number_of
number_refused (refused n) k e z = ap refused (sym e)
number_refused (passed c) k e z = absurd (z e)

-- ---- chains

-- an accepted call is the first of the accepted ones, and the rest of the chain goes on from the
-- state it gave
pub chain_accepted : (s : Option State) (i : Inputs) (is : List Inputs) (c : Call) → judge s i ≡ passed c
    → accepted_calls s (i ∷ is) ≡ c ∷ accepted_calls (state_after s (judge s i)) is
unfolding accepted_calls accepted
chain_accepted s i is c q = ap (λ (j : Judgement). accepted j ++ accepted_calls (state_after s (judge s i)) is) q

-- a refused call is not among the accepted ones, and the rest of the chain goes on from the state
-- that it was given
pub chain_refused : (s : Option State) (i : Inputs) (is : List Inputs) (k : ℕ) → judge s i ≡ refused k → accepted_calls s (i ∷ is) ≡ accepted_calls s is
unfolding accepted_calls accepted state_after
chain_refused s i is k q = ap (λ (j : Judgement). accepted j ++ accepted_calls (state_after s j) is) q
