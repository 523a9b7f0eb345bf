-- Laws of a whole call (specs/Calls.antt): what it is given is read, and then tried; and what comes
-- back.
use mathlib.Core.Path.{◌≡◌, refl, sym, ap, ◌∙◌}
use mathlib.Core.Option.{Option, some, Option-elim}
use Prim.Native.Nat.{ℕ, ◌+◌}
use lib.ListN.{length, take, drop}
use lib.Seq.{take_at}
use Rattle.lists.specs.Lists.{Bytes, written}
use Rattle.rules.specs.Response.{Kind}
use Rattle.rules.specs.Refusals.{Inputs, Judgement, refused, passed, judge}
use Rattle.rules.specs.Calls.{Arguments, library_inputs, judge_call, next_state, state_after, value_of}
use Rattle.rules.specs.Calls.{written_first, output_after}
use Rattle.rules.proofs.NextStateLaws.{state_valid}
use Rattle.inputs.specs.declared.state.State.{State as StateBlock}
use Rattle.inputs.specs.State.{state_of}
use Rattle.inputs.proofs.StateBlockLaws.{block_state}
use Rattle.std.specs.Prelude.{Ok, Err, Some, Result, MatchResult, IsErrAnd}
use Rattle.inputs.specs.declared.refusal.Refusal.{Refusal}
use Rattle.inputs.specs.declared.state.Refused.{Refused}
use Rattle.checks.specs.declared.call.Accepted.{Accepted}
use Rattle.checks.specs.declared.call.Found.{Found}
use Rattle.checks.proofs.AfterCallLaws.{accepted_state}
use Rattle.checks.specs.Calls.{Answer, block_after, answer_of, answer_in, answer_from}

-- ---- the answer

-- a call that is given its state gives it back with a refusal
pub given_back : (b : StateBlock) (r : Result Accepted Refusal) (r' : Result Accepted Refused)
    (Learnt : Refusal → Refused → Type 0)
    → ((e : Refusal) (x : Refused) → Learnt e x → x ≡ record { refusal = e; state = b })
    → MatchResult r (λ a. r' ≡ Ok a) (λ e. IsErrAnd r' (Learnt e)) → answer_in r' ≡ answer_from b r
unfolding answer_in answer_from
given_back b (Ok a) r' Learnt f h = rw h refl
given_back b (Err e) (Ok a) Learnt f h = absurd h
given_back b (Err e) (Err x) Learnt f h = rw (f e x h) refl

-- ---- what comes back

-- the struct of the state afterwards stands for the state that the rules give
block_after_lem : (b : StateBlock) (i : Inputs)
    → state_of (block_after b (judge (state_of b) i)) ≡ state_after (state_of b) (judge (state_of b) i)
unfolding block_after state_after
block_after_lem b i = go (judge (state_of b) i) refl
  where
    go : (j : Judgement) → judge (state_of b) i ≡ j → state_of (block_after b j) ≡ state_after (state_of b) j
    go (refused k) e = refl
    go (passed c) e = block_state (next_state c) (state_valid (state_of b) i c e)

-- the struct that is answered stands for the state that the rules give
pub answer_state : (kind : Option Kind) (b : StateBlock) (a : Arguments) (signed : Bytes) (room : ℕ)
    → let j = judge_call kind (state_of b) a signed room in state_of (answer_of b j).state ≡ state_after
    (state_of b) j
unfolding answer_of judge_call
answer_state kind b a signed room = block_after_lem b (library_inputs kind a signed room)

-- the part of the output that the answer tells is the value
pub value_shown : (b : StateBlock) (output : Bytes) (j : Judgement) (v : Bytes) → value_of j ≡ some v
    → take (answer_of b j).length (output_after output j) ≡ v
unfolding answer_of output_after written_first written Option-elim
value_shown b output j v e = rw e (take_at v (drop (0 + length v) output) (length v) refl)

-- ---- the same of what the code answers, which is joined to the answer by `answer_in`

-- the state in an acceptance is the one answered
accepted_after : (x : Accepted) → (answer_in (Ok x)).state ≡ x.state
unfolding answer_in
accepted_after x = accepted_state x.state x.found

-- so the state in an acceptance stands for the state that the rules give
pub accepted_stands : (kind : Option Kind) (b : StateBlock) (a : Arguments) (signed : Bytes) (room : ℕ) (x : Accepted)
    → let j = judge_call kind (state_of b) a signed room in answer_in (Ok x) ≡ answer_of b j
    → state_of x.state ≡ state_after (state_of b) j
accepted_stands kind b a signed room x e =
    ap state_of (sym (accepted_after x) ∙ ap (λ (y : Answer). y.state) e) ∙ answer_state kind b a signed room

-- and so does the one in a refusal
pub refused_stands : (kind : Option Kind) (b : StateBlock) (a : Arguments) (signed : Bytes) (room : ℕ) (x : Refused)
    → let j = judge_call kind (state_of b) a signed room in answer_in (Err x) ≡ answer_of b j
    → state_of x.state ≡ state_after (state_of b) j
unfolding answer_in
refused_stands kind b a signed room x e =
    ap (λ (y : Answer). state_of y.state) e ∙ answer_state kind b a signed room

-- the part of the output that an acceptance tells is the value
pub found_shown : (b : StateBlock) (output : Bytes) (j : Judgement) (v : Bytes) (s : StateBlock) (f : Found)
    → answer_in (Ok (record { state = s; found = Some f })) ≡ answer_of b j → value_of j ≡ some v
    → take f.length (output_after output j) ≡ v
unfolding answer_in
found_shown b output j v s f e h =
    ap (λ (y : Answer). take y.length (output_after output j)) e ∙ value_shown b output j v h
