-- Laws of what every call reads first (specs/Calls.antt, 1 to 5): what it is given is read, one
-- thing after the other, for each kind and room; and what the rules after it are tried on.
use mathlib.Core.Path.{◌≡◌, refl, sym, ap, ◌∙◌}
use mathlib.Core.Bool.{Bool, true, false, false≢true}
use mathlib.Core.List.{List}
use mathlib.Core.Option.{Option, none, some}
use Prim.Native.Nat.{ℕ, ◌≤◌}
use native.Mathlib.Omega.{arith}
use lib.ListN.{length}
use borrow.Author.Tests.{leb-true, eqb-true}
use Rattle.lists.specs.Choice.{provided, is_some}
use Rattle.lists.specs.Lists.{Bytes}
use Rattle.lists.proofs.ChoiceLaws.{given_some, given_none, provided_some}
use Rattle.lists.proofs.ListLaws.{every_cons}
use Rattle.rules.specs.Limits.{vrf_outputs_limit, identifier_length}
use Rattle.rules.specs.Configuration.{Configuration, read_configuration}
use Rattle.rules.specs.VrfOutputs.{VrfOutput, read_outputs}
use Rattle.rules.specs.State.{State}
use Rattle.rules.specs.Response.{Kind, Parts}
use Rattle.rules.specs.ResponseText.{read_response}
use Rattle.rules.specs.Refusals.{Inputs, refused, passed, reading, lengths_fit, valid_state}
use Rattle.rules.specs.Refusals.{read_call}
use Rattle.rules.specs.Calls.{inputs_within}
use Rattle.rules.proofs.RefusalLaws.{valid_some}
use Rattle.inputs.specs.declared.configuration.Configuration.{Configuration as ConfigurationBlock}
use Rattle.inputs.specs.declared.response.Response.{Response}
use Rattle.inputs.specs.declared.state.State.{State as StateBlock}
use Rattle.inputs.specs.Configuration.{configuration_in}
use Rattle.inputs.specs.Response.{parts_in, Offsets}
use Rattle.inputs.specs.State.{state_of, contents, log_in, room_is_zero}
use Rattle.checks.specs.declared.readings.Call.{Call as CallBlock}
use Rattle.std.specs.Prelude.{Ok, Err, Result, Some, None, Option as CodeOption, is_ok}
use Rattle.std.specs.Option.{ok_or}
use Rattle.inputs.specs.declared.refusal.Refusal.{Refusal}
use Rattle.inputs.specs.declared.refusal.Refusal.TheVariants.{Length, Configuration as NoConfiguration}
use Rattle.inputs.specs.declared.refusal.Refusal.TheVariants.{State as NoState, VrfOutputs as NoOutputs, Lines as NoLines}
use Rattle.checks.specs.Calls.{arguments_of, are_lengths_fit, offset_bound, IsReadCall}

-- ---- what is given is read

module _ (st : Option State) (i : Inputs) where
  -- too long
  given-long : lengths_fit i ≡ false → read_call st i ≡ refused 1
  unfolding read_call reading provided
  given-long e = rw e refl

  module _ (l : lengths_fit i ≡ true) where
    -- no configuration
    given-unconfigured : read_configuration i.configuration ≡ none → read_call st i ≡ refused 2
    unfolding read_call reading provided
    given-unconfigured e = rw (l, e) refl

    module _ (g : Configuration) (eg : read_configuration i.configuration ≡ some g) where
      -- no valid state
      given-invalid : valid_state st ≡ none → read_call st i ≡ refused 3
      unfolding read_call reading provided
      given-invalid e = rw (l, eg, e) refl

      module _ (s : State) (es : valid_state st ≡ some s) where
        -- no outputs
        given-outputless : read_outputs i.vrf_outputs ≡ none → read_call st i ≡ refused 4
        unfolding read_call reading provided
        given-outputless e = rw (l, eg, es, e) refl

        module _ (os : List VrfOutput) (eo : read_outputs i.vrf_outputs ≡ some os) where
          -- no response
          given_broken : read_response i.response ≡ none → read_call st i ≡ refused 5
          unfolding read_call reading provided
          given_broken e = rw (l, eg, es, eo, e) refl

          -- all of it
          given-read : (p : Parts) → read_response i.response ≡ some p
              → read_call st i ≡ passed (record { inputs = i; configuration = g; state = s; outputs = os; parts = p })
          unfolding read_call reading provided
          given-read p e = rw (l, eg, es, eo, e) refl

-- ---- what is not there is refused

-- where there is a value, it is answered
pub ok_given : {A : Type 0} (o : CodeOption A) (e : Refusal) (x : A) → ok_or o e ≡ Ok x → o ≡ Some x
ok_given (Some y) e x q = ap (λ (r : Result _ Refusal). ok_value y r) q
  where
    ok_value : {B : Type 0} → B → Result B Refusal → CodeOption B
    ok_value d (Ok z) = Some z
    ok_value d (Err z) = Some d
ok_given None e x q = absurd (false≢true (ap is_ok q))

-- and where there is none, the refusal
pub err_given : {A : Type 0} (o : CodeOption A) (e d : Refusal) → ok_or o e ≡ Err d → (o ≡ None) × (d ≡ e)
err_given (Some y) e d q = absurd (false≢true (sym (ap is_ok q)))
err_given None e d q = (refl, sym (ap (err_value e) q))
  where
    err_value : {B : Type 0} → Refusal → Result B Refusal → Refusal
    err_value d (Ok z) = d
    err_value d (Err z) = z

-- ---- by each call that is given it

-- lengths that fit: a response and outputs are not too long, and an identifier has its length
lengths_short : (limit : ℕ) (response configuration signed outputs identifier : Bytes)
    → true ≡ are_lengths_fit limit response configuration signed outputs identifier
    → (length response ≤ limit) × (length outputs ≤ vrf_outputs_limit) × (length identifier ≡ identifier_length)
lengths_short limit response configuration signed outputs identifier e =
    let (a, e1) = every_cons _ _ (sym e) in
    let (_, e2) = every_cons _ _ e1 in
    let (_, e3) = every_cons _ _ e2 in
    let (o, e4) = every_cons _ _ e3 in
    let (b, _) = every_cons _ _ e4 in (
      leb-true (length response) limit a,
      leb-true (length outputs) vrf_outputs_limit o,
      eqb-true (length identifier) identifier_length b,
    )

module _ (limit : ℕ) (response configuration identifier : Bytes) (clock : ℕ) (outputs signed : Bytes) where
  -- what a call is given
  abbrev inputs : Option Kind → ℕ → Inputs
  inputs kind room = inputs_within limit kind (arguments_of response configuration identifier clock outputs) signed room

  -- whether the lengths fit
  abbrev fits : Bool
  fits = are_lengths_fit limit response configuration signed outputs identifier

  -- as the rules say
  lengths-same : (kind : Option Kind) (room : ℕ) → lengths_fit (inputs kind room) ≡ fits
  unfolding lengths_fit inputs_within arguments_of
  lengths-same kind room = refl

  module _ (valid : Bool) (size timestamp : ℕ) where
    -- what comes of the reading
    abbrev Reads : Result CallBlock Refusal → Type 0
    Reads x = IsReadCall limit response configuration valid size timestamp identifier clock outputs signed x

    -- 1: a length does not fit
    pub inputs_long : false ≡ fits → Reads (Err Length)
    inputs_long e st _ _ kind room = given-long st (inputs kind room) (lengths-same kind room ∙ sym e)

    module _ (l : true ≡ fits) where
      -- 2: there is no configuration
      pub inputs-unconfigured : read_configuration configuration ≡ none → Reads (Err NoConfiguration)
      unfolding inputs_within arguments_of
      inputs-unconfigured e st _ _ kind room =
          given-unconfigured st (inputs kind room) (lengths-same kind room ∙ sym l) e

      module _ (k : ConfigurationBlock) (eg : read_configuration configuration ≡ some (configuration_in configuration k)) where
        abbrev read : Configuration
        read = configuration_in configuration k

        -- 3: the state is not valid
        pub inputs-invalid : valid ≡ false → Reads (Err NoState)
        unfolding inputs_within arguments_of
        inputs-invalid e st v _ kind room =
            given-invalid st (inputs kind room) (lengths-same kind room ∙ sym l) read eg
            (given_none (valid_state st) (sym v ∙ e))

        module _ (y : valid ≡ true) where
          -- 4: there are no outputs
          pub inputs-outputless : false ≡ is_some (read_outputs outputs) → Reads (Err NoOutputs)
          unfolding inputs_within arguments_of
          inputs-outputless e st v _ kind room =
              let (s, es) = given_some (valid_state st) (sym v ∙ y) in
              given-outputless st (inputs kind room) (lengths-same kind room ∙ sym l) read eg s es
              (given_none (read_outputs outputs) (sym e))

          module _ (o : true ≡ is_some (read_outputs outputs)) where
            -- 5: there is no response
            pub inputs-broken : read_response response ≡ none → Reads (Err NoLines)
            unfolding inputs_within arguments_of
            inputs-broken e st v _ kind room =
                let (s, es) = given_some (valid_state st) (sym v ∙ y) in
                let (os, eo) = given_some (read_outputs outputs) (sym o) in
                given_broken st (inputs kind room) (lengths-same kind room ∙ sym l) read eg s es os eo e

            -- all others: the call was read
            pub inputs_read : limit ≤ offset_bound → (r : Response) → Offsets response (Some r)
                → read_response response ≡ some (parts_in response r)
                → Reads (Ok (record {
                  configuration = k;
                  response = r;
                  clock = clock;
                  kept_size = size;
                  kept_timestamp = timestamp;
                }))
            unfolding inputs_within arguments_of
            inputs_read b r p e st v kept =
                let (short, few, named) = lengths_short limit response configuration signed outputs identifier l in
                let (s, es) = given_some (valid_state st) (sym v ∙ y) in
                let (os, eo) = given_some (read_outputs outputs) (sym o) in
                let was = (valid_some st s es).0 in (
                  record {
                    valid = sym v ∙ y;
                    offsets = p;
                    read = e;
                    short = omega arith;
                    identifier = named;
                    outputs = sym o;
                    few = few;
                  },
                  refl,
                  λ kind room. (
                    record { inputs = inputs kind room; configuration = read; state = s; outputs = os; parts = parts_in response r },
                    given-read st (inputs kind room) (lengths-same kind room ∙ sym l) read eg s es os eo (parts_in response r) e,
                    record {
                      call = record {
                        parts = refl;
                        configuration = refl;
                        clock = refl;
                        size = (kept s was).0;
                        timestamp = (kept s was).1;
                        outputs = eo;
                      };
                      inputs = refl;
                      state = was;
                    },
                  ),
                )

-- ---- the state of a struct

-- the size and the time that a struct keeps are those of the state that it stands for
pub log_kept : (b : StateBlock) (s : State) → state_of b ≡ some s → (s.log.size ≡ b.log.size) × (s.log.timestamp ≡ b.log.timestamp)
unfolding state_of contents log_in
log_kept b s e =
    let (_, q) = provided_some (room_is_zero b) (contents b) s e in
    (ap (λ (x : State). x.log.size) (sym q), ap (λ (x : State). x.log.timestamp) (sym q))
