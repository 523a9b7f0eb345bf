-- Laws of refusals 9 to 11 (specs/Calls.antt), from what is found of the shape of a response, of
-- the number of its nodes and of the clock.
use mathlib.Core.Path.{◌≡◌, refl, sym, ap, ap₂, ◌∙◌}
use mathlib.Core.Bool.{Bool, true, false, not, ◌&&◌}
use mathlib.Core.List.{List, [], ◌∷◌}
use Prim.Native.Nat.{ℕ, ◌+◌}
use lib.Dec.{eqb, leb}
use lib.ListN.{length}
use borrow.Author.Tests.{eq-eqb, ne_eqb, not-true, not-false}
use Rattle.std.specs.Prelude.{Some, None}
use Rattle.lists.specs.Lists.{Bytes, all, every, same, unfalling}
use Rattle.lists.proofs.ChoiceLaws.{and_holds}
use Rattle.tree.specs.LogTree.{node_count}
use Rattle.tree.specs.LogHead.{known_in, nodes_asked}
use Rattle.rules.specs.Configuration.{Configuration}
use Rattle.rules.specs.Response.{Parts, step_versions, entry_timestamps}
use Rattle.rules.specs.Refusals.{Call, rule, kind_rules, asked, commitment_asked, entries_asked, log_walk}
use Rattle.rules.specs.Refusals.{not_as_asked, output_missing, timestamp_fits, last_timestamp, timestamps_wrong}
use Rattle.inputs.specs.Configuration.{configuration_in}
use Rattle.inputs.specs.State.{map_of}
use Rattle.inputs.specs.Response.{parts_in}
use Rattle.checks.specs.declared.readings.Call.{Call as CallBlock}
use Rattle.checks.specs.declared.trial.Shape.{Shape}
use Rattle.std.specs.Prelude.{Ok, Err, Result}
use Rattle.inputs.specs.declared.refusal.Refusal.{Refusal}
use Rattle.inputs.specs.declared.refusal.Refusal.TheVariants.{Shape as WrongShape, MissingOutput, Time}
use Rattle.inputs.specs.Refusal.{refusal_number}
use Rattle.checks.specs.Entries.{near_clock}
use Rattle.checks.specs.Calls.{IsCall, entries_text, number_tried, rules9to11}
use Rattle.checks.specs.Calls.{Shapeable, is_shaped, IsShape, Is9to11Tried}
use Rattle.checks.proofs.TrialLaws.{number-first, number-next, number_none}
use Rattle.checks.proofs.HeadCallLaws.{nodes-counted}

-- ---- the rules in two parts

-- of four tests in a row the last may stand apart
last_apart : (a b d e : Bool) → every (a ∷ b ∷ d ∷ e ∷ []) ≡ ((a && b && d) && e)
unfolding every
last_apart true true true true = refl
last_apart true true true false = refl
last_apart true true false e = refl
last_apart true false d e = refl
last_apart false b d e = refl

-- or the last two
two_apart : (a b d e : Bool) → every (a ∷ b ∷ d ∷ e ∷ []) ≡ ((a && b) && (d && e))
unfolding every
two_apart true true true true = refl
two_apart true true true false = refl
two_apart true true false e = refl
two_apart true false d e = refl
two_apart false b d e = refl

-- the nodes are as many as the walk takes
abbrev are_nodes_asked : Call → Bool
are_nodes_asked c = eqb (length c.parts.nodes) (node_count (log_walk c))

-- the entries are as asked
abbrev AreEntriesAsked : Call → Type 0
AreEntriesAsked c = entries_asked (kind_rules c).versions_fit (asked c) c.parts.entries ≡ true

-- 9: the shape, and the number of nodes
nine_parts : (c : Call) → not_as_asked c ≡ not (is_shaped c && are_nodes_asked c)
unfolding not_as_asked
nine_parts c = ap not (last_apart _ _ _ _)

-- a shape as asked has the entries asked for
shaped_entries : (c : Call) → is_shaped c ≡ true → AreEntriesAsked c
shaped_entries c e =
    (and_holds
    (same (step_versions c.parts) (kind_rules c).steps
    && all (commitment_asked (kind_rules c).is_committed) c.parts.steps)
    (entries_asked (kind_rules c).versions_fit (asked c) c.parts.entries) e).1

-- where it does not apply, the entries are as asked
pub entries_were : (c : Call) → not_as_asked c ≡ false → AreEntriesAsked c
entries_were c e =
    shaped_entries c (and_holds (is_shaped c) (are_nodes_asked c) (not-false _ (sym (nine_parts c) ∙ e))).0

-- the times of the entries fit each other and what is kept
abbrev are_timestamps_fit : Call → Bool
are_timestamps_fit c = unfalling (entry_timestamps c.parts) && all (timestamp_fits c.state.log) c.parts.entries

-- a time is near the clock of a call
abbrev is_near : CallBlock → ℕ → Bool
is_near k timestamp = near_clock timestamp k.clock k.configuration.ahead k.configuration.behind

-- 11: the times of the entries, and the clock
eleven_parts : {c : Call} {k : CallBlock} {text outputs : Bytes} → IsCall c k text outputs
    → timestamps_wrong c ≡ not (are_timestamps_fit c && is_near k (last_timestamp c))
unfolding timestamps_wrong configuration_in
eleven_parts {c} {k} i =
    let ahead : c.configuration.max_ahead ≡ k.configuration.ahead =
    ap (λ (x : Configuration). x.max_ahead) i.configuration in
    let behind : c.configuration.max_behind ≡ k.configuration.behind =
    ap (λ (x : Configuration). x.max_behind) i.configuration in
    ap not (two_apart _ _ _ _)
    ∙ ap₂ (λ (u v : Bool). not (are_timestamps_fit c && (u && v)))
    (ap₂ (λ (x y : ℕ). leb (last_timestamp c) (x + y)) i.clock ahead)
    (ap₂ (λ (x y : ℕ). leb x (last_timestamp c + y)) i.clock behind)

-- ---- the ways out

module _ {text : Bytes} {k : CallBlock} {ps vs : List ℕ} {outputs : Bytes}
    (p : Shapeable text k ps vs outputs) (offsets : List ℕ)
  where
    -- what is said of each call that the arguments stand for
    abbrev Each : (Call → Type 0) → Type 0
    Each P = (c : Call) → IsCall c k text outputs → c.state.monitoring_map ≡ map_of ps vs → P c

    -- what comes of 9 to 11
    abbrev Told : Result ℕ Refusal → Type 0
    Told r = Is9to11Tried text k ps vs outputs r offsets

    -- a refusal
    told-refused : (e : Refusal) → Each (λ c. refusal_number e ≡ number_tried rules9to11 c) → Told (Err e)
    told-refused e f c i m = (f c i m, tt)

    -- steps, commitments or entries are not as asked
    pub shape-refused : IsShape text k ps vs outputs None offsets → Told (Err WrongShape)
    shape-refused h = told-refused WrongShape λ c i m. number-first 9 not_as_asked _ c
        (nine_parts c ∙ ap (λ (b : Bool). not (b && are_nodes_asked c)) (h c i m))

    module _ {shape : Shape} (h : IsShape text k ps vs outputs (Some shape) offsets) {s : Bytes} {n : ℕ}
        (is_entries : s ≡ entries_text text k)
        (is_asked : n ≡ nodes_asked k.response.tree_size (known_in s k.kept_size []))
      where
        -- then the number of nodes decides
        nine-left : Each (λ c. not_as_asked c ≡ not (eqb k.response.nodes.count n))
        unfolding parts_in
        nine-left c i m =
            let a : is_shaped c ≡ true = (h c i m).shaped in
            let given : length c.parts.nodes ≡ k.response.nodes.count =
            ap (λ (x : Parts). length x.nodes) i.parts ∙ sym p.triable.offsets.1.nodes in
            let wanted : node_count (log_walk c) ≡ n =
            sym (is_asked ∙ nodes-counted p c i (shaped_entries c a) s is_entries) in
            nine_parts c ∙ ap₂ (λ (b d : Bool). not (b && d)) a (ap₂ eqb given wanted)

        -- the nodes are not as many as asked
        pub nodes-refused : (n ≡ k.response.nodes.count → ⊥) → Told (Err WrongShape)
        nodes-refused f = told-refused WrongShape λ c i m. number-first 9 not_as_asked _ c
            (nine-left c i m ∙ ap not (ne_eqb _ _ (λ z. f (sym z))))

        module _ (same_count : n ≡ k.response.nodes.count) where
          -- and if they are, 9 does not apply
          nine-passed : Each (λ c. not_as_asked c ≡ false)
          nine-passed c i m = nine-left c i m ∙ ap not (eq-eqb _ _ (sym same_count))

          -- an output is missing
          pub outputs-refused : shape.outputs ≡ false → Told (Err MissingOutput)
          outputs-refused f = told-refused MissingOutput λ c i m.
              number-first 10 output_missing _ c (not-false _ (sym (h c i m).outputs ∙ f))
              ∙ number-next 9 not_as_asked _ c (nine-passed c i m)

          module _ (there : shape.outputs ≡ true) where
            -- then 11 is left
            timestamps-left : Each (λ c. number_tried (rule 11 timestamps_wrong ∷ []) c ≡ number_tried rules9to11 c)
            timestamps-left c i m =
                number-next 10 output_missing _ c (not-true _ (sym (h c i m).outputs ∙ there))
                ∙ number-next 9 not_as_asked _ c (nine-passed c i m)

            -- and the times and the clock decide
            eleven-left : Each (λ c. timestamps_wrong c ≡ not
                (shape.timestamps.fit && is_near k shape.timestamps.latest))
            eleven-left c i m =
                eleven_parts i
                ∙ ap₂ (λ (b : Bool) (t : ℕ). not (b && is_near k t))
                (sym (h c i m).timestamps) (sym (h c i m).timestamp)

            -- the times of the entries do not fit
            pub timestamps-refused : shape.timestamps.fit ≡ false → Told (Err Time)
            timestamps-refused f = told-refused Time λ c i m.
                number-first 11 timestamps_wrong _ c
                (eleven-left c i m ∙ ap (λ (b : Bool). not (b && is_near k shape.timestamps.latest)) f)
                ∙ timestamps-left c i m

            module _ (fit : shape.timestamps.fit ≡ true) {b : Bool}
                (is_clock : b ≡ is_near k shape.timestamps.latest) where
              -- then the clock decides
              clock-left : Each (λ c. timestamps_wrong c ≡ not b)
              clock-left c i m = eleven-left c i m ∙ ap₂ (λ (x y : Bool). not (x && y)) fit (sym is_clock)

              -- the time of the last entry is too far from it
              pub clock-refused : b ≡ false → Told (Err Time)
              clock-refused f = told-refused Time λ c i m.
                  number-first 11 timestamps_wrong _ c (clock-left c i m ∙ ap not f) ∙ timestamps-left c i m

              -- none of 9 to 11 applies
              pub tried_passed : b ≡ true → Told (Ok shape.timestamps.latest)
              tried_passed f c i m = (
                number_none c ∙ number-next 11 timestamps_wrong _ c (clock-left c i m ∙ ap not f)
                    ∙ timestamps-left c i m,
                ((h c i m).timestamp, (h c i m).stand there),
              )
