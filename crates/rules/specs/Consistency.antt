-- Demand 3 (paper 01, What the contracts owe): the two claims, stated whole. They are about
-- acceptance as `judge` has it, and about the real SHA-256.
use Rattle.std.specs.Prelude.{◌≡◌, ◌⊎◌, ℕ}
use mathlib.Core.List.{List, [], ◌∷◌, ◌++◌, map, flat_map, Memᴰ}
use Rattle.std.proofs.Math.Option.{Option, none, some}
use Rattle.hash.specs.Bytes.{AreBytes}
use Rattle.tree.specs.LogTree.{LogEntry}
use Rattle.tree.specs.Collisions.{Broken}
use Rattle.rules.specs.VrfOutputs.{output_of}
use Rattle.rules.specs.State.{State, HasBytes}
use Rattle.rules.specs.Response.{Target, searched, step_versions, log_entry}
use Rattle.rules.specs.Refusals.{Inputs, Call, Judgement, refused, passed, judge, log_root}
use Rattle.rules.specs.Calls.{state_after}
use Rattle.rules.specs.Hashed.{hashed}

-- ---- what is given are bytes: numbers below 256. Lists of other numbers stand for nothing that a
-- ---- call can get.

pub record AreByteInputs (i : Inputs) : Type 0 where
  pub response : AreBytes i.response
  pub configuration : AreBytes i.configuration
  pub identifier : AreBytes i.identifier
  pub vrf_outputs : AreBytes i.vrf_outputs
  pub signed_text : AreBytes i.signed_text

abbrev pub IsByteState : Option State → Type 0
IsByteState none = Unit {0}
IsByteState (some s) = HasBytes s

-- ---- the first claim: two searches agree

-- the sheets give equal outputs for each version that both searches use
abbrev pub OutputsAgree : Call → Call → Type 0
OutputsAgree c d =
    (v : ℕ) → Memᴰ v (step_versions c.parts) → Memᴰ v (step_versions d.parts)
    → output_of c.outputs v ≡ output_of d.outputs v

-- two accepted searches, from any two states, for one label, with one tree size and one log root,
-- whose sheets agree, yield one version, opening and value
abbrev pub SearchesAgree : Type 0
SearchesAgree =
    (s s' : Option State) (i i' : Inputs) (c c' : Call) (t t' : Target)
    → IsByteState s → IsByteState s' → AreByteInputs i → AreByteInputs i'
    → judge s i ≡ passed c → judge s' i' ≡ passed c'
    → c.parts.finding ≡ searched t → c'.parts.finding ≡ searched t'
    → c.parts.label ≡ c'.parts.label → c.parts.tree_size ≡ c'.parts.tree_size
    → log_root c ≡ log_root c' → OutputsAgree c c'
    → (t ≡ t') ⊎ Broken (hashed c ++ hashed c')

-- ---- the second claim: on a chain of calls each entry is shown with one time and one prefix root

-- the call, if it was accepted
unfoldable pub accepted : Judgement → List Call
accepted (refused k) = []
accepted (passed c) = c ∷ []

-- the accepted calls of a chain: each call gets the state that the last one returned
unfoldable pub accepted_calls : Option State → List Inputs → List Call
accepted_calls s [] = []
accepted_calls s (i ∷ is) = accepted (judge s i) ++ accepted_calls (state_after s (judge s i)) is

-- the entries that calls show, by their `entry` lines
unfoldable pub shown_by : List Call → List LogEntry
shown_by cs = flat_map (λ (c : Call). map log_entry c.parts.entries) cs

-- any two entries with one position have one time and one prefix root
abbrev pub Alike : List LogEntry → Type 0
Alike es =
    (x y : LogEntry) → Memᴰ x es → Memᴰ y es → x.position ≡ y.position
    → (x.timestamp ≡ y.timestamp) × (x.prefix_root ≡ y.prefix_root)

-- any list of calls, from any state
abbrev pub ChainsAgree : Type 0
ChainsAgree =
    (s : Option State) (is : List Inputs) → IsByteState s → ((i : Inputs) → Memᴰ i is → AreByteInputs i)
    → Alike (shown_by (accepted_calls s is)) ⊎ Broken (flat_map hashed (accepted_calls s is))
