-- Laws of the struct of a state (inputs' specs/State.antt): what is known of that of a valid state,
-- and that of the state after an accepted call.
use mathlib.Core.Path.{◌≡◌, refl, sym, ap, ◌∙◌}
use mathlib.Core.Bool.{true}
use mathlib.Core.Option.{some, some-injective}
use Prim.Native.Nat.{ℕ, ◌≤◌}
use native.Mathlib.Omega.{arith}
use lib.Dec.{leb}
use lib.ListN.{take}
use borrow.Author.Tests.{le-leb}
use Rattle.lists.specs.Choice.{is_some}
use Rattle.lists.specs.Lists.{Bytes}
use Rattle.lists.proofs.ChoiceLaws.{given_some, provided_some}
use Rattle.lists.proofs.ListLaws.{all_mapped}
use Rattle.rules.specs.Limits.{label_limit, greatest_version}
use Rattle.rules.specs.State.{MapEntry, State}
use Rattle.rules.specs.Refusals.{Call, valid_state, map_after, last_timestamp}
use Rattle.rules.specs.Calls.{next_log, next_state}
use Rattle.rules.proofs.StateLaws.{valid_was}
use Rattle.rules.proofs.RefusalLaws.{valid_some}
use Rattle.inputs.specs.declared.state.MonitoringMap.{MonitoringMap}
use Rattle.inputs.specs.declared.state.State.{State as StateBlock}
use Rattle.inputs.specs.State.{label_block, log_block, block_of, state_of, contents, room_is_zero}
use Rattle.inputs.proofs.StateBlockLaws.{Sized, state_block}
use Rattle.inputs.proofs.StateWriterLaws.{valid_fits}
use Rattle.checks.specs.declared.readings.Call.{Call as CallBlock}
use Rattle.checks.specs.Calls.{Readable, Checkable, values_block}
use Rattle.checks.specs.Map.{IsMap, Holds}
use Rattle.checks.specs.MonitoredVersions.{ArePairs}
use Rattle.checks.proofs.MapBlockLaws.{filled, block_holds, held-block, held-versions}
use Rattle.checks.proofs.MapBlockLaws.{held-map}

-- ---- the struct of a valid state

-- what a struct stands for is what fills it
pub stands_for : (b : StateBlock) (s : State) → state_of b ≡ some s → s ≡ contents b
unfolding state_of
stands_for b s e = let (_, q) = provided_some (room_is_zero b) (contents b) s e in sym q

-- what is known of the struct of a valid state
pub record Struct (b : StateBlock) : Type 0 where
  pub is_struct : (s : State) → state_of b ≡ some s → block_of s ≡ b
  pub label_fits : b.label.length ≤ label_limit
  pub is_map : IsMap b.map
  pub pairs : ArePairs (take b.map.count b.map.positions) (take b.map.count b.map.versions)

-- it is known, from the state that it stands for
pub valid_struct : (b : StateBlock) → Sized b → is_some (valid_state (state_of b)) ≡ true → Struct b
unfolding block_of
valid_struct b z h =
    let (s, q) = given_some (valid_state (state_of b)) h in
    let (o, t) = valid_some (state_of b) s q in
    let e = state_block b s z q in
    let v = valid_was s t in
    let m = s.monitoring_map in
    let held : Holds m b.map = block_holds m b.map (ap (λ (x : StateBlock). x.map) (sym e)) in
    let k = held-map m b.map held v.map_rises v.map_fits in
    let p = filled b.map.count b.map.positions k.few k.positions in
    let w = filled b.map.count b.map.versions k.few k.versions in
    record {
      is_struct = λ y a. ap block_of (some-injective y s (sym a ∙ o)) ∙ e;
      label_fits = (valid_fits b h).label;
      is_map = k;
      pairs = record {
        alike = p ∙ sym w;
        few = omega (arith, p, k.few);
        versions = rw (held-versions m b.map held)
            (all_mapped (λ (n : ℕ). leb n greatest_version) (λ (x : MapEntry). x.version) m
            (λ x i. le-leb x.version greatest_version (v.version_fits x i)));
      };
    }

-- with a call that was read it can be tried
pub struct_checkable : (b : StateBlock) → Sized b
    → (text : Bytes) (k : CallBlock) (identifier outputs : Bytes)
    → Readable (state_of b) text k identifier outputs
    → Checkable text k identifier b outputs
struct_checkable b z text k identifier outputs h =
    let x = valid_struct b z h.valid in
    record {
      offsets = h.offsets;
      read = h.read;
      short = h.short;
      identifier = h.identifier;
      outputs = h.few;
      label_within = omega (arith, x.label_fits, z.label_room);
      label_fits = x.label_fits;
      positions_within = omega (arith, x.is_map.few, z.positions_room);
      versions_within = omega (arith, x.is_map.few, z.versions_room);
      pairs = x.pairs;
    }

-- ---- the struct of the new state

-- the struct that is made of the label, of what the response shows of the log, and of the new map
abbrev pub made : StateBlock → ℕ → ℕ → Bytes → MonitoringMap → StateBlock
made b size timestamp values m =
    record {
      label = b.label;
      log = record { size = size; timestamp = timestamp; values = values };
      map = m;
    }

-- is that of the new state
pub made_next : (b : StateBlock) (size timestamp : ℕ) (values : Bytes) (m : MonitoringMap) (c : Call)
    → block_of c.state ≡ b
    → size ≡ c.parts.tree_size → timestamp ≡ last_timestamp c → values ≡ values_block c → Holds (map_after c) m
    → made b size timestamp values m ≡ block_of (next_state c)
unfolding block_of log_block next_state next_log
made_next b size timestamp values m c e n t v h =
    let l : b.label ≡ label_block c.state.label = ap (λ (x : StateBlock). x.label) (sym e) in
    rw (l, n, t, v, held-block (map_after c) m h) refl
