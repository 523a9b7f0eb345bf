-- How the struct of a state stands for a state of the rules (paper 01, What a call is given): what
-- fills it, and zeros in its unused room.
use Rattle.std.specs.Prelude.{Bool, ◌&&◌, ◌||◌, ℕ, ◌*◌, eqb, leb, ltb, length, take, drop, Result, Ok, Err}
use mathlib.Core.List.{List, [], ◌∷◌, flatten}
use Rattle.std.proofs.Math.Option.{Option}
use Rattle.std.specs.Int.Count.{ones}
use Rattle.lists.specs.Choice.{provided}
use Rattle.lists.specs.Lists.{Bytes, all, every, runs}
use Rattle.hash.specs.Bytes.{padded}
use Rattle.tree.specs.LogWalk.{rising_below}
use Rattle.rules.specs.Limits.{label_limit, tree_size_limit, greatest_version, map_limit, hash_length}
use Rattle.rules.specs.Limits.{values_block_length}
use Rattle.rules.specs.State.{MapEntry, KeptLog, State, positions, versions, NumberedState}
use Rattle.inputs.specs.declared.state.Label.{Label as LabelBlock}
use Rattle.inputs.specs.declared.state.KeptLog.{KeptLog as KeptLogBlock}
use Rattle.inputs.specs.declared.state.MonitoringMap.{MonitoringMap as MonitoringMapBlock}
use Rattle.inputs.specs.declared.state.State.{State as StateBlock}
use Rattle.inputs.specs.declared.state.Refused.{Refused}
use Rattle.inputs.specs.Refusal.{refusal_number}

-- ---- the struct of a state

unfoldable pub label_block : Bytes → LabelBlock
label_block label = record { bytes = padded label_limit label; length = length label }

unfoldable pub log_block : KeptLog → KeptLogBlock
log_block k =
    record {
      size = k.size;
      timestamp = k.timestamp;
      values = padded values_block_length (flatten k.values);
    }

unfoldable pub map_block : List MapEntry → MonitoringMapBlock
map_block es =
    record {
      positions = padded map_limit (positions es);
      versions = padded map_limit (versions es);
      count = length es;
    }

unfoldable pub block_of : State → StateBlock
block_of s =
    record { label = label_block s.label; log = log_block s.log; map = map_block s.monitoring_map }

-- the struct of a state, and 0 or the number of a refusal
pub record NumberedBlock : Type 0 where
  pub number : ℕ
  pub state : StateBlock

unfoldable pub numbered_block : NumberedState → NumberedBlock
numbered_block n = record { number = n.number; state = block_of n.state }

-- a state that is given, or a refusal with its state
abbrev pub numbered_of : Result StateBlock Refused → NumberedBlock
numbered_of (Ok b) = record { number = 0; state = b }
numbered_of (Err r) = record { number = refusal_number r.refusal; state = r.state }

-- ---- the state of a struct

-- pairs from their positions and their versions
unfoldable pub map_of : List ℕ → List ℕ → List MapEntry
map_of [] vs = []
map_of (p ∷ ps) [] = []
map_of (p ∷ ps) (v ∷ vs) = record { position = p; version = v } ∷ map_of ps vs

-- what fills the struct: the label, the values of so many full subtrees, the pairs
unfoldable pub label_in : LabelBlock → Bytes
label_in b = take b.length b.bytes

unfoldable pub log_in : KeptLogBlock → KeptLog
log_in b =
    record {
      size = b.size;
      timestamp = b.timestamp;
      values = runs (ones b.size) hash_length
          b.values;
    }

unfoldable pub map_in : MonitoringMapBlock → List MapEntry
map_in b = map_of (take b.count b.positions) (take b.count b.versions)

unfoldable pub contents : StateBlock → State
contents b = record { label = label_in b.label; log = log_in b.log; monitoring_map = map_in b.map }

unfoldable pub zeros_from : ℕ → List ℕ → Bool
zeros_from k s = all (λ (x : ℕ). eqb x 0) (drop k s)

-- it fits, and the unused room is zero
unfoldable pub room_is_zero : StateBlock → Bool
room_is_zero b =
    every
    (leb b.label.length label_limit
    ∷ zeros_from b.label.length b.label.bytes
    ∷ zeros_from (hash_length * ones b.log.size) b.log.values
    ∷ leb b.map.count map_limit
    ∷ zeros_from b.map.count b.map.positions
    ∷ zeros_from b.map.count b.map.versions
    ∷ [])

-- the state that a struct stands for, if it stands for one
unfoldable pub state_of : StateBlock → Option State
state_of b = provided (room_is_zero b) (contents b)

-- ==== for contracts of private functions alone

-- the label is not too long, and zeros follow it
unfoldable pub label_fits : LabelBlock → Bool
label_fits b = leb b.length label_limit && zeros_from b.length b.bytes

-- the size is not too large, the time is zero where the size is, and zeros follow the values
unfoldable pub log_fits : KeptLogBlock → Bool
log_fits b =
    leb b.size tree_size_limit && (ltb 0 b.size || eqb b.timestamp 0)
    && zeros_from (hash_length * ones b.size) b.values

-- positions rise and are below the size, and no version is too great
unfoldable pub pairs_fit : ℕ → List ℕ → List ℕ → Bool
pairs_fit size ps vs = rising_below size ps && all (λ (v : ℕ). leb v greatest_version) vs

-- there are not too many pairs, zeros follow them, and they fit under a size
unfoldable pub map_fits : ℕ → MonitoringMapBlock → Bool
map_fits size b =
    leb b.count map_limit
    && (zeros_from b.count b.positions && zeros_from b.count b.versions)
    && pairs_fit size (take b.count b.positions) (take b.count b.versions)
