-- The state that is kept between calls (paper 01, What a call is given).
use Rattle.std.specs.Prelude.{Bool, ◌||◌, ℕ, eqb, leb, ltb, length}
use mathlib.Core.List.{List, [], ◌∷◌, map, Memᴰ}
use Rattle.lists.specs.Choice.{choose}
use Rattle.lists.specs.Lists.{Bytes, all, every, rising}
use Rattle.hash.specs.Bytes.{AreBytes}
use Rattle.tree.specs.LogTree.{full_subtrees}
use Rattle.rules.specs.Limits.{label_limit, tree_size_limit, greatest_version, map_limit, hash_length}
use Rattle.rules.specs.Limits.{number_bound}

-- a pair of the monitoring map
pub record MapEntry : Type 0 where
  pub position : ℕ
  pub version : ℕ

-- what is kept of the log: its size m, the time of entry m - 1, the values of its full subtrees
-- from left to right
pub record KeptLog : Type 0 where
  pub size : ℕ
  pub timestamp : ℕ
  pub values : List Bytes

pub record State : Type 0 where
  pub label : Bytes
  pub log : KeptLog
  pub monitoring_map : List MapEntry

abbrev pub positions : List MapEntry → List ℕ
positions es = map (λ (e : MapEntry). e.position) es

abbrev pub versions : List MapEntry → List ℕ
versions es = map (λ (e : MapEntry). e.version) es

unfoldable pub is_valid : State → Bool
is_valid s =
    every
    (leb (length s.label) label_limit
    ∷ leb s.log.size tree_size_limit
    ∷ leb s.log.timestamp number_bound
    ∷ (ltb 0 s.log.size || eqb s.log.timestamp 0)
    ∷ eqb (length s.log.values) (length (full_subtrees s.log.size))
    ∷ all (λ (v : Bytes). eqb (length v) hash_length) s.log.values
    ∷ leb (length s.monitoring_map) map_limit
    ∷ rising (positions s.monitoring_map)
    ∷ all (λ (p : ℕ). ltb p s.log.size) (positions s.monitoring_map)
    ∷ all (λ (v : ℕ). leb v greatest_version) (versions s.monitoring_map)
    ∷ [])

-- its label and values are bytes
abbrev pub HasBytes : State → Type 0
HasBytes s = AreBytes s.label × ((v : Bytes) → Memᴰ v s.log.values → AreBytes v)

unfoldable pub empty_state : Bytes → State
empty_state label =
    record { label = label; log = record { size = 0; timestamp = 0; values = [] }; monitoring_map = [] }

-- a state, and 0 or the number of a refusal
pub record NumberedState : Type 0 where
  pub number : ℕ
  pub state : State

-- the state to begin with, for a label
unfoldable pub new_state : Bytes → NumberedState
new_state label =
    choose (leb (length label) label_limit) (λ _. record { number = 0; state = empty_state label })
    (λ _. record { number = 1; state = empty_state [] })
