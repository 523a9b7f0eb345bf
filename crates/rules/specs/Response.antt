-- The parts of a response, as reading yields them (paper 01, Response lines). Every rule after
-- refusal 5 is about these parts.
use Rattle.std.specs.Prelude.{Bool, true, false, List, map, ℕ}
use Rattle.std.proofs.Math.Option.{Option, none, some}
use Rattle.lists.specs.Lists.{Bytes}
use Rattle.tree.specs.LogTree.{LogEntry}

pub data Kind : Type 0 where
  search : Kind
  monitor : Kind

-- what a search found: the `target` line
pub record Target : Type 0 where
  pub version : ℕ
  pub opening : Bytes
  pub value : Bytes

-- the response's own kind, with its target
pub data Finding : Type 0 where
  searched : Target → Finding
  monitored : Finding

-- a `step` line; no commitment where it has `-`
pub record Step : Type 0 where
  pub version : ℕ
  pub commitment : Option Bytes

-- `in`; `no`; `nl` with the other leaf's output and commitment
pub data Result : Type 0 where
  included : Result
  absent : Result
  other_leaf : Bytes → Bytes → Result

pub record Lookup : Type 0 where
  pub version : ℕ
  pub result : Result
  pub siblings : List Bytes  -- from the root

-- an `entry` line, and the lookups after it
pub record Entry : Type 0 where
  pub position : ℕ
  pub timestamp : ℕ
  pub prefix_root : Bytes
  pub lookups : List Lookup

pub record Parts : Type 0 where
  pub identifier : Bytes
  pub label : Bytes
  pub tree_size : ℕ  -- n
  pub finding : Finding
  pub steps : List Step
  pub entries : List Entry
  pub nodes : List Bytes

unfoldable pub kind_of : Finding → Kind
kind_of (searched t) = search
kind_of monitored = monitor

unfoldable pub target_of : Finding → Option Target
target_of (searched t) = some t
target_of monitored = none

unfoldable pub is_included : Result → Bool
is_included included = true
is_included absent = false
is_included (other_leaf output commitment) = false

abbrev pub step_versions : Parts → List ℕ
step_versions parts = map (λ (s : Step). s.version) parts.steps

abbrev pub lookup_versions : Entry → List ℕ
lookup_versions e = map (λ (l : Lookup). l.version) e.lookups

abbrev pub entry_positions : Parts → List ℕ
entry_positions parts = map (λ (e : Entry). e.position) parts.entries

abbrev pub entry_timestamps : Parts → List ℕ
entry_timestamps parts = map (λ (e : Entry). e.timestamp) parts.entries

unfoldable pub log_entry : Entry → LogEntry
log_entry e = record { position = e.position; timestamp = e.timestamp; prefix_root = e.prefix_root }
