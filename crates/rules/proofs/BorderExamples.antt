-- The borders of the rules that need no hashing: what just passes and what just does not. antt
-- computes each one.
use mathlib.Core.Path.{◌≡◌, refl}
use mathlib.Core.Bool.{Bool, true, false}
use mathlib.Core.List.{List, [], ◌∷◌}
use mathlib.Core.Option.{Option, none, some}
use Prim.Native.Nat.{ℕ, ◌+◌, ◌-◌, ◌^◌}
use lib.ListN.{replicate}
use Rattle.lists.specs.Lists.{Bytes}
use Rattle.tree.specs.Ladder.{ladder}
use Rattle.rules.specs.Limits.{state_text_limit}
use Rattle.rules.specs.State.{MapEntry, State}
use Rattle.rules.specs.Response.{Finding, searched, monitored, Step, Result, included, absent, Lookup}
use Rattle.rules.specs.Response.{Entry, Parts, target_of}
use Rattle.rules.specs.Kinds.{KindRules}
use Rattle.rules.specs.Refusals.{Inputs, Call, refused, lengths_fit, rules_for, size_wrong, target_wrong}
use Rattle.rules.specs.Refusals.{commitment_asked}
use Rattle.rules.specs.Refusals.{entries_asked, timestamps_wrong, step_commitment, commitment_by}
use Rattle.rules.specs.Refusals.{room_missing}
use Rattle.rules.specs.Calls.{placed, text_judged, room_judged}
use Rattle.rules.proofs.Running.{opened, pair, blank_inputs, blank_configuration}
use Rattle.rules.proofs.FormExamples.{pairs_below}

-- ---- calls as read, with what the rule in question looks at

abbrev state : ℕ → ℕ → List MapEntry → State
state m t es = record { label = []; log = record { size = m; timestamp = t; values = [] }; monitoring_map = es }

abbrev target : ℕ → Bytes → Finding
target t v = searched (record { version = t; opening = []; value = v })

abbrev parts : ℕ → Finding → List Entry → Parts
parts n f es = record { identifier = []; label = []; tree_size = n; finding = f; steps = []; entries = es; nodes = [] }

abbrev entry : ℕ → ℕ → List Lookup → Entry
entry p t ls = record { position = p; timestamp = t; prefix_root = []; lookups = ls }

-- with a clock and bytes of output; max_ahead is 10 and max_behind 20
abbrev call : State → Parts → ℕ → ℕ → Call
call s p clock room =
    record { inputs = blank_inputs clock room; configuration = blank_configuration 10 20; state = s; outputs = []; parts = p }

-- what a kind asks
abbrev rules_of : Finding → KindRules
rules_of f = rules_for f (blank_configuration 10 20) (state 0 0 []) (parts 1 f [])

-- ---- 1

-- lengths of response, limit, configuration, identifier, sheet, signed text
abbrev lengths : ℕ → ℕ → ℕ → ℕ → ℕ → ℕ → Inputs
lengths r l c i v s =
    record {
      limit = l;
      kind = none;
      response = replicate r 0;
      configuration = replicate c 0;
      identifier = replicate i 0;
      clock = 0;
      vrf_outputs = replicate v 0;
      signed_text = replicate s 0;
      room = 0;
    }

pub record Lengths : Type 0 where
  pub all-at-limit : lengths_fit (lengths 100 100 2048 16 36864 2088) ≡ true
  pub response-over : lengths_fit (lengths 101 100 2048 16 36864 2088) ≡ false
  pub configuration-over : lengths_fit (lengths 100 100 2049 16 36864 2088) ≡ false
  pub identifier-over : lengths_fit (lengths 100 100 2048 17 36864 2088) ≡ false
  pub sheet-over : lengths_fit (lengths 100 100 2048 16 36865 2088) ≡ false
  pub signed-over : lengths_fit (lengths 100 100 2048 16 36864 2089) ≡ false

pub lengths_borders : Lengths
unfolding opened
lengths_borders =
    record { all-at-limit = refl; response-over = refl; configuration-over = refl; identifier-over = refl; sheet-over = refl; signed-over = refl }

-- ---- 7 and 8

abbrev wrong_size : ℕ → ℕ → Bool
wrong_size m n = size_wrong (call (state m 0 []) (parts n monitored []) 0 0)

abbrev wrong_target : ℕ → ℕ → Bool
wrong_target v t = target_wrong (call (state 1 0 (pair 0 v ∷ [])) (parts 1 (target t []) []) 0 0)

pub record SizeAndTarget : Type 0 where
  pub nothing : wrong_size 0 0 ≡ true
  pub largest : wrong_size 0 (2 ^ 40) ≡ false
  pub too_large : wrong_size 0 (2 ^ 40 + 1) ≡ true
  pub as-kept : wrong_size 5 5 ≡ false
  pub below-kept : wrong_size 5 4 ≡ true
  pub greatest-version : wrong_target 0 (2 ^ 32 - 2) ≡ false
  pub no-version : wrong_target 0 (2 ^ 32 - 1) ≡ true
  pub as-in-map : wrong_target 3 3 ≡ false
  pub below-map : wrong_target 3 2 ≡ true

pub size_and_target_borders : SizeAndTarget
unfolding opened
size_and_target_borders =
    record {
      nothing = refl;
      largest = refl;
      too_large = refl;
      as-kept = refl;
      below-kept = refl;
      greatest-version = refl;
      no-version = refl;
      as-in-map = refl;
      below-map = refl;
    }

-- ---- 9

abbrev step : ℕ → Option Bytes → Step
step v k = record { version = v; commitment = k }

abbrev committed : Finding → Step → Bool
committed f s = commitment_asked (rules_of f).is_committed s

abbrev versions_asked_lem : Finding → List ℕ → List ℕ → Bool
versions_asked_lem f wanted shown = (rules_of f).versions_fit wanted shown

pub record Commitments : Type 0 where
  pub monitoring-given : committed monitored (step 1 (some [])) ≡ true
  pub monitoring-left-out : committed monitored (step 1 none) ≡ false
  pub below-given : committed (target 2 []) (step 1 (some [])) ≡ true
  pub below-left-out : committed (target 2 []) (step 1 none) ≡ false
  pub target-given : committed (target 2 []) (step 2 (some [])) ≡ false
  pub target-left-out : committed (target 2 []) (step 2 none) ≡ true
  pub above-given : committed (target 2 []) (step 3 (some [])) ≡ false
  pub above-left-out : committed (target 2 []) (step 3 none) ≡ true
  pub one-lookup : versions_asked_lem (target 2 []) (ladder 2) (0 ∷ []) ≡ true
  pub no-lookup : versions_asked_lem (target 2 []) (ladder 2) [] ≡ false
  pub whole-ladder : versions_asked_lem (target 2 []) (ladder 2) (0 ∷ 1 ∷ 3 ∷ 2 ∷ []) ≡ true
  pub beyond-ladder : versions_asked_lem (target 2 []) (ladder 2) (0 ∷ 1 ∷ 3 ∷ 2 ∷ 4 ∷ []) ≡ false
  pub off-ladder : versions_asked_lem (target 2 []) (ladder 2) (0 ∷ 2 ∷ []) ≡ false
  pub monitoring-all : versions_asked_lem monitored (0 ∷ 1 ∷ []) (0 ∷ 1 ∷ []) ≡ true
  pub monitoring-some : versions_asked_lem monitored (0 ∷ 1 ∷ []) (0 ∷ []) ≡ false

pub commitments_borders : Commitments
unfolding opened
commitments_borders =
    record {
      monitoring-given = refl;
      monitoring-left-out = refl;
      below-given = refl;
      below-left-out = refl;
      target-given = refl;
      target-left-out = refl;
      above-given = refl;
      above-left-out = refl;
      one-lookup = refl;
      no-lookup = refl;
      whole-ladder = refl;
      beyond-ladder = refl;
      off-ladder = refl;
      monitoring-all = refl;
      monitoring-some = refl;
    }

-- two entries are asked, at 3 and 5, without lookups
abbrev asked_two : List Entry → Bool
asked_two es = entries_asked (versions_asked_lem monitored) (record { position = 3; versions = [] } ∷ record { position = 5; versions = [] } ∷ []) es

pub record Entries : Type 0 where
  pub as-asked : asked_two (entry 3 0 [] ∷ entry 5 0 [] ∷ []) ≡ true
  pub one-missing : asked_two (entry 3 0 [] ∷ []) ≡ false
  pub one-spare : asked_two (entry 3 0 [] ∷ entry 5 0 [] ∷ entry 6 0 [] ∷ []) ≡ false
  pub one_lower : asked_two (entry 3 0 [] ∷ entry 4 0 [] ∷ []) ≡ false
  pub one-higher : asked_two (entry 3 0 [] ∷ entry 6 0 [] ∷ []) ≡ false

pub entries_borders : Entries
unfolding opened
entries_borders = record { as-asked = refl; one-missing = refl; one-spare = refl; one_lower = refl; one-higher = refl }

-- ---- 11

-- two entries, at 7 and 11, with times; m is 8, the kept time 50
abbrev wrong_timestamps : ℕ → ℕ → ℕ → Bool
wrong_timestamps clock t u = timestamps_wrong (call (state 8 50 []) (parts 12 monitored (entry 7 t [] ∷ entry 11 u [] ∷ [])) clock 0)

pub record Timestamps : Type 0 where
  pub all-equal : wrong_timestamps 50 50 50 ≡ false
  pub below_later : wrong_timestamps 50 51 51 ≡ true
  pub above_earlier : wrong_timestamps 50 49 49 ≡ true
  pub rising : wrong_timestamps 50 49 51 ≡ false
  pub falling : timestamps_wrong (call (state 0 0 []) (parts 12 monitored (entry 7 51 [] ∷ entry 11 50 [] ∷ [])) 50 0) ≡ true
  pub at_ahead : wrong_timestamps 50 40 60 ≡ false
  pub beyond-ahead : wrong_timestamps 50 40 61 ≡ true
  pub at-behind : wrong_timestamps 70 40 50 ≡ false
  pub beyond-behind : wrong_timestamps 71 40 50 ≡ true
  -- sums are whole numbers
  pub far-ahead : wrong_timestamps (2 ^ 64 - 1) 40 (2 ^ 64 - 1) ≡ false

pub timestamps_borders : Timestamps
unfolding opened
timestamps_borders =
    record {
      all-equal = refl;
      below_later = refl;
      above_earlier = refl;
      rising = refl;
      falling = refl;
      at_ahead = refl;
      beyond-ahead = refl;
      at-behind = refl;
      beyond-behind = refl;
      far-ahead = refl;
    }

-- ---- 12

abbrev looked : ℕ → Result → Lookup
looked v r = record { version = v; result = r; siblings = [] }

pub record Paths : Type 0 where
  -- the step of the version itself
  pub own-step : step_commitment (step 0 (some (1 ∷ [])) ∷ step 1 (some (2 ∷ [])) ∷ step 3 (some (3 ∷ [])) ∷ []) 1 ≡ 2 ∷ []
  pub no_step : step_commitment (step 0 (some (1 ∷ [])) ∷ []) 1 ≡ []
  -- below t the step's commitment counts
  pub below-target : commitment_by (target_of (target 1 [])) [] (step 0 (some (1 ∷ [])) ∷ []) 0 ≡ 1 ∷ []
  pub tried-at-target : (rules_of (target 1 [])).untried (looked 1 included) ≡ false
  pub untried-above : (rules_of (target 1 [])).untried (looked 2 included) ≡ true
  pub absence-tried : (rules_of (target 1 [])).untried (looked 2 absent) ≡ false
  pub monitoring-tried : (rules_of monitored).untried (looked 2 included) ≡ false

pub paths_borders : Paths
unfolding opened
paths_borders =
    record {
      own-step = refl;
      no_step = refl;
      below-target = refl;
      tried-at-target = refl;
      untried-above = refl;
      absence-tried = refl;
      monitoring-tried = refl;
    }

-- ---- 16

-- an entry whose ladder of version 0 is complete
abbrev whole : ℕ → Entry
whole p =
    entry p 0
    (record { version = 0; result = included; siblings = [] } ∷ record { version = 1; result = absent; siblings = [] } ∷ [])

abbrev no_room : ℕ → ℕ → ℕ → Bytes → Bool
no_room k p room v = room_missing (call (state 64 0 (pairs_below k)) (parts 64 (target 0 v) (whole p ∷ [])) 0 room)

pub record Room : Type 0 where
  pub value-fits : no_room 0 0 2 (1 ∷ 2 ∷ []) ≡ false
  pub value-over : no_room 0 0 1 (1 ∷ 2 ∷ []) ≡ true
  pub last-pair : no_room 47 63 0 [] ≡ false
  pub pair-too-many : no_room 48 63 0 [] ≡ true
  pub old-position : no_room 48 47 0 [] ≡ false

pub room_borders : Room
unfolding opened pairs_below
room_borders = record { value-fits = refl; value-over = refl; last-pair = refl; pair-too-many = refl; old-position = refl }

-- ---- lent bytes

pub record Lent : Type 0 where
  pub fits-exactly : placed (replicate 5 7) 3 (1 ∷ 2 ∷ []) ≡ (2, 7 ∷ 7 ∷ 7 ∷ 1 ∷ 2 ∷ [])
  pub one-too-little : placed (replicate 5 7) 4 (1 ∷ 2 ∷ []) ≡ (16, replicate 5 7)
  pub past_the_end : placed (replicate 5 7) 6 (1 ∷ 2 ∷ []) ≡ (16, replicate 5 7)
  pub text-at-limit : text_judged (replicate state_text_limit 0) (refused 9) ≡ refused 9
  pub text-over : text_judged (replicate (state_text_limit + 1) 0) (refused 9) ≡ refused 1
  pub room-at-limit : room_judged (replicate state_text_limit 0) (refused 9) ≡ refused 9
  pub room-under : room_judged (replicate (state_text_limit - 1) 0) (refused 9) ≡ refused 1

pub lent_borders : Lent
unfolding opened
lent_borders =
    record {
      fits-exactly = refl;
      one-too-little = refl;
      past_the_end = refl;
      text-at-limit = refl;
      text-over = refl;
      room-at-limit = refl;
      room-under = refl;
    }
