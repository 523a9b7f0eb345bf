-- Laws of the struct of a state (specs/State.antt): it and the state stand for each other, and its
-- tests decide whether the state is valid.
use mathlib.Core.Path.{◌≡◌, refl, sym, ◌∙◌, ap}
use mathlib.Core.Bool.{Bool, true, false, ◌&&◌, ◌||◌}
use mathlib.Core.List.{List, flatten, Memᴰ}
use mathlib.Core.Option.{some}
use Prim.Native.Nat.{ℕ, ◌*◌, ◌≤◌}
use native.Mathlib.Omega.{arith}
use lib.Count.{ones}
use lib.Dec.{eqb, leb, ltb}
use lib.ListN.{length, take, replicate, length-take, length-map}
use lib.Seq.{length-take-le}
use borrow.Author.Tests.{le-leb, lt-ltb, eq-eqb, leb-true}
use Rattle.lists.specs.Choice.{is_some, provided}
use Rattle.lists.specs.Lists.{Bytes, all, every, rising, runs}
use Rattle.lists.proofs.ChoiceLaws.{same_test, and_holds, holds_and, provided_true, provided_some}
use Rattle.lists.proofs.ChoiceLaws.{given_provided}
use Rattle.lists.proofs.ListLaws.{all_mapped, every_cons}
use Rattle.hash.specs.Bytes.{padded}
use Rattle.hash.proofs.BytesLaws.{take_padded}
use Rattle.tree.specs.LogTree.{full_subtrees}
use Rattle.tree.specs.LogHead.{level_limit}
use Rattle.tree.proofs.DecisionLaws.{ones_limit}
use Rattle.tree.proofs.FullLaws.{full_length}
use Rattle.tree.proofs.RunLaws.{length_runs, length-joined}
use Rattle.rules.specs.Limits.{label_limit, tree_size_limit, greatest_version, map_limit, hash_length}
use Rattle.rules.specs.Limits.{values_block_length, number_bound}
use Rattle.rules.specs.State.{MapEntry, KeptLog, State, positions, versions, is_valid, empty_state}
use Rattle.rules.specs.Refusals.{valid_state}
use Rattle.rules.proofs.StateLaws.{Valid, valid_was}
use Rattle.rules.proofs.RefusalLaws.{valid_some}
use Rattle.inputs.specs.declared.state.Label.{Label as LabelBlock}
use Rattle.inputs.specs.declared.state.State.{State as StateBlock}
use Rattle.inputs.specs.State.{label_block, log_block, map_block, block_of, map_of, label_in, log_in, map_in}
use Rattle.inputs.specs.State.{contents, zeros_from, room_is_zero, state_of}
use Rattle.inputs.specs.State.{label_fits, log_fits, pairs_fit, map_fits}
use Rattle.inputs.proofs.RoomLaws.{padded_room, room_padded, joined_padded, joined_runs, runs_whole}
use Rattle.inputs.proofs.PairLaws.{map_positions, map_versions, map_length, map_made}

-- ---- the struct of a state, and the state of a struct

-- its arrays have their lengths
pub record Sized (b : StateBlock) : Type 0 where
  pub label_room : length b.label.bytes ≡ label_limit
  pub values_room : length b.log.values ≡ values_block_length
  pub positions_room : length b.map.positions ≡ map_limit
  pub versions_room : length b.map.versions ≡ map_limit

-- what the tests of its room say: label and pairs fit, and zeros follow label, values and pairs
record RoomFits (b : StateBlock) : Type 0 where
  label_length : b.label.length ≤ label_limit
  label_ends : zeros_from b.label.length b.label.bytes ≡ true
  values_end : zeros_from (hash_length * ones b.log.size) b.log.values ≡ true
  pairs_count : b.map.count ≤ map_limit
  positions_end : zeros_from b.map.count b.map.positions ≡ true
  versions_end : zeros_from b.map.count b.map.versions ≡ true

-- a struct whose room is zero passes each test
room_was : (b : StateBlock) → room_is_zero b ≡ true → RoomFits b
unfolding room_is_zero
room_was b e =
    let (l, e1) = every_cons _ _ e in
    let (z, e2) = every_cons _ _ e1 in
    let (v, e3) = every_cons _ _ e2 in
    let (m, e4) = every_cons _ _ e3 in
    let (p, e5) = every_cons _ _ e4 in
    let (q, e6) = every_cons _ _ e5 in
    record {
      label_length = leb-true _ _ l;
      label_ends = z;
      values_end = v;
      pairs_count =
          leb-true _ _ m;
      positions_end = p;
      versions_end = q;
    }

-- a struct that passes each test has zeros in its room
room_is : (b : StateBlock) → RoomFits b → room_is_zero b ≡ true
unfolding room_is_zero every
room_is b r =
    let l : leb b.label.length label_limit ≡ true = le-leb _ _ r.label_length in
    let m : leb b.map.count map_limit ≡ true = le-leb _ _ r.pairs_count in
    rw (l, r.label_ends, r.values_end, m, r.positions_end, r.versions_end) refl

-- as many positions and versions are used as it says that there are pairs
pairs_used : (b : StateBlock) → Sized b → RoomFits b
    → (length (take b.map.count b.map.positions) ≡ b.map.count)
    × (length (take b.map.count b.map.positions) ≡ length (take b.map.count b.map.versions))
pairs_used b z r =
    let p = length-take-le b.map.count b.map.positions (omega (arith, r.pairs_count, z.positions_room)) in
    let v = length-take-le b.map.count b.map.versions (omega (arith, r.pairs_count, z.versions_room)) in
    (p, p ∙ sym v)

-- the values of a valid state, joined, take as much room as its size says
values_length : (s : State) → Valid s → (length s.log.values ≡ ones s.log.size)
    × (length (flatten s.log.values) ≡ hash_length * ones s.log.size)
values_length s v =
    let n = v.values_count ∙ full_length s.log.size in
    (n, length-joined hash_length s.log.values v.value_length ∙ ap (λ (k : ℕ). hash_length * k) n)

-- the struct of a valid state fits, and its unused room is zero
block_room : (s : State) → Valid s → RoomFits (block_of s)
unfolding block_of label_block log_block map_block
block_room s v =
    record {
      label_length = v.label_fits;
      label_ends = padded_room label_limit (length s.label) s.label refl;
      values_end =
          padded_room values_block_length (hash_length * ones s.log.size) (flatten s.log.values) (values_length s v).1;
      pairs_count = v.map_fits;
      positions_end =
          padded_room map_limit (length s.monitoring_map) (positions s.monitoring_map)
          (length-map s.monitoring_map (λ (x : MapEntry). x.position));
      versions_end =
          padded_room map_limit (length s.monitoring_map) (versions s.monitoring_map)
          (length-map s.monitoring_map (λ (x : MapEntry). x.version));
    }

-- what fills the struct of a label is the label
pub label_contents : (label : Bytes) → label_in (label_block label) ≡ label
unfolding label_in label_block
label_contents label = take_padded label_limit (length label) label refl

-- what fills that of a log is the log, if it has as many values as its size tells, each of its
-- length
pub log_contents : (k : KeptLog) → length k.values ≡ ones k.size
    → ((v : Bytes) → Memᴰ v k.values → length v ≡ hash_length)
    → log_in (log_block k) ≡ k
unfolding log_in log_block
log_contents k n h = rw (joined_padded hash_length (ones k.size) values_block_length k.values n h) refl

-- what fills that of a map is the map
pub map_contents : (es : List MapEntry) → map_in (map_block es) ≡ es
unfolding map_in map_block
map_contents es =
    let p = take_padded map_limit (length es) (positions es) (length-map es (λ (x : MapEntry). x.position)) in
    let q = take_padded map_limit (length es) (versions es) (length-map es (λ (x : MapEntry). x.version)) in
    rw (p, q) (map_made es)

-- so what fills that of a state is the state
pub block_contents : (s : State) → length s.log.values ≡ ones s.log.size
    → ((v : Bytes) → Memᴰ v s.log.values → length v ≡ hash_length) → contents (block_of s) ≡ s
unfolding contents block_of
block_contents s n h = rw (label_contents s.label, log_contents s.log n h, map_contents s.monitoring_map) refl

-- the struct of a valid state stands for it
pub block_state : (s : State) → is_valid s ≡ true → state_of (block_of s) ≡ some s
unfolding state_of
block_state s e =
    let v = valid_was s e in
    provided_true (room_is_zero (block_of s)) (contents (block_of s)) (room_is (block_of s) (block_room s v))
    ∙ ap some (block_contents s (values_length s v).0 v.value_length)

-- the struct of the label that fills a struct is that struct
label_block_lem : (b : StateBlock) → Sized b → RoomFits b → label_block (label_in b.label) ≡ b.label
unfolding label_in label_block
label_block_lem b z r =
    let l : length (take b.label.length b.label.bytes) ≡ b.label.length =
    length-take-le b.label.length b.label.bytes (omega (arith, r.label_length, z.label_room)) in
    rw (l, room_padded label_limit b.label.length b.label.bytes z.label_room r.label_length r.label_ends) refl

-- so is that of the log, under a size that is not too large
log_block_lem : (b : StateBlock) → Sized b → RoomFits b → b.log.size ≤ tree_size_limit → log_block (log_in b.log)
    ≡ b.log
unfolding log_in log_block
log_block_lem b z r f =
    let n = hash_length * ones b.log.size in
    let o : n ≤ values_block_length = omega (arith, ones_limit level_limit b.log.size (omega arith) f) in
    rw (
      joined_runs (ones b.log.size) hash_length b.log.values,
      room_padded values_block_length n b.log.values z.values_room o r.values_end,
    )
    refl

-- and that of the map
map_block_lem : (b : StateBlock) → Sized b → RoomFits b → map_block (map_in b.map) ≡ b.map
unfolding map_in map_block
map_block_lem b z r =
    let ps = take b.map.count b.map.positions in
    let vs = take b.map.count b.map.versions in
    let (n, e) = pairs_used b z r in
    rw (
      map_positions ps vs e,
      map_versions ps vs e,
      map_length ps vs e,
      n,
      room_padded map_limit b.map.count b.map.positions z.positions_room r.pairs_count r.positions_end,
      room_padded map_limit b.map.count b.map.versions z.versions_room r.pairs_count r.versions_end,
    )
    refl

-- and that of the whole state
contents_block : (b : StateBlock) → Sized b → RoomFits b → b.log.size ≤ tree_size_limit → block_of (contents b) ≡ b
unfolding contents block_of
contents_block b z r f = rw (label_block_lem b z r, log_block_lem b z r f, map_block_lem b z r) refl

-- what a struct stands for, if it is valid, has that struct
pub state_block : (b : StateBlock) (s : State) → Sized b → valid_state (state_of b) ≡ some s → block_of s ≡ b
unfolding state_of contents log_in
state_block b s z h =
    let (e, t) = valid_some (state_of b) s h in
    let (r, c) = provided_some (room_is_zero b) (contents b) s e in
    ap block_of (sym c) ∙ contents_block b z (room_was b r) (valid_was (contents b) (ap is_valid c ∙ t)).size_fits

-- the struct of a valid state stands for it, and for a valid one
pub block_stands : (s : State) → is_valid s ≡ true → valid_state (state_of (block_of s)) ≡ some s
unfolding valid_state
block_stands s e = rw (block_state s e) (provided_true (is_valid s) s e)

-- ---- the tests of a struct

-- a state under a test is given and valid where the test holds and it is valid
given_valid : (t : Bool) (s : State) → is_some (valid_state (provided t s)) ≡ (t && is_valid s)
unfolding is_some valid_state provided
given_valid true s = given_provided (is_valid s) s
given_valid false s = refl

-- where a struct fits and the state that fills it is valid, the tests hold
valid_tested : (b : StateBlock) → Sized b → RoomFits b → Valid (contents b)
    → (label_fits b.label && log_fits b.log && map_fits b.log.size b.map) ≡ true
unfolding contents label_in log_in map_in label_fits log_fits pairs_fit map_fits
valid_tested b z r v =
    let ps = take b.map.count b.map.positions in
    let vs = take b.map.count b.map.versions in
    let m = map_of ps vs in
    let (n, e) = pairs_used b z r in
    let ep = map_positions ps vs e in
    let ev = map_versions ps vs e in
    let a : leb b.label.length label_limit ≡ true = le-leb _ _ r.label_length in
    let c : leb b.log.size tree_size_limit ≡ true = le-leb _ _ v.size_fits in
    let d : leb b.map.count map_limit ≡ true = le-leb _ _ r.pairs_count in
    let f = all_mapped (λ (p : ℕ). ltb p b.log.size) (λ (x : MapEntry). x.position) m
    (λ x i. lt-ltb _ _ (v.position_fits x i)) in
    let g = all_mapped (λ (n : ℕ). leb n greatest_version) (λ (x : MapEntry). x.version) m
    (λ x i. le-leb _ _ (v.version_fits x i)) in
    rw (
      a,
      r.label_ends,
      c,
      v.timestamp_fits,
      r.values_end,
      d,
      r.positions_end,
      r.versions_end,
      rw ep at v.map_rises,
      rw ep at f,
      rw ev at g,
    ) refl

-- what the tests of a struct say
record Tested (b : StateBlock) : Type 0 where
  room : RoomFits b
  size_fits : b.log.size ≤ tree_size_limit
  timestamp_fits : (ltb 0 b.log.size || eqb b.log.timestamp 0) ≡ true
  positions_rise : rising (take b.map.count b.map.positions) ≡ true
  positions_fit : all (λ (p : ℕ). ltb p b.log.size) (take b.map.count b.map.positions) ≡ true
  versions_fit : all (λ (v : ℕ). leb v greatest_version) (take b.map.count b.map.versions) ≡ true

-- where they hold, each does
tested_was : (b : StateBlock) → (label_fits b.label && log_fits b.log && map_fits b.log.size b.map) ≡ true → Tested b
unfolding label_fits log_fits pairs_fit map_fits
tested_was b e =
    let (lg, m) = and_holds (label_fits b.label && log_fits b.log) (map_fits b.log.size b.map) e in
    let (l, g) = and_holds (label_fits b.label) (log_fits b.log) lg in
    let (l0, l1) = and_holds _ _ l in
    let (g0, g1) = and_holds _ _ g in
    let (g2, g3) = and_holds _ _ g0 in
    let (m0, m1) = and_holds _ _ m in
    let (m2, m3) = and_holds _ _ m0 in
    let (p, v) = and_holds _ _ m3 in
    let (risen, few) = and_holds _ _ m1 in
    let (rise, below) = and_holds _ _ risen in
    record {
      room =
          record {
            label_length = leb-true _ _ l0;
            label_ends = l1;
            values_end = g1;
            pairs_count = leb-true _ _ m2;
            positions_end = p;
            versions_end = v;
          };
      size_fits = leb-true _ _ g2;
      timestamp_fits = g3;
      positions_rise = rise;
      positions_fit = below;
      versions_fit = few;
    }

-- where the tests of a struct hold, the state that fills it is valid
tested_valid : (b : StateBlock) → Sized b → b.log.timestamp ≤ number_bound → Tested b → is_valid (contents b) ≡ true
unfolding is_valid contents label_in log_in map_in every
tested_valid b z h t =
    let ps = take b.map.count b.map.positions in
    let vs = take b.map.count b.map.versions in
    let vals = runs (ones b.log.size) hash_length b.log.values in
    let (k, e) = pairs_used b z t.room in
    let f : length (map_of ps vs) ≤ map_limit = omega (arith, map_length ps vs e, t.room.pairs_count) in
    let o : hash_length * ones b.log.size ≤ length b.log.values =
    omega (arith, ones_limit level_limit b.log.size (omega arith) t.size_fits, z.values_room) in
    let l : length (take b.label.length b.label.bytes) ≤ label_limit =
    omega (arith, length-take b.label.length b.label.bytes, t.room.label_length) in
    let n : length vals ≡ length (full_subtrees b.log.size) = length_runs (ones b.log.size) hash_length b.log.values
    ∙ sym (full_length b.log.size) in
    rw (
      le-leb (length (take b.label.length b.label.bytes)) label_limit l,
      le-leb b.log.size tree_size_limit t.size_fits,
      le-leb b.log.timestamp number_bound h,
      t.timestamp_fits,
      eq-eqb (length vals) (length (full_subtrees b.log.size)) n,
      runs_whole (ones b.log.size) hash_length b.log.values o,
      le-leb (length (map_of ps vs)) map_limit f,
      map_positions ps vs e,
      map_versions ps vs e,
      t.positions_rise,
      t.positions_fit,
      t.versions_fit,
    )
    refl

-- the tests decide whether a struct stands for a valid state
pub block_valid : (b : StateBlock) → Sized b → b.log.timestamp ≤ number_bound
    → (label_fits b.label && log_fits b.log && map_fits b.log.size b.map) ≡ is_some (valid_state (state_of b))
unfolding state_of
block_valid b z h =
    same_test (label_fits b.label && log_fits b.log && map_fits b.log.size b.map)
    (room_is_zero b && is_valid (contents b))
    (λ e. let t = tested_was b e in
    holds_and (room_is_zero b) (is_valid (contents b)) (room_is b t.room) (tested_valid b z h t))
    (λ e. let (r, v) = and_holds (room_is_zero b) (is_valid (contents b)) e in
    valid_tested b z (room_was b r) (valid_was (contents b) v))
    ∙ sym (given_valid (room_is_zero b) (contents b))

-- ---- empty states

-- a label, and zeros in all other room, are the empty state of the label
pub empty_block : (label : Bytes) (b : LabelBlock) → b ≡ label_block label
    → ◌≡◌ {A = StateBlock}
    (record {
      label = b;
      log = record { size = 0; timestamp = 0; values = replicate values_block_length 0 };
      map = record { positions = replicate map_limit 0; versions = replicate map_limit 0; count = 0 };
    })
    (block_of (empty_state label))
unfolding block_of log_block map_block empty_state padded flatten
empty_block label b e = rw e refl
