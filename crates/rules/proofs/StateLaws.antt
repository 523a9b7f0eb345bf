-- What a valid state keeps to (specs/State.antt).
use mathlib.Core.Path.{◌≡◌, refl, ◌∙◌}
use mathlib.Core.Bool.{true, ◌||◌}
use mathlib.Core.List.{Memᴰ}
use Prim.Native.Nat.{ℕ, ◌*◌, ◌≤◌, ◌<◌}
use native.Mathlib.Omega.{arith}
use lib.Dec.{eqb, leb, ltb}
use lib.ListN.{length}
use borrow.Author.Tests.{le-leb, lt-ltb, eq-eqb, leb-true, ltb-true, eqb-true}
use Rattle.lists.specs.Lists.{Bytes, every, rising}
use Rattle.lists.proofs.ListLaws.{every_cons, all_at, at_all, mapped_at, all_mapped}
use Rattle.tree.specs.LogTree.{full_subtrees}
use Rattle.tree.specs.LogHead.{level_limit}
use Rattle.tree.proofs.FullLaws.{full_length}
use Rattle.tree.proofs.DecisionLaws.{ones_limit}
use Rattle.rules.specs.Limits.{label_limit, tree_size_limit, greatest_version, map_limit, hash_length}
use Rattle.rules.specs.Limits.{number_bound, values_block_length}
use Rattle.rules.specs.State.{MapEntry, State, positions, versions, is_valid}

-- what the tests of a state say
pub record Valid (s : State) : Type 0 where
  pub label_fits : length s.label ≤ label_limit
  pub size_fits : s.log.size ≤ tree_size_limit
  pub time_bound : s.log.timestamp ≤ number_bound
  pub timestamp_fits : (ltb 0 s.log.size || eqb s.log.timestamp 0) ≡ true
  pub values_count : length s.log.values ≡ length (full_subtrees s.log.size)
  pub value_length : (v : Bytes) → Memᴰ v s.log.values → length v ≡ hash_length
  pub map_fits : length s.monitoring_map ≤ map_limit
  pub map_rises : rising (positions s.monitoring_map) ≡ true
  pub position_fits : (e : MapEntry) → Memᴰ e s.monitoring_map → e.position < s.log.size
  pub version_fits : (e : MapEntry) → Memᴰ e s.monitoring_map → e.version ≤ greatest_version

-- a valid state passes each test
pub valid_was : (s : State) → is_valid s ≡ true → Valid s
unfolding is_valid
valid_was s e =
    let (a, e1) = every_cons _ _ e in
    let (b, e2) = every_cons _ _ e1 in
    let (c, e3) = every_cons _ _ e2 in
    let (d, e4) = every_cons _ _ e3 in
    let (f, e5) = every_cons _ _ e4 in
    let (g, e6) = every_cons _ _ e5 in
    let (h, e7) = every_cons _ _ e6 in
    let (i, e8) = every_cons _ _ e7 in
    let (j, e9) = every_cons _ _ e8 in
    let (k, e10) = every_cons _ _ e9 in
    record {
      label_fits = leb-true _ _ a;
      size_fits = leb-true _ _ b;
      time_bound = leb-true _ _ c;
      timestamp_fits = d;
      values_count = eqb-true _ _ f;
      value_length = λ v m. eqb-true _ _ (all_at (λ (v : Bytes). eqb (length v) hash_length) s.log.values v g m);
      map_fits = leb-true _ _ h;
      map_rises = i;
      position_fits = λ x m.
          let w = mapped_at (λ (y : MapEntry). y.position) s.monitoring_map x m in
          ltb-true _ _ (all_at (λ (p : ℕ). ltb p s.log.size) (positions s.monitoring_map) x.position j w);
      version_fits = λ x m.
          let w = mapped_at (λ (y : MapEntry). y.version) s.monitoring_map x m in
          leb-true _ _ (all_at (λ (v : ℕ). leb v greatest_version) (versions s.monitoring_map) x.version k w);
    }

-- a state that passes each test is valid
pub valid_is : (s : State) → Valid s → is_valid s ≡ true
unfolding is_valid every
valid_is s v =
    let a : leb (length s.label) label_limit ≡ true = le-leb _ _ v.label_fits in
    let b : leb s.log.size tree_size_limit ≡ true = le-leb _ _ v.size_fits in
    let c : eqb (length s.log.values) (length (full_subtrees s.log.size)) ≡ true = eq-eqb _ _ v.values_count in
    let d = at_all (λ (x : Bytes). eqb (length x) hash_length) s.log.values (λ x m. eq-eqb _ _ (v.value_length x m)) in
    let e : leb (length s.monitoring_map) map_limit ≡ true = le-leb _ _ v.map_fits in
    let f = all_mapped (λ (p : ℕ). ltb p s.log.size) (λ (x : MapEntry). x.position) s.monitoring_map (λ x m. lt-ltb _ _ (v.position_fits x m)) in
    let g = all_mapped (λ (n : ℕ). leb n greatest_version) (λ (x : MapEntry). x.version) s.monitoring_map (λ x m. le-leb _ _ (v.version_fits x m)) in
    let t : leb s.log.timestamp number_bound ≡ true = le-leb _ _ v.time_bound in
    rw (a, b, t, v.timestamp_fits, c, d, e, v.map_rises, f, g) refl

-- a valid state has at most as many values as a log has levels
pub values_few : (s : State) → Valid s → length s.log.values ≤ level_limit
values_few s v = rw (v.values_count ∙ full_length s.log.size) (ones_limit level_limit s.log.size (omega arith) v.size_fits)

-- the values of a valid state fit their block
pub values_fit : (s : State) → Valid s → hash_length * length s.log.values ≤ values_block_length
values_fit s v = let h = values_few s v in omega arith
