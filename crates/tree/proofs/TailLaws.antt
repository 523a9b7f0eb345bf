-- Laws of the last entries of a log of n entries, those from some entry on (specs/LogWalk.antt):
-- the full subtree with which they begin, and how they halve.
use mathlib.Core.Path.{◌≡◌, sym, ap, ap₂, ◌∙◌, subst}
use mathlib.Core.Logic.{◌⊎◌, inl, inr, ⊎_elim}
use mathlib.Core.Bool.{Bool, true, false}
use mathlib.Core.List.{List}
use Prim.Native.Nat.{ℕ, suc, ◌+◌, ◌-◌, ◌*◌, ◌^◌, ◌≤◌, ◌<◌}
use native.Mathlib.Nat.{zero-mul}
use native.Mathlib.Omega.{arith}
use lib.Count.{ones}
use lib.Dec.{ltb}
use lib.Pow.{pow_pos}
use borrow.Author.Tests.{lt-ltb, le-ltb}
use Rattle.tree.specs.declared.log_spine.Edge.{Edge}
use Rattle.tree.specs.SearchTree.{power}
use Rattle.tree.specs.LogTree.{left_half, right_half, is_shown, is_full, holds_full, given, parent, walk}
use Rattle.tree.specs.LogHead.{level_limit}
use Rattle.tree.specs.LogWalk.{range, Whole, Halves, uneven, Tail, EdgeFacts}
use Rattle.tree.proofs.PowerLaws.{exponent_below, power_at}
use Rattle.tree.proofs.FullLaws.{ones_power}
use Rattle.tree.proofs.SubtreeLaws.{start_lower, starts_double, halves_cut}
use Rattle.tree.proofs.FullBlockLaws.{full_cut, holds_cut}
use Rattle.tree.proofs.WalkStepLaws.{walk_given, walk_split, walk_fuel}
use Rattle.tree.proofs.ReachLaws.{full_left}

-- what is known of an edge is known of the one that it is
pub edge_told : (m n s w : ℕ) {a b : Bool} {x : Edge} (y : Edge) → x ≡ y → a ≡ b → EdgeFacts m n s w a x → EdgeFacts m n s w b y
edge_told m n s w y e q f = subst (λ (t : Bool). EdgeFacts m n s w t y) q (subst (EdgeFacts m n s w _) e f)

-- all entries of a log are its last ones
pub tail_all : (n : ℕ) → 0 < n → n ≤ 2 ^ level_limit → Tail n 0
tail_all n p h = record { level = suc level_limit; number = 0; start_is = sym (zero-mul (2 ^ suc level_limit)); some = p; within = omega arith; small = h }

-- a power of two and less than as many again: the left half of a block, and entries of its right
-- half up to n
record Begun (n s w : ℕ) : Type 0 where
  level : ℕ
  number : ℕ
  start_is : s ≡ number * 2 ^ suc level
  width_is : w ≡ 2 ^ level
  least : s + w ≤ n
  most : n < s + w + w

-- the last entries are that, by the largest power of two not above their number
begun : {n s w : ℕ} → Tail n s → w ≡ power (n - s) → Begun n s w
begun {n} {s} {w} t e =
    let (k, d, l, u) = power_at (n - s) (omega (arith, t.some)) in
    let b : k < t.level = exponent_below k t.level (omega (arith, t.within, t.some)) in
    record {
      level = k;
      number = t.number * 2 ^ (t.level - suc k);
      start_is = t.start_is ∙ sym (start_lower t.level (suc k) t.number (omega arith));
      width_is = e ∙ d;
      least = omega (arith, t.some);
      most = omega (arith, t.some);
    }

module _ {n s w : ℕ} (t : Tail n s) (e : w ≡ power (n - s)) where
  -- they begin with a block
  pub tail-whole : Whole s w
  tail-whole =
      let v = begun t e in
      let (x, y) = starts_double v.level v.number in
      record { level = v.level; number = 2 * v.number; start_is = v.start_is ∙ sym x; width_is = v.width_is; small = omega (arith, v.least, t.small) }

  -- which is a full subtree
  pub tail-full : is_full n (range s w) ≡ true
  tail-full =
      let v = begun t e in
      let (x, y) = starts_double v.level v.number in
      ap (is_full n) (ap₂ range (v.start_is ∙ sym x) v.width_is)
      ∙ full_left n v.level v.number (omega (arith, v.least, v.start_is, v.width_is)) (omega (arith, v.most, v.start_is, v.width_is))

  -- and are no fewer
  pub tail-least : s + w ≤ n
  tail-least = (begun t e).least

  -- one of the digits of their number stands for it
  pub tail-ones : ones (n - s) ≡ 1 + ones (n - (s + w))
  tail-ones =
      let d : n - s - power (n - s) ≡ n - (s + w) = omega arith in
      omega (arith, ones_power (n - s) (omega (arith, t.some)), ap ones d)

  module _ (l : s + w < n) where
    -- those after it
    pub tail-behind : Tail n (s + w)
    tail-behind =
        let v = begun t e in
        let (x, y) = starts_double v.level v.number in
        record {
          level = v.level;
          number = 2 * v.number + 1;
          start_is = omega (arith, v.start_is, v.width_is);
          some = l;
          within = omega (arith, v.most, v.width_is);
          small = t.small;
        }

    -- with more of them it is not a full subtree
    pub cut-not-full : (m : ℕ) → is_full m (range s (n - s)) ≡ false
    cut-not-full m =
        let v = begun t e in
        full_cut m v.level s (n - s) (omega (arith, v.width_is)) (omega (arith, v.most, v.width_is))

    -- it and the others are uneven halves
    pub cut-halves : (m : ℕ) → Halves m s w (n - (s + w))
    cut-halves m =
        let v = begun t e in
        let d : n - s ≡ w + (n - (s + w)) = omega (arith, v.least) in
        uneven (omega (arith, v.most)) (subst (λ (i : ℕ). is_full m (range s i) ≡ false) d (cut-not-full m))

    cut_holds : (m : ℕ) → m ≤ n → holds_full m (range s (n - s)) ≡ ltb s m
    cut_holds m h =
        let v = begun t e in
        let a : 2 ^ v.level < n - s = omega (arith, v.width_is) in
        let b : n - s < 2 ^ suc v.level = omega (arith, v.most, v.width_is) in
        let d : v.number * 2 ^ suc v.level + (n - s) ≡ n = omega (arith, v.start_is) in
        ap (λ (i : ℕ). holds_full m (range i (n - s))) v.start_is
        ∙ holds_cut m n v.level v.number (n - s) a b d h
        ∙ ap (λ (i : ℕ). ltb i m) (sym v.start_is)

    module _ (m : ℕ) (ps : List ℕ) (h : m ≤ n) where
      steps : walk (n - s) m ps (range s (n - s)) ≡ walk (suc (n - s - 1)) m ps (range s (n - s))
      steps = let d : n - s ≡ suc (n - s - 1) = omega arith in ap (λ (i : ℕ). walk i m ps (range s (n - s))) d

      -- where nothing of them is shown or known they are the next node
      pub cut-given : is_shown ps (range s (n - s)) ≡ false → m ≤ s → walk (n - s) m ps (range s (n - s)) ≡ given (range s (n - s))
      cut-given q b = steps ∙ walk_given (n - s - 1) m ps (range s (n - s)) q (cut-not-full m) (cut_holds m h ∙ le-ltb s m b)

      -- otherwise they split after it
      pub cut-split : (is_shown ps (range s (n - s)) ≡ true) ⊎ (s < m)
          → walk (n - s) m ps (range s (n - s)) ≡ parent (range s (n - s)) (walk w m ps (range s w)) (walk (n - (s + w)) m ps (range (s + w) (n - (s + w))))
      cut-split q =
          let v = begun t e in
          let p : 0 < w = rw v.width_is (pow_pos v.level) in
          let (x, y) = halves_cut v.level v.number (n - s) (omega (arith, v.width_is)) (omega (arith, v.most, v.width_is)) in
          let (a, b) = starts_double v.level v.number in
          let k : range s (n - s) ≡ range (v.number * 2 ^ suc v.level) (n - s) = ap (λ (i : ℕ). range i (n - s)) v.start_is in
          let i : left_half (range s (n - s)) ≡ range s w = ap left_half k ∙ x ∙ ap₂ range (a ∙ sym v.start_is) (sym v.width_is) in
          let d : n - s - 2 ^ v.level ≡ n - (s + w) = omega (arith, v.width_is) in
          let c : (2 * v.number + 1) * 2 ^ v.level ≡ s + w = omega (arith, v.start_is, v.width_is) in
          let j : right_half (range s (n - s)) ≡ range (s + w) (n - (s + w)) = ap right_half k ∙ y ∙ ap₂ range c d in
          steps ∙ walk_split (n - s - 1) m ps (range s (n - s)) (omega arith) (⊎_elim inl (λ g. inr (cut-not-full m, cut_holds m h ∙ lt-ltb s m g)) q)
          ∙ ap₂ (parent (range s (n - s)))
          (ap (walk (n - s - 1) m ps) i ∙ walk_fuel (n - s - 1) w m ps (range s w) p (omega arith) (omega arith))
          (ap (walk (n - s - 1) m ps) j ∙ walk_fuel (n - s - 1) (n - (s + w)) m ps (range (s + w) (n - (s + w))) (omega arith) (omega arith) (omega arith))
