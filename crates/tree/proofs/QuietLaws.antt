-- The walk over one block of the log tree with nothing shown (specs/LogTree.antt): its pieces are
-- the full subtrees of m in the block, then given ones.
use mathlib.Core.Path.{◌≡◌, refl, sym, ap, ap₂, ◌∙◌, subst}
use mathlib.Core.Logic.{inr}
use mathlib.Core.Bool.{Bool, true, false}
use mathlib.Core.List.{List, [], ◌∷◌, ◌++◌, map, reverse, reverse-cons, append_assoc}
use Prim.Native.Nat.{ℕ, zero, suc, ◌+◌, ◌-◌, ◌*◌, ◌^◌, ◌≤◌, ◌<◌}
use native.Mathlib.Nat.{pow-succ'}
use native.Mathlib.Omega.{arith}
use lib.ListN.{length, drop, length-map, length-reverse}
use lib.Pow.{pow_pos}
use lib.Seq.{drop-nil}
use borrow.Author.Tests.{lt-ltb, le-ltb}
use Rattle.lists.specs.Lists.{Bytes, any}
use Rattle.tree.specs.SearchTree.{power}
use Rattle.tree.specs.LogTree.{Range, is_full, holds_full, is_shown, full_from, full_subtrees, Walk}
use Rattle.tree.specs.LogTree.{retained, given, parent, walk, node_count, width_of, Known, zeros}
use Rattle.tree.specs.LogTree.{kept_value, value}
use Rattle.tree.proofs.DigitLaws.{by_order}
use Rattle.tree.proofs.FullLaws.{full_from_none, full_from_more}
use Rattle.tree.proofs.SubtreeLaws.{block, halves_whole, starts_double}
use Rattle.tree.proofs.FullBlockLaws.{holds_block}
use Rattle.tree.proofs.WalkStepLaws.{walk_retained, walk_given, walk_split}
use Rattle.tree.proofs.ReachLaws.{block_full, full_behind, full_left, or_true, fulls_from, fulls_none}
use Rattle.tree.proofs.ReachLaws.{fulls_first, fulls_all}
use Rattle.tree.proofs.KeptLaws.{fulls_last}
use Rattle.tree.proofs.PieceLaws.{Piece, pieces, widths, valued}

-- ---- widths

-- The widths of the full subtrees do not depend on where they start.
widths_anywhere : (k s t w : ℕ) → widths (full_from k s w) ≡ widths (full_from k t w)
unfolding full_from
widths_anywhere zero s t w = refl
widths_anywhere (suc k) s t w = by_order 0 w
    (λ h. rw (full_from_more k s w h, full_from_more k t w h) (ap (λ (z : List ℕ). power w ∷ z) (widths_anywhere k (s + power w) (t + power w) (w - power w))))
    (λ h. rw (full_from_none (suc k) s w (omega arith), full_from_none (suc k) t w (omega arith)) refl)

-- The first is the largest power of two; the others are those of the rest.
widths_first : (e d : ℕ) → 2 ^ e ≤ d → d < 2 ^ suc e → widths (full_subtrees d) ≡ 2 ^ e ∷ widths (full_subtrees (d - 2 ^ e))
unfolding full_subtrees
widths_first e d l u =
    let z : d - (0 + 2 ^ e) ≡ d - 2 ^ e = omega arith in
    ap widths (fulls_all d ∙ fulls_first e 0 d (omega arith) (omega arith))
    ∙ ap (λ (x : ℕ). 2 ^ e ∷ widths (full_from x (0 + 2 ^ e) x)) z
    ∙ ap (λ (x : List ℕ). 2 ^ e ∷ x) (widths_anywhere (d - 2 ^ e) (0 + 2 ^ e) 0 (d - 2 ^ e))

-- A power of two is the only one.
widths_one : (e d : ℕ) → d ≡ 2 ^ e → widths (full_subtrees d) ≡ 2 ^ e ∷ []
widths_one e d h = ap widths (fulls_all d ∙ fulls_last e 0 d (omega arith))

-- Pieces take their values one after the other.
valued_parts : (xs ys : List ℕ) (vs : List Bytes) → valued (xs ++ ys) vs ≡ valued xs vs ++ valued ys (drop (length xs) vs)
unfolding valued
valued_parts [] ys vs = refl
valued_parts (x ∷ xs) ys [] =
    ap (λ (z : List Piece). record { width = x; digest = zeros } ∷ z) (valued_parts xs ys []
    ∙ ap (λ (z : List Bytes). valued xs [] ++ valued ys z) (drop-nil (length xs)))
valued_parts (x ∷ xs) ys (v ∷ vs) = ap (λ (z : List Piece). record { width = x; digest = v } ∷ z) (valued_parts xs ys vs)

-- ---- the walk

-- nothing is shown
none_shown : (r : Range) → is_shown [] r ≡ false
unfolding is_shown any
none_shown r = refl

-- A block after m is given.
quiet_behind : (f m e q : ℕ) → 0 < f → m ≤ q * 2 ^ e → walk f m [] (block e q) ≡ given (block e q)
quiet_behind zero m e q p h = absurd (omega arith)
quiet_behind (suc f) m e q p h =
    let b = full_behind m (block e q) h in
    walk_given f m [] (block e q) (none_shown (block e q)) b (holds_block m e q ∙ rw (b, le-ltb (q * 2 ^ e) m h) refl)

-- A full subtree of m is retained.
quiet_full : (f m e q : ℕ) → 0 < f → is_full m (block e q) ≡ true → walk f m [] (block e q) ≡ retained (block e q)
quiet_full zero m e q p h = absurd (omega arith)
quiet_full (suc f) m e q p h = walk_retained f m [] (block e q) (none_shown (block e q)) h

-- A block with m inside of it splits.
quiet_inside : (f m e q : ℕ) → q * 2 ^ suc e < m → m < q * 2 ^ suc e + 2 ^ suc e
    → walk (suc f) m [] (block (suc e) q) ≡ parent (block (suc e) q) (walk f m [] (block e (2 * q))) (walk f m [] (block e (2 * q + 1)))
quiet_inside f m e q l u =
    let (a, b) = halves_whole e q in
    walk_split f m [] (block (suc e) q) (omega (arith, pow_pos e)) (inr (not_full (is_full m (block (suc e) q)) refl, holding))
    ∙ ap₂ (λ (x y : Range). parent (block (suc e) q) (walk f m [] x) (walk f m [] y)) a b
  where
    not_full : (f : Bool) → is_full m (block (suc e) q) ≡ f → f ≡ false
    not_full true h = let (j, w, i) = block_full m (block (suc e) q) h in absurd (omega arith)
    not_full false h = refl

    holding : holds_full m (block (suc e) q) ≡ true
    holding = holds_block m (suc e) q ∙ rw (lt-ltb (q * 2 ^ suc e) m l, lt-ltb m (q * 2 ^ suc e + 2 ^ suc e) u) (or_true (is_full m (block (suc e) q)))

-- ---- its pieces

-- the pieces of a walk over the entries from s to an end, with m between: the full subtrees of m
-- with their kept values, then given ones, from the narrowest on
pub record Quiet (k : Known) (s end : ℕ) (t : Walk) (nodes : List Bytes) : Type 0 where
  pub listed : pieces k t nodes
      ≡ valued (widths (fulls_from s k.size)) (map (kept_value k) (fulls_from s k.size)) ++ valued (reverse (widths (full_subtrees (end - k.size)))) nodes
  pub counted : node_count t ≡ length (full_subtrees (end - k.size))

-- A block that starts at m is one piece, given.
quiet_start : (k : Known) (nodes : List Bytes) (e q f : ℕ) → 0 < f → k.size ≡ q * 2 ^ e
    → Quiet k (q * 2 ^ e) (q * 2 ^ e + 2 ^ e) (walk f k.size [] (block e q)) nodes
unfolding pieces width_of value node_count valued
quiet_start k nodes e q f p h =
    let i : q * 2 ^ e + 2 ^ e - k.size ≡ 2 ^ e = omega arith in
    let w = widths_one e (q * 2 ^ e + 2 ^ e - k.size) i in
    record {
      listed = rw (quiet_behind f k.size e q p (omega arith), fulls_none (q * 2 ^ e) k.size h, w) refl;
      counted = rw (quiet_behind f k.size e q p (omega arith)) (sym (ap length w) ∙ length-map (full_subtrees (q * 2 ^ e + 2 ^ e - k.size)) (λ (r : Range). r.width));
    }

-- One with m in its left half has the pieces of this half and the right half, given.
quiet_left : (k : Known) (nodes : List Bytes) (e p s : ℕ) (r : Range) (x : Walk) → s < k.size → k.size < s + 2 ^ e → Quiet k s (s + 2 ^ e) x nodes
    → Quiet k s (s + 2 ^ suc e) (parent r x (given (block e p))) nodes
unfolding pieces width_of value node_count valued
quiet_left k nodes e p s r x l u h =
    let b = pow-succ' 2 e in
    let d : ℕ = s + 2 ^ suc e - k.size in
    let c : ℕ = s + 2 ^ e - k.size in
    let i : d - 2 ^ e ≡ c = omega arith in
    let w : widths (full_subtrees d) ≡ 2 ^ e ∷ widths (full_subtrees c) =
    widths_first e d (omega arith) (omega arith) ∙ ap (λ (z : ℕ). 2 ^ e ∷ widths (full_subtrees z)) i in
    let ld = length-map (full_subtrees d) (λ (r : Range). r.width) in
    let lc = length-map (full_subtrees c) (λ (r : Range). r.width) in
    let ws : List ℕ = reverse (widths (full_subtrees c)) in
    let n : length ws ≡ node_count x = length-reverse (widths (full_subtrees c)) ∙ lc ∙ sym h.counted in
    let kept : List Piece = valued (widths (fulls_from s k.size)) (map (kept_value k) (fulls_from s k.size)) in
    record {
      listed =
          ap (λ (z : List Piece). z ++ valued (2 ^ e ∷ []) (drop (node_count x) nodes)) h.listed
          ∙ append_assoc kept (valued ws nodes) (valued (2 ^ e ∷ []) (drop (node_count x) nodes))
          ∙ ap (λ (z : ℕ). kept ++ (valued ws nodes ++ valued (2 ^ e ∷ []) (drop z nodes))) (sym n)
          ∙ ap (λ (z : List Piece). kept ++ z) (sym (valued_parts ws (2 ^ e ∷ []) nodes))
          ∙ ap (λ (z : List ℕ). kept ++ valued z nodes) (sym (ap reverse w ∙ reverse-cons (2 ^ e) (widths (full_subtrees c))));
      counted = omega (arith, h.counted, ap length w);
    }

-- One with m in its right half, or in its middle, has the left half, retained, and the pieces of
-- the right half.
quiet_right : (k : Known) (nodes : List Bytes) (e p : ℕ) (r : Range) (y : Walk) → p * 2 ^ e + 2 ^ e ≤ k.size → k.size < p * 2 ^ e + 2 ^ suc e
    → Quiet k (p * 2 ^ e + 2 ^ e) (p * 2 ^ e + 2 ^ suc e) y nodes → Quiet k (p * 2 ^ e) (p * 2 ^ e + 2 ^ suc e) (parent r (retained (block e p)) y) nodes
unfolding pieces width_of value node_count valued
quiet_right k nodes e p r y l u h =
    record {
      listed = rw (fulls_first e (p * 2 ^ e) k.size l u) (ap (λ (z : List Piece). record { width = 2 ^ e; digest = kept_value k (block e p) } ∷ z) h.listed);
      counted = omega (arith, h.counted);
    }

-- The walk over a block with nothing shown, and m in the block, has first the full subtrees of m in
-- the block with their kept values, then given subtrees: as wide as the full subtrees of as many
-- entries as are missing up to the end of the block, the narrowest first. Where m is in the left
-- half, the right half is given; else the left half is a full subtree of m and retained; and so on
-- in the other half.
pub quiet_pieces : (e q f : ℕ) (k : Known) (nodes : List Bytes) → 2 ^ e ≤ f → q * 2 ^ e ≤ k.size → k.size < q * 2 ^ e + 2 ^ e
    → Quiet k (q * 2 ^ e) (q * 2 ^ e + 2 ^ e) (walk f k.size [] (block e q)) nodes
quiet_pieces zero q f k nodes h l u = quiet_start k nodes zero q f (omega arith) (omega arith)
quiet_pieces (suc e) q zero k nodes h l u = absurd (omega (arith, pow_pos (suc e)))
quiet_pieces (suc e) q (suc f) k nodes h l u = by_order (q * 2 ^ suc e) k.size
    (λ a.
    let (i, j) = starts_double e q in
    let b = pow-succ' 2 e in
    let p = pow_pos e in
    subst (λ (z : Walk). Quiet k (q * 2 ^ suc e) (q * 2 ^ suc e + 2 ^ suc e) z nodes) (sym (quiet_inside f k.size e q a u))
    (subst (λ (z : ℕ). Quiet k z (z + 2 ^ suc e) (parent (block (suc e) q) (walk f k.size [] (block e (2 * q))) (walk f k.size [] (block e (2 * q + 1)))) nodes) i
    (by_order k.size (2 * q * 2 ^ e + 2 ^ e)
    (λ g. rw (quiet_behind f k.size e (2 * q + 1) (omega arith) (omega arith))
    (quiet_left k nodes e (2 * q + 1) (2 * q * 2 ^ e) (block (suc e) q) (walk f k.size [] (block e (2 * q))) (omega arith) g
    (quiet_pieces e (2 * q) f k nodes (omega arith) (omega arith) g)))
    (λ g.
    let m : (2 * q + 1) * 2 ^ e ≡ 2 * q * 2 ^ e + 2 ^ e = omega arith in
    let n : (2 * q + 1) * 2 ^ e + 2 ^ e ≡ 2 * q * 2 ^ e + 2 ^ suc e = omega arith in
    rw (quiet_full f k.size e (2 * q) (omega arith) (full_left k.size e q (omega arith) u))
    (quiet_right k nodes e (2 * q) (block (suc e) q) (walk f k.size [] (block e (2 * q + 1))) g (omega arith)
    (subst (λ (z : ℕ). Quiet k z (2 * q * 2 ^ e + 2 ^ suc e) (walk f k.size [] (block e (2 * q + 1))) nodes) m
    (subst (λ (z : ℕ). Quiet k ((2 * q + 1) * 2 ^ e) z (walk f k.size [] (block e (2 * q + 1))) nodes) n
    (quiet_pieces e (2 * q + 1) f k nodes (omega arith) (omega arith) (omega arith)))))))))
    (λ a. quiet_start k nodes (suc e) q (suc f) (omega arith) (omega arith))
