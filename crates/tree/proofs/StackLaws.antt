-- The law of pieces of the log tree: the subtrees at which a walk stops, put on a stack one after
-- the other, are at each entry across which none lies the full subtrees of the entries before it;
-- so they are the new kept values at the end, the root when they are joined, and what refusal 14
-- compares with the kept values.
use mathlib.Core.Path.{◌≡◌, refl, sym, ap, ap₂, ◌∙◌}
use mathlib.Core.Bool.{true}
use mathlib.Core.List.{List, [], ◌∷◌, ◌++◌, map, reverse, reverse_aux, reverse-reverse}
use Prim.Native.Nat.{ℕ, ◌+◌, ◌-◌, ◌*◌, ◌^◌, ◌≤◌, ◌<◌}
use native.Mathlib.Omega.{arith}
use lib.ListN.{length, take, drop, length-map}
use lib.Pow.{pow_pos}
use lib.Seq.{take_all}
use Rattle.lists.specs.Lists.{Bytes}
use Rattle.tree.specs.LogTree.{Range, full_subtrees, Walk, walk, walk_of, node_count, width_of, Known}
use Rattle.tree.specs.LogTree.{value, kept_values_met, full_values}
use Rattle.tree.specs.LogWalk.{range}
use Rattle.tree.proofs.SubtreeLaws.{block, subtree_root}
use Rattle.tree.proofs.WalkCaseLaws.{Walks, walk_cases, Over, over_width, walks_over}
use Rattle.tree.proofs.WalkValueLaws.{full_values_one, full_values_both}
use Rattle.tree.proofs.ReachLaws.{over_right, fulls_from, fulls_none, fulls_first, fulls_all, Stops}
use Rattle.tree.proofs.ReachLaws.{IsBlock, Clear, Reach, starting, ending, left, right, reach_root}
use Rattle.tree.proofs.ReachLaws.{clear_before, clear_kept, LastKnown, stops_blocks}
use Rattle.tree.proofs.KeptLaws.{fulls_last, full_values_enough, full_values_all, none_given}
use Rattle.tree.proofs.KeptLaws.{kept_values_met_lem}
use Rattle.tree.proofs.PieceLaws.{Piece, joined, piece_of, pieces, push, stack_from, stack_of, passed}
use Rattle.tree.proofs.PieceLaws.{up_to, widths, valued, full_stack, root_of, Wide, wide_less, push_on}
use Rattle.tree.proofs.PieceLaws.{stack_append, piece_joined, stack_block, passed_append}
use Rattle.tree.proofs.PieceLaws.{pieces_passed, up_to_none, up_to_first, up_to_later, up_to_all}

-- ---- full subtrees as pieces

-- More values do not matter.
valued_append : (ws : List ℕ) (vs us : List Bytes) → length ws ≤ length vs → valued ws (vs ++ us) ≡ valued ws vs
unfolding valued
valued_append [] vs us h = refl
valued_append (w ∷ ws) [] us h = absurd (omega arith)
valued_append (w ∷ ws) (v ∷ vs) us h = ap (λ (z : List Piece). record { width = w; digest = v } ∷ z) (valued_append ws vs us (omega arith))

-- There is a value for the width of each full subtree of c entries.
enough : {c s b : ℕ} {t : Walk} → Reach c s b t → (k : Known) (nodes : List Bytes) → length (widths (fulls_from s c)) ≤ length (full_values c k t nodes)
enough {c} {s} i k nodes = let h = full_values_enough i k nodes in rw (length-map (fulls_from s c) (λ (r : Range). r.width)) h

-- The pieces before c, put on a stack whose top is wider than all full subtrees of c in the range,
-- leave these on it.
stack_reach : {c s b : ℕ} {t : Walk} → Reach c s b t → (k : Known) (nodes : List Bytes) (st : List Piece) → Wide b st
    → stack_from st (up_to (c - s) (pieces k t nodes)) ≡ reverse_aux (valued (widths (fulls_from s c)) (full_values c k t nodes)) st
unfolding stack_from valued pieces
stack_reach {c} (starting r b t o h) k nodes st w = rw (fulls_none r.start c h, up_to_none (c - r.start) (pieces k t nodes) (omega arith)) refl
stack_reach {c} (ending e q b t o l h f) k nodes st w =
    let p = pow_pos e in
    let (i, j) = pieces_passed (block e q) t p o k nodes in
    let x = over_width (block e q) t o in
    rw (up_to_all (c - q * 2 ^ e) (pieces k t nodes) i (omega arith), fulls_last e (q * 2 ^ e) c h, full_values_one c (block e q) t k nodes o f)
    (stack_block e q t o k nodes st (wide_less (2 ^ e) b st (omega arith) w) ∙ push_on (piece_of k t nodes) b st (omega arith) w
    ∙ ap (λ (z : ℕ). record { width = z; digest = value k t nodes } ∷ st) x)
stack_reach {c} (left e q b r x y ox oy l u f i) k nodes st w =
    let (a, j) = pieces_passed (block e q) x (pow_pos e) ox k nodes in
    rw (
      full_values_both c r x y k nodes f,
      valued_append (widths (fulls_from (q * 2 ^ e) c)) (full_values c k x nodes) (full_values c k y (drop (node_count x) nodes)) (enough i k nodes),
    )
    (ap (stack_from st) (up_to_first (c - q * 2 ^ e) (pieces k x nodes) (pieces k y (drop (node_count x) nodes)) (omega arith))
    ∙ stack_reach i k nodes st w)
stack_reach {c} (right e q b r x y ox n l u f g i) k nodes st w =
    let (a, j) = pieces_passed (block e q) x (pow_pos e) ox k nodes in
    let d = over_width (block e q) x ox in
    let s : ℕ = q * 2 ^ e + 2 ^ e in
    let ns : List Bytes = drop (node_count x) nodes in
    let z : c - q * 2 ^ e - passed (pieces k x nodes) ≡ c - s = omega arith in
    rw (fulls_first e (q * 2 ^ e) c l u, full_values_both c r x y k nodes f, full_values_one c (block e q) x k nodes ox g)
    (ap (stack_from st) (up_to_later (c - q * 2 ^ e) (pieces k x nodes) (pieces k y ns) a (omega arith) ∙ ap (λ (v : ℕ). pieces k x nodes ++ up_to v (pieces k y ns)) z)
    ∙ stack_append st (pieces k x nodes) (up_to (c - s) (pieces k y ns))
    ∙ ap (λ (v : List Piece). stack_from v (up_to (c - s) (pieces k y ns)))
    (stack_block e q x ox k nodes st (wide_less (2 ^ e) b st (omega arith) w) ∙ push_on (piece_of k x nodes) b st (omega arith) w)
    ∙ stack_reach i k ns (piece_of k x nodes ∷ st) (omega arith)
    ∙ ap (λ (v : ℕ). reverse_aux (valued (widths (fulls_from s c)) (full_values c k y ns)) (record { width = v; digest = value k x nodes } ∷ st)) d)

-- The pieces before c end there.
passed_reach : {c s b : ℕ} {t : Walk} → Reach c s b t → (k : Known) (nodes : List Bytes) → passed (up_to (c - s) (pieces k t nodes)) ≡ c - s
unfolding pieces passed
passed_reach {c} (starting r b t o h) k nodes = rw (up_to_none (c - r.start) (pieces k t nodes) (omega arith)) (omega arith)
passed_reach {c} (ending e q b t o l h f) k nodes =
    let (i, j) = pieces_passed (block e q) t (pow_pos e) o k nodes in
    rw (up_to_all (c - q * 2 ^ e) (pieces k t nodes) i (omega arith)) (omega arith)
passed_reach {c} (left e q b r x y ox oy l u f i) k nodes =
    let (a, j) = pieces_passed (block e q) x (pow_pos e) ox k nodes in
    rw (up_to_first (c - q * 2 ^ e) (pieces k x nodes) (pieces k y (drop (node_count x) nodes)) (omega arith)) (passed_reach i k nodes)
passed_reach {c} (right e q b r x y ox n l u f g i) k nodes =
    let (a, j) = pieces_passed (block e q) x (pow_pos e) ox k nodes in
    let z : c - q * 2 ^ e - passed (pieces k x nodes) ≡ c - (q * 2 ^ e + 2 ^ e) = omega arith in
    let h = passed_reach i k (drop (node_count x) nodes) in
    rw (
      up_to_later (c - q * 2 ^ e) (pieces k x nodes) (pieces k y (drop (node_count x) nodes)) a (omega arith),
      z,
      passed_append (pieces k x nodes) (up_to (c - (q * 2 ^ e + 2 ^ e)) (pieces k y (drop (node_count x) nodes))),
    ) (omega arith)

-- A first piece before others that have entries is joined with what they make.
root_more : (p : Piece) (ps : List Piece) → 0 < (root_of ps).width → root_of (p ∷ ps) ≡ joined p (root_of ps)
unfolding root_of
root_more p [] h = absurd (omega arith)
root_more p (x ∷ ps) h = refl

-- The full subtrees of a range that ends with the c entries make its value.
root_reach : {c s b : ℕ} {t : Walk} → Reach c s b t → (w : ℕ) → 0 < w → s + w ≡ c → Over (range s w) t → (k : Known) (nodes : List Bytes)
    → root_of (valued (widths (fulls_from s c)) (full_values c k t nodes)) ≡ piece_of k t nodes
unfolding root_of valued
root_reach {c} (starting r b t o h) w p z v k nodes = absurd (omega arith)
root_reach {c} (ending e q b t o l h f) w p z v k nodes =
    rw (fulls_last e (q * 2 ^ e) c h, full_values_one c (block e q) t k nodes o f)
    (ap (λ (z : ℕ). record { width = z; digest = value k t nodes }) (sym (over_width (block e q) t o)))
root_reach {c} (left e q b r x y ox oy l u f i) w p z v k nodes =
    let (a, _) = over_right e q (q * 2 ^ e) w r x y v ox in
    absurd (omega arith)
root_reach {c} (right e q b r x y ox n l u f g i) w p z v k nodes =
    let (a, d) = over_right e q (q * 2 ^ e) w r x y v ox in
    let s : ℕ = q * 2 ^ e + 2 ^ e in
    let ns : List Bytes = drop (node_count x) nodes in
    let h = root_reach i (w - 2 ^ e) (omega arith) (omega arith) d k ns in
    let j = over_width (range s (w - 2 ^ e)) y d in
    let m : (root_of (valued (widths (fulls_from s c)) (full_values c k y ns))).width ≡ width_of y = ap (λ (z : Piece). z.width) h in
    rw (fulls_first e (q * 2 ^ e) c l u, full_values_both c r x y k nodes f, full_values_one c (block e q) x k nodes ox g)
    (root_more (record { width = 2 ^ e; digest = value k x nodes }) (valued (widths (fulls_from s c)) (full_values c k y ns)) (omega arith)
    ∙ ap₂ (λ (i : ℕ) (z : Piece). joined (record { width = i; digest = value k x nodes }) z) (sym (over_width (block e q) x ox)) h
    ∙ piece_joined k (range (q * 2 ^ e) w) r x y nodes v)

-- ---- the values on a stack

-- Of the values only as many matter as there are widths.
valued_take : (ws : List ℕ) (vs : List Bytes) → valued ws (take (length ws) vs) ≡ valued ws vs
unfolding valued
valued_take [] vs = refl
valued_take (w ∷ ws) [] = refl
valued_take (w ∷ ws) (v ∷ vs) = ap (λ (z : List Piece). record { width = w; digest = v } ∷ z) (valued_take ws vs)

-- They can be read off the pieces.
valued_digests : (ws : List ℕ) (vs : List Bytes) → length ws ≤ length vs → map (λ (p : Piece). p.digest) (valued ws vs) ≡ take (length ws) vs
unfolding valued
valued_digests [] vs h = refl
valued_digests (w ∷ ws) [] h = absurd (omega arith)
valued_digests (w ∷ ws) (v ∷ vs) h = ap (λ (z : List Bytes). v ∷ z) (valued_digests ws vs (omega arith))

-- Two stacks of the full subtrees of c entries are equal exactly where their values are.
stack_values : (c : ℕ) (vs us : List Bytes) → length us ≡ length (full_subtrees c) → length (full_subtrees c) ≤ length vs
    → (take (length us) vs ≡ us → full_stack c vs ≡ full_stack c us) × (full_stack c vs ≡ full_stack c us → take (length us) vs ≡ us)
unfolding full_stack
stack_values c vs us h l = values (widths (full_subtrees c)) (length-map (full_subtrees c) (λ (r : Range). r.width) ∙ sym h)
  where
    values : (ws : List ℕ) → length ws ≡ length us
        → (take (length us) vs ≡ us → reverse (valued ws vs) ≡ reverse (valued ws us)) × (reverse (valued ws vs) ≡ reverse (valued ws us) → take (length us) vs ≡ us)
    values ws i = (
      λ e. ap reverse (sym (valued_take ws vs) ∙ ap (valued ws) (ap (λ (z : ℕ). take z vs) i ∙ e)),
      λ e.
          let a : valued ws vs ≡ valued ws us = sym (reverse-reverse (valued ws vs)) ∙ ap reverse e ∙ reverse-reverse (valued ws us) in
          ap (λ (z : ℕ). take z vs) (sym i)
          ∙ sym (valued_digests ws vs (omega arith)) ∙ ap (map (λ (p : Piece). p.digest)) a ∙ valued_digests ws us (omega arith)
          ∙ take_all (length ws) us (omega arith),
    )

-- ---- the laws

-- The walk stops at blocks, from left to right. The pieces of a whole block, put on a stack whose
-- top is no narrower, do what the block does as one piece: its left half becomes one piece on top,
-- and what the right half becomes is joined with it. Let no piece lie across entry c, and take a
-- range in which c is. Where c is in the left half, the right half comes after c. Else the left
-- half is a full subtree of c; it is put on the stack as it is, since all before it are wider; and
-- c is in the right half. So at c the stack is the full subtrees of c, with their values as the
-- walk works them out. No piece lies across n if the last entry is shown or all n are known, and
-- none across m, since what has m inside of it holds a full subtree of m and splits. What the walk
-- compares with the kept values are the full subtrees of m that it does not retain, and nothing
-- else; a retained one has its kept value.

-- Where no piece of a walk over n entries lies across c, those before c end there, and leave the
-- full subtrees of c on the stack.
pub stack_clear : (n c : ℕ) (t : Walk) → 0 < n → c ≤ n → Over (range 0 n) t → Clear c t → (k : Known) (nodes : List Bytes)
    → (passed (up_to c (pieces k t nodes)) ≡ c) × (stack_of (up_to c (pieces k t nodes)) ≡ full_stack c (full_values c k t nodes))
unfolding stack_of full_stack
stack_clear n c t p h o a k nodes =
    let i = reach_root n c t p h o a in
    let z : c - 0 ≡ c = omega arith in
    (rw z at (passed_reach i k nodes), rw (← fulls_all c, z) at (stack_reach i k nodes [] tt))

-- the pieces of the walk over n entries
abbrev pub all_pieces : ℕ → Known → List ℕ → List Bytes → List Piece
all_pieces n k ps nodes = pieces k (walk_of n k.size ps) nodes

module _ (n : ℕ) (k : Known) (ps : List ℕ) (nodes : List Bytes) (filled : 0 < n) where
  walked : Walks k.size ps (range 0 n) (walk_of n k.size ps)
  unfolding walk_of
  walked = walk_cases n k.size ps (range 0 n) filled (omega arith)

  over : Over (range 0 n) (walk_of n k.size ps)
  over = walks_over walked

  blocks : LastKnown n k.size ps → Stops IsBlock IsBlock (walk_of n k.size ps)
  blocks last = stops_blocks last walked (subtree_root n filled)

  clear-end : LastKnown n k.size ps → Clear n (walk_of n k.size ps)
  clear-end last = clear_before n (range 0 n) (walk_of n k.size ps) over (blocks last) (omega arith)

  reach-end : LastKnown n k.size ps → Reach n 0 (2 ^ n) (walk_of n k.size ps)
  reach-end last = reach_root n n (walk_of n k.size ps) filled (omega arith) over (clear-end last)

  -- At the end the stack is the full subtrees of the log, with their values, of which there is one
  -- for each.
  pub stack-end : LastKnown n k.size ps → (stack_of (all_pieces n k ps nodes) ≡ full_stack n (full_values n k (walk_of n k.size ps) nodes))
      × (length (full_values n k (walk_of n k.size ps) nodes) ≡ length (full_subtrees n))
  stack-end last =
      let (f, e) = pieces_passed (range 0 n) (walk_of n k.size ps) filled over k nodes in
      let all : up_to n (all_pieces n k ps nodes) ≡ all_pieces n k ps nodes = up_to_all n (all_pieces n k ps nodes) f (omega arith) in (
        rw all at (stack_clear n n (walk_of n k.size ps) filled (omega arith) over (clear-end last) k nodes).1,
        rw (fulls_all n) (full_values_all (reach-end last) n filled (omega arith) over k nodes),
      )

  -- The root is what these full subtrees make from the right.
  pub root-end : LastKnown n k.size ps
      → root_of (valued (widths (full_subtrees n)) (full_values n k (walk_of n k.size ps) nodes)) ≡ record { width = n; digest = value k (walk_of n k.size ps) nodes }
  root-end last =
      rw (fulls_all n) (root_reach (reach-end last) n filled (omega arith) over k nodes
      ∙ ap (λ (z : ℕ). record { width = z; digest = value k (walk_of n k.size ps) nodes }) (over_width (range 0 n) (walk_of n k.size ps) over))

  clear-m : k.size ≤ n → Clear k.size (walk_of n k.size ps)
  clear-m grown = clear_kept n k.size grown walked (subtree_root n filled)

  -- No piece that begins before m ends after it, and the stack at m is the full subtrees of m.
  pub stack-kept : k.size ≤ n → (passed (up_to k.size (all_pieces n k ps nodes)) ≡ k.size)
      × (stack_of (up_to k.size (all_pieces n k ps nodes)) ≡ full_stack k.size (full_values k.size k (walk_of n k.size ps) nodes))
  stack-kept grown = stack_clear n k.size (walk_of n k.size ps) filled grown over (clear-m grown) k nodes

  -- Refusal 14 does not apply exactly where the stack at m is the kept values.
  pub kept-stack : k.size ≤ n → length k.values ≡ length (full_subtrees k.size)
      → (kept_values_met k (walk_of n k.size ps) nodes ≡ true → stack_of (up_to k.size (all_pieces n k ps nodes)) ≡ full_stack k.size k.values)
      × (stack_of (up_to k.size (all_pieces n k ps nodes)) ≡ full_stack k.size k.values → kept_values_met k (walk_of n k.size ps) nodes ≡ true)
  kept-stack grown h =
      let i = reach_root n k.size (walk_of n k.size ps) filled grown over (clear-m grown) in
      let (met, meets) = kept_values_met_lem k i (none_given walked) nodes h in
      let vs : List Bytes = full_values k.size k (walk_of n k.size ps) nodes in
      let (forth, back) = stack_values k.size vs k.values h (rw (fulls_all k.size) (full_values_enough i k nodes)) in
      let (_, e) = stack-kept grown in
      (λ a. e ∙ forth (met a), λ a. meets (back (sym e ∙ a)))

-- The pieces of the walk over a whole block leave one piece on the stack: the block.
pub stack_one : (e q f m : ℕ) (ps : List ℕ) (k : Known) (nodes : List Bytes) → 2 ^ e ≤ f
    → stack_of (pieces k (walk f m ps (block e q)) nodes) ≡ record { width = 2 ^ e; digest = value k (walk f m ps (block e q)) nodes } ∷ []
unfolding stack_of push
stack_one e q f m ps k nodes h =
    let o = walks_over (walk_cases f m ps (block e q) (pow_pos e) h) in
    stack_block e q (walk f m ps (block e q)) o k nodes [] tt
    ∙ ap (λ (z : ℕ). record { width = z; digest = value k (walk f m ps (block e q)) nodes } ∷ []) (over_width (block e q) (walk f m ps (block e q)) o)
