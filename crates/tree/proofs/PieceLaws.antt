-- The walk over the log tree (specs/LogTree.antt) piece by piece: the subtrees at which it stops,
-- from left to right, on a stack.
use mathlib.Core.Path.{◌≡◌, refl, sym, ap, ◌∙◌}
use mathlib.Core.List.{List, [], ◌∷◌, ◌++◌, map, reverse, append-nil}
use Prim.Native.Nat.{ℕ, zero, suc, ◌+◌, ◌-◌, ◌*◌, ◌^◌, ◌≤◌, ◌<◌}
use native.Mathlib.Nat.{pow-succ'}
use native.Mathlib.Omega.{arith}
use lib.Dec.{eqb}
use lib.ListN.{get_or, drop}
use lib.Pow.{pow_pos}
use borrow.Author.Tests.{eq-eqb, ne_eqb}
use Rattle.lists.specs.Choice.{choose}
use Rattle.lists.specs.Lists.{Bytes}
use Rattle.hash.specs.Sha256.{sha256}
use Rattle.tree.specs.LogTree.{Range, log_parent_string, left_half, right_half, full_subtrees, Walk}
use Rattle.tree.specs.LogTree.{retained, given, shown, parent, node_count, width_of, Known, zeros, value}
use Rattle.tree.proofs.PowerLaws.{halves_filled, halves_meet}
use Rattle.tree.proofs.DigitLaws.{by_order}
use Rattle.tree.proofs.SubtreeLaws.{block}
use Rattle.tree.proofs.WalkCaseLaws.{Over, over_width}
use Rattle.tree.proofs.ReachLaws.{over_halves}

-- ---- pieces and stacks

-- a subtree by the number of its entries and its value
pub record Piece : Type 0 where
  pub width : ℕ
  pub digest : Bytes

-- two neighbours as one: the parent of both
unfoldable pub joined : Piece → Piece → Piece
joined x y = record { width = x.width + y.width; digest = sha256 (log_parent_string x.width x.digest y.width y.digest) }

-- the subtree that a walk works out, as one piece
abbrev pub piece_of : Known → Walk → List Bytes → Piece
piece_of k t nodes = record { width = width_of t; digest = value k t nodes }

-- the pieces of a walk: the subtrees at which it stops, from left to right
unfoldable pub pieces : Known → Walk → List Bytes → List Piece
pieces k (retained r) nodes = piece_of k (retained r) nodes ∷ []
pieces k (given r) nodes = piece_of k (given r) nodes ∷ []
pieces k (shown p) nodes = piece_of k (shown p) nodes ∷ []
pieces k (parent r x y) nodes = pieces k x nodes ++ pieces k y (drop (node_count x) nodes)

-- one more piece on a stack, whose top comes first: where the top is as wide, both are joined
unfoldable pub push : Piece → List Piece → List Piece
push p [] = p ∷ []
push p (t ∷ st) = choose (eqb t.width p.width) (λ _. push (joined t p) st) (λ _. p ∷ t ∷ st)

-- pieces put on a stack one after the other
unfoldable pub stack_from : List Piece → List Piece → List Piece
stack_from st [] = st
stack_from st (p ∷ ps) = stack_from (push p st) ps

unfoldable pub stack_of : List Piece → List Piece
stack_of ps = stack_from [] ps

-- how many entries pieces have
unfoldable pub passed : List Piece → ℕ
passed [] = 0
passed (p ∷ ps) = p.width + passed ps

-- the pieces that begin before the c-th entry
unfoldable pub up_to : ℕ → List Piece → List Piece
up_to c [] = []
up_to c (p ∷ ps) = choose (eqb c 0) (λ _. []) (λ _. p ∷ up_to (c - p.width) ps)

-- the widths of ranges
abbrev pub widths : List Range → List ℕ
widths rs = map (λ (r : Range). r.width) rs

-- pieces of these widths with these values; what stands for a missing value is zeros
unfoldable pub valued : List ℕ → List Bytes → List Piece
valued [] vs = []
valued (w ∷ ws) vs = record { width = w; digest = get_or vs 0 zeros } ∷ valued ws (drop 1 vs)

-- the stack of the full subtrees of c entries with these values, the last on top
unfoldable pub full_stack : ℕ → List Bytes → List Piece
full_stack c vs = reverse (valued (widths (full_subtrees c)) vs)

-- what pieces side by side make from the right: the last alone, else the parent of the first and of
-- what the others make
unfoldable pub root_of : List Piece → Piece
root_of [] = record { width = 0; digest = zeros }
root_of (p ∷ []) = p
root_of (p ∷ x ∷ ps) = joined p (root_of (x ∷ ps))

-- ---- pushing

-- the top of a stack is at least so wide
abbrev pub Wide : ℕ → List Piece → Type 0
Wide b [] = Unit {0}
Wide b (p ∷ st) = b ≤ p.width

pub wide_less : (a b : ℕ) (st : List Piece) → a ≤ b → Wide b st → Wide a st
wide_less a b [] h w = tt
wide_less a b (p ∷ st) h w = omega arith

-- On a wider top a piece is put as it is.
pub push_on : (p : Piece) (b : ℕ) (st : List Piece) → p.width < b → Wide b st → push p st ≡ p ∷ st
unfolding push choose
push_on p b [] h w = refl
push_on p b (t ∷ st) h w = rw (ne_eqb t.width p.width (λ z. omega arith)) refl

-- With a top as wide it is joined.
pub push_join : (p t : Piece) (st : List Piece) → t.width ≡ p.width → push p (t ∷ st) ≡ push (joined t p) st
unfolding push choose
push_join p t st h = rw (eq-eqb t.width p.width h) refl

-- Pieces are put on a stack in parts.
pub stack_append : (st ps qs : List Piece) → stack_from st (ps ++ qs) ≡ stack_from (stack_from st ps) qs
unfolding stack_from
stack_append st [] qs = refl
stack_append st (p ∷ ps) qs = stack_append (push p st) ps qs

-- The parent of both halves is the subtree.
pub piece_joined : (k : Known) (r z : Range) (x y : Walk) (nodes : List Bytes) → Over r (parent z x y)
    → joined (piece_of k x nodes) (piece_of k y (drop (node_count x) nodes)) ≡ piece_of k (parent z x y) nodes
unfolding joined width_of value
piece_joined k r z x y nodes (h, w, a, b) =
    let wx = over_width (left_half r) x a in
    let wy = over_width (right_half r) y b in
    let (c, d) = halves_meet r w in
    let wz : z.width ≡ r.width = ap (λ (i : Range). i.width) h in
    let e : width_of x + width_of y ≡ z.width = omega arith in
    ap (λ (i : ℕ). record { width = i; digest = sha256 (log_parent_string (width_of x) (value k x nodes) (width_of y) (value k y (drop (node_count x) nodes))) }) e

-- The pieces of a whole block, put on a stack that is no narrower, do what the block does as one
-- piece: the left half becomes one piece on top, and is joined with what the right half becomes.
pub stack_block : (e q : ℕ) (t : Walk) → Over (block e q) t → (k : Known) (nodes : List Bytes) (st : List Piece) → Wide (2 ^ e) st
    → stack_from st (pieces k t nodes) ≡ push (piece_of k t nodes) st
unfolding stack_from pieces
stack_block e q (retained r) o k nodes st w = refl
stack_block e q (given r) o k nodes st w = refl
stack_block e q (shown p) o k nodes st w = refl
stack_block zero q (parent r x y) (h, l, _, _) k nodes st w = absurd (omega arith)
stack_block (suc e) q (parent r x y) o k nodes st w =
    let (a, b) = over_halves e q r x y o in
    let wx = over_width (block e (2 * q)) x a in
    let wy = over_width (block e (2 * q + 1)) y b in
    let p = pow-succ' 2 e in
    let i = pow_pos e in
    stack_append st (pieces k x nodes) (pieces k y (drop (node_count x) nodes))
    ∙ ap (λ (z : List Piece). stack_from z (pieces k y (drop (node_count x) nodes)))
    (stack_block e (2 * q) x a k nodes st (wide_less (2 ^ e) (2 ^ suc e) st (omega arith) w) ∙ push_on (piece_of k x nodes) (2 ^ suc e) st (omega arith) w)
    ∙ stack_block e (2 * q + 1) y b k (drop (node_count x) nodes) (piece_of k x nodes ∷ st) (omega arith)
    ∙ push_join (piece_of k y (drop (node_count x) nodes)) (piece_of k x nodes) st (omega arith)
    ∙ ap (λ (z : Piece). push z st) (piece_joined k (block (suc e) q) r x y nodes o)

-- ---- the pieces before an entry

-- no piece is empty
abbrev pub Filled : List Piece → Type 0
Filled [] = Unit {0}
Filled (p ∷ ps) = (0 < p.width) × Filled ps

pub filled_append : (ps qs : List Piece) → Filled ps → Filled qs → Filled (ps ++ qs)
filled_append [] qs h k = k
filled_append (p ∷ ps) qs (a, h) k = (a, filled_append ps qs h k)

pub passed_append : (ps qs : List Piece) → passed (ps ++ qs) ≡ passed ps + passed qs
unfolding passed
passed_append [] qs = omega arith
passed_append (p ∷ ps) qs = let h = passed_append ps qs in omega arith

-- The pieces of a walk are not empty and have the entries of its range.
pub pieces_passed : (r : Range) (t : Walk) → 0 < r.width → Over r t → (k : Known) (nodes : List Bytes)
    → Filled (pieces k t nodes) × (passed (pieces k t nodes) ≡ r.width)
unfolding pieces passed width_of
pieces_passed r (retained x) p o k nodes = let w : x.width ≡ r.width = ap (λ (i : Range). i.width) o in ((omega arith, tt), omega arith)
pieces_passed r (given x) p o k nodes = let w : x.width ≡ r.width = ap (λ (i : Range). i.width) o in ((omega arith, tt), omega arith)
pieces_passed r (shown x) p o k nodes = let w : 1 ≡ r.width = ap (λ (i : Range). i.width) o in ((omega arith, tt), omega arith)
pieces_passed r (parent z x y) p (h, w, a, b) k nodes =
    let (c, d) = halves_filled r w in
    let (i, j) = halves_meet r w in
    let (fx, px) = pieces_passed (left_half r) x c a k nodes in
    let (fy, py) = pieces_passed (right_half r) y d b k (drop (node_count x) nodes) in (
      filled_append (pieces k x nodes) (pieces k y (drop (node_count x) nodes)) fx fy,
      passed_append (pieces k x nodes) (pieces k y (drop (node_count x) nodes)) ∙ omega arith,
    )

-- None begins before the first entry.
pub up_to_none : (c : ℕ) (ps : List Piece) → c ≡ 0 → up_to c ps ≡ []
unfolding up_to choose
up_to_none c [] h = refl
up_to_none c (p ∷ ps) h = rw (eq-eqb c 0 h) refl

pub up_to_more : (c : ℕ) (p : Piece) (ps : List Piece) → 0 < c → up_to c (p ∷ ps) ≡ p ∷ up_to (c - p.width) ps
unfolding up_to choose
up_to_more c p ps h = rw (ne_eqb c 0 (λ z. omega arith)) refl

-- An entry that the first pieces reach has no other before it.
pub up_to_first : (c : ℕ) (ps qs : List Piece) → c ≤ passed ps → up_to c (ps ++ qs) ≡ up_to c ps
unfolding passed
up_to_first c [] qs h = up_to_none c qs (omega arith) ∙ sym (up_to_none c [] (omega arith))
up_to_first c (p ∷ ps) qs h = by_order 0 c
    (λ l. up_to_more c p (ps ++ qs) l ∙ ap (λ (z : List Piece). p ∷ z) (up_to_first (c - p.width) ps qs (omega arith)) ∙ sym (up_to_more c p ps l))
    (λ l. up_to_none c (p ∷ ps ++ qs) (omega arith) ∙ sym (up_to_none c (p ∷ ps) (omega arith)))

-- One that they do not reach beyond has them all before it.
pub up_to_later : (c : ℕ) (ps qs : List Piece) → Filled ps → passed ps ≤ c → up_to c (ps ++ qs) ≡ ps ++ up_to (c - passed ps) qs
unfolding passed
up_to_later c [] qs f h = ap (λ (z : ℕ). up_to z qs) (omega arith)
up_to_later c (p ∷ ps) qs (a, f) h =
    let e : c - p.width - passed ps ≡ c - (p.width + passed ps) = omega arith in
    up_to_more c p (ps ++ qs) (omega arith) ∙ ap (λ (z : List Piece). p ∷ z) (up_to_later (c - p.width) ps qs f (omega arith) ∙ ap (λ (z : ℕ). ps ++ up_to z qs) e)

pub up_to_all : (c : ℕ) (ps : List Piece) → Filled ps → passed ps ≤ c → up_to c ps ≡ ps
unfolding up_to
up_to_all c ps f h = ap (up_to c) (sym (append-nil ps)) ∙ up_to_later c ps [] f h ∙ append-nil ps
