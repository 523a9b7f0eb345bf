-- Laws of entries asked for together: the frontier of a log, and what is put into it
-- (frontier_and_paths of specs/SearchTree.antt).
use mathlib.Core.Path.{◌≡◌, refl, sym, ap, ◌∙◌}
use mathlib.Core.Logic.{⊎_elim}
use mathlib.Core.Bool.{true}
use mathlib.Core.List.{List, [], ◌∷◌, Memᴰ}
use Prim.Native.Nat.{ℕ, suc, min, ◌+◌, ◌-◌, ◌*◌, ◌^◌, ◌≤◌, ◌<◌}
use native.Mathlib.Numerals.{add-one}
use native.Mathlib.Omega.{arith}
use lib.ListN.{length, get_or, drop, drop_of_length-le}
use lib.Seq.{drop-cons}
use Rattle.lists.specs.Lists.{last_or, rising, insert_all}
use Rattle.lists.proofs.RisingLaws.{last_none, insert_all_keeps, insert_all_only, insert_all_rising}
use Rattle.lists.proofs.RisingLaws.{insert_all_length}
use Rattle.tree.specs.SearchTree.{frontier, frontier_capacity, right_ancestors, frontier_and_paths}
use Rattle.tree.specs.SearchTree.{next_from}
use Rattle.tree.specs.LogHead.{level_limit}
use Rattle.tree.proofs.FrontierLaws.{frontier_below, frontier_rising}
use Rattle.tree.proofs.FrontierFillLaws.{frontier_fits}
use Rattle.tree.proofs.AncestorLaws.{right_ancestors_only, right_ancestors_rising, right_ancestors_end}
use Rattle.tree.proofs.AncestorLaws.{right_ancestors_length}
use Rattle.tree.proofs.NextLaws.{next_together}

-- ---- rising entries of a log up to its last

-- entries of a log of n that rise, among them the last, if the log is not empty
pub record Entries (n : ℕ) (l : List ℕ) : Type 0 where
  pub rises : rising l ≡ true
  pub within : (a : ℕ) → Memᴰ a l → a < n
  pub last : 0 < n → Memᴰ (n - 1) l

-- The entries of a right path are in the log.
pub path_within : (n p a : ℕ) → Memᴰ a (right_ancestors n p) → a < n
path_within n p a m = (right_ancestors_only n p a m).within

-- The frontier is such a list, since the right path of the last entry is empty and ends on the
-- frontier.
pub frontier_entries : (n : ℕ) → Entries n (frontier n)
frontier_entries n = record { rises = frontier_rising n; within = frontier_below n; last = last }
  where
    last : 0 < n → Memᴰ (n - 1) (frontier n)
    last h =
        let e : last_or (n - 1) (right_ancestors n (n - 1)) ≡ n - 1 = last_none (n - 1) (right_ancestors n (n - 1)) (λ y m.
        let a = right_ancestors_only n (n - 1) y m in omega (arith, a.above, a.within)) in
        rw e at (right_ancestors_end n (n - 1) (omega arith))

-- It stays one with other entries of the log put in.
pub entries_with : (n : ℕ) (xs l : List ℕ) → ((a : ℕ) → Memᴰ a xs → a < n) → Entries n l → Entries n (insert_all xs l)
entries_with n xs l h s = record {
  rises = insert_all_rising xs l s.rises;
  within = λ a m. ⊎_elim (h a) (s.within a) (insert_all_only xs l a m);
  last = λ p. insert_all_keeps xs l (n - 1) (s.last p);
}

-- So is the frontier with some entries of the log put in.
pub positions_entries : (n : ℕ) (positions : List ℕ) → ((a : ℕ) → Memᴰ a positions → a < n) → Entries n (insert_all positions (frontier n))
positions_entries n positions h = entries_with n positions (frontier n) h (frontier_entries n)

-- ---- the frontier and right paths

-- Of no entries there is the frontier.
paths_nil : (n : ℕ) → frontier_and_paths n [] ≡ frontier n
unfolding frontier_and_paths
paths_nil n = refl

-- One entry more puts in its right path.
paths_cons : (n p : ℕ) (ps : List ℕ) → frontier_and_paths n (p ∷ ps) ≡ insert_all (right_ancestors n p) (frontier_and_paths n ps)
unfolding frontier_and_paths
paths_cons n p ps = refl

-- They are rising entries of the log up to its last.
pub paths_entries : (n : ℕ) (ps : List ℕ) → Entries n (frontier_and_paths n ps)
paths_entries n [] = rw (paths_nil n) (frontier_entries n)
paths_entries n (p ∷ ps) = rw (paths_cons n p ps) (entries_with n (right_ancestors n p) (frontier_and_paths n ps) (path_within n p) (paths_entries n ps))

-- They are no more than a frontier has, and for each entry a right path.
pub paths_length : (n : ℕ) (ps : List ℕ) → n ≤ 2 ^ level_limit → length (frontier_and_paths n ps) ≤ frontier_capacity + length ps * suc level_limit
paths_length n [] h = rw (paths_nil n) (omega (arith, frontier_fits n (omega arith)))
paths_length n (p ∷ ps) h =
    rw (paths_cons n p ps)
    (omega
    (arith, insert_all_length (right_ancestors n p) (frontier_and_paths n ps), right_ancestors_length (suc level_limit) n p (omega arith), paths_length n ps h))

-- ---- the next of them

-- With an entry more the next is the smaller of the next on its right path and the next of the
-- others.
pub next_paths : (n p x : ℕ) (ps : List ℕ) → next_from n (frontier_and_paths n (p ∷ ps)) x ≡ min (next_from n (right_ancestors n p) x) (next_from n (frontier_and_paths n ps) x)
next_paths n p x ps =
    let s = paths_entries n ps in
    rw (paths_cons n p ps) (next_together n (right_ancestors n p) (frontier_and_paths n ps) x (right_ancestors_rising n p) s.rises (path_within n p) s.within)

-- Right paths bring it no further than the next on the frontier.
paths_below : (n x : ℕ) (ps : List ℕ) → next_from n (frontier_and_paths n ps) x ≤ next_from n (frontier n) x
paths_below n x [] = rw (paths_nil n) (omega arith)
paths_below n x (p ∷ ps) = omega (arith, next_paths n p x ps, paths_below n x ps)

-- what was found, at most the next on the frontier, and the next with the right paths of the
-- positions from i on come to a number
abbrev pub Asking : ℕ → ℕ → List ℕ → ℕ → ℕ → ℕ → Type 0
Asking n x ps total next i =
    (next ≤ next_from n (frontier n) x) × (min next (next_from n (frontier_and_paths n (drop i ps)) x) ≡ total)

-- Before the first position the next on the frontier is found.
pub asked_start : (n x next : ℕ) (ps : List ℕ) → next ≡ next_from n (frontier n) x → Asking n x ps (next_from n (frontier_and_paths n ps) x) next 0
asked_start n x next ps e = (omega arith, omega (arith, paths_below n x ps))

-- The next on the right path of a position goes with what was found.
pub asked_step : (n x i d next a r total : ℕ) (ps : List ℕ) → i < length ps → Asking n x ps total next i
    → a ≡ next_from n (right_ancestors n (get_or ps i d)) x → r ≡ min next a → Asking n x ps total r (i + 1)
asked_step n x i d next a r total ps h s f g =
    let e : next_from n (frontier_and_paths n (drop i ps)) x ≡ min a (next_from n (frontier_and_paths n (drop (suc i) ps)) x) =
    ap (λ (qs : List ℕ). next_from n (frontier_and_paths n qs) x) (drop-cons ps i d h) ∙ next_paths n (get_or ps i d) x (drop (suc i) ps)
    ∙ ap (λ (k : ℕ). min k (next_from n (frontier_and_paths n (drop (suc i) ps)) x)) (sym f) in
    rw (add-one i) (omega (arith, s.0), omega (arith, s.1, e))

-- After the last it is what is asked.
pub asked_end : (n x i next total : ℕ) (ps : List ℕ) → length ps ≤ i → Asking n x ps total next i → next ≡ total
asked_end n x i next total ps h s =
    let e : next_from n (frontier_and_paths n (drop i ps)) x ≡ next_from n (frontier n) x =
    ap (λ (qs : List ℕ). next_from n (frontier_and_paths n qs) x) (drop_of_length-le ps h) ∙ ap (λ (l : List ℕ). next_from n l x) (paths_nil n) in
    omega (arith, s.0, s.1, e)
