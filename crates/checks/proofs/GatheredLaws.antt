-- Laws of the versions that monitoring looks up in its entries, gathered by the marks of pairs one
-- entry after the other: in the end those of the pairs marked are those asked of all entries.
use mathlib.Core.Path.{◌≡◌, refl, sym, ◌∙◌, ap}
use mathlib.Core.Logic.{◌⊎◌, inl, inr, ⊎_elim}
use mathlib.Core.Bool.{Bool, true, false, false≢true}
use mathlib.Core.List.Memᴰ
use mathlib.Core.List.{List, [], ◌∷◌, Memᴰ}
use Prim.Native.Nat.{ℕ, ◌+◌, ◌<◌}
use native.Mathlib.Omega.{arith}
use lib.ListN.{length, get_or, set, replicate}
use Rattle.lists.specs.Lists.{rising, insert_all}
use Rattle.lists.proofs.RisingLaws.{insert_all_has, insert_all_keeps, insert_all_only, insert_all_rising}
use Rattle.lists.proofs.RisingLaws.{same_members}
use Rattle.tree.specs.SearchTree.{frontier_and_paths}
use Rattle.tree.proofs.NextLaws.{listed_from, from_all}
use Rattle.rules.specs.Limits.{version_bound}
use Rattle.rules.specs.Kinds.{Asked, asked_at}
use Rattle.rules.specs.Monitoring.{monitored_positions, asked_by_monitoring, versions_of as versions_asked}
use Rattle.inputs.specs.State.{map_of}
use Rattle.inputs.specs.declared.response_lines.Kind.{Kind}
use Rattle.inputs.specs.declared.response_lines.Kind.TheVariants.{Search, Monitor}
use Rattle.inputs.proofs.PairLaws.{map_positions}
use Rattle.checks.specs.MonitoredVersions.{shown_at, not_above, counted, ArePairs, AreMarks}
use Rattle.checks.specs.MonitoredVersions.{IsMarkedFor, IsMarkedBy, AreMarkedBy}
use Rattle.checks.proofs.MarkLaws.{counted_rising, counted_none, marked_has, marked_keeps, marked_only}
use Rattle.checks.proofs.MarkLaws.{marks_set}

-- ---- versions gathered

-- of all versions some are gathered, and some are left
pub record Gathered (whole gathered left : List ℕ) : Type 0 where
  pub has : (y : ℕ) → Memᴰ y whole → Memᴰ y gathered ⊎ Memᴰ y left
  pub only : (y : ℕ) → Memᴰ y gathered ⊎ Memᴰ y left → Memᴰ y whole

-- at first none is gathered
gathered_start : (whole : List ℕ) → Gathered whole [] whole
gathered_start whole =
    record { has = λ y m. inr m; only = λ y. ⊎_elim (λ m. absurd (Memᴰ.not-nil m)) (λ m. m) }

-- at the end none is left
gathered_end : (whole gathered : List ℕ) → rising whole ≡ true → rising gathered ≡ true
    → Gathered whole gathered [] → gathered ≡ whole
gathered_end whole gathered r q g =
    same_members gathered whole q r (λ y m. g.only y (inl m))
    (λ y m. ⊎_elim (λ k. k) (λ k. absurd (Memᴰ.not-nil k)) (g.has y m))

-- one pair is marked, and its versions are gathered
gathered_marked : (whole left marks vs : List ℕ) (i : ℕ) → i < length vs → length marks ≡ length vs
    → Gathered whole (counted marks vs) (insert_all (not_above (get_or vs i 0)) left)
    → Gathered whole (counted (set marks i 0) vs) left
gathered_marked whole left marks vs i h e g = record {
  has = λ y m. ⊎_elim
      (λ k. inl (marked_keeps marks vs i y k))
      (λ k. ⊎_elim (λ j. inl (marked_has marks vs i y h e j)) inr (insert_all_only _ left y k))
      (g.has y m);
  only = λ y. ⊎_elim
      (λ k. ⊎_elim
      (λ j. g.only y (inr (insert_all_has _ left y j)))
      (λ j. g.only y (inl j))
      (marked_only marks vs i y k))
      (λ k. g.only y (inr (insert_all_keeps (not_above (get_or vs i 0)) left y k)));
}

-- the pair that counts in an entry is marked, if there is one, and the versions asked of the entry
-- are gathered
gathered_for : (n : ℕ) (ps vs : List ℕ) (x : ℕ) (whole left marks marks' : List ℕ) → length marks ≡ length vs
    → Gathered whole (counted marks vs) (insert_all (shown_at n ps vs x) left)
    → IsMarkedFor n ps vs x marks marks' → Gathered whole (counted marks' vs) left
unfolding insert_all
gathered_for n ps vs x whole left marks marks' a g (inl (i, h, e, m)) =
    rw m (gathered_marked whole left marks vs i h a (rw e at g))
gathered_for n ps vs x whole left marks marks' a g (inr (e, m)) = rw m (rw e at g)

-- ---- what is asked

-- the versions asked of all entries rise
asked_rising : (l : List Asked) → rising (versions_asked l) ≡ true
unfolding versions_asked rising
asked_rising [] = refl
asked_rising (a ∷ l) = insert_all_rising a.versions (versions_asked l) (asked_rising l)

-- of no entries none is asked
versions_none : (f : ℕ → List ℕ) → versions_asked (asked_at f []) ≡ []
unfolding versions_asked asked_at
versions_none f = refl

-- those asked of an entry, and those of the others
versions_cons : (f : ℕ → List ℕ) (p : ℕ) (ps : List ℕ)
    → versions_asked (asked_at f (p ∷ ps)) ≡ insert_all (f p) (versions_asked (asked_at f ps))
unfolding versions_asked asked_at
versions_cons f p ps = refl

-- monitoring asks for the frontier and the right paths
asked_monitored : (n : ℕ) (ps vs : List ℕ) → length ps ≡ length vs
    → asked_by_monitoring n (map_of ps vs) ≡ asked_at (shown_at n ps vs) (frontier_and_paths n ps)
unfolding asked_by_monitoring monitored_positions
asked_monitored n ps vs e =
    ap (λ (qs : List ℕ). asked_at (shown_at n ps vs) (frontier_and_paths n qs)) (map_positions ps vs e)

-- ---- by the kind

-- in monitoring those of the pairs marked are gathered, of the versions asked of all entries, and
-- those of the entries from a position on are left
abbrev pub AreGathered : Kind → ℕ → List ℕ → List ℕ → List ℕ → ℕ → Type 0
AreGathered Search n ps vs marks x = Unit {0}
AreGathered Monitor n ps vs marks x =
    Gathered (versions_asked (asked_by_monitoring n (map_of ps vs))) (counted marks vs)
    (versions_asked (asked_at (shown_at n ps vs) (listed_from x (frontier_and_paths n ps))))

-- all positions are from 0 on
pub from_zero : (ps : List ℕ) → listed_from 0 ps ≡ ps
from_zero ps = from_all 0 ps (λ b i. omega arith)

-- at first no pair is marked
pub marks_none : (kind : Kind) (n : ℕ) (ps vs : List ℕ) → ArePairs ps vs
    → AreGathered kind n ps vs (replicate (length vs) version_bound) 0
marks_none Search n ps vs a = tt
marks_none Monitor n ps vs a =
    let none = counted_none version_bound vs (λ z. omega arith) in
    rw (none, from_zero (frontier_and_paths n ps), ← asked_monitored n ps vs a.alike)
    (gathered_start (versions_asked (asked_by_monitoring n (map_of ps vs))))

module _ (n : ℕ) (ps vs marks : List ℕ) (m : AreMarks marks vs) where
  module _ (x : ℕ) (marks' : List ℕ) where
    -- marks with that of the pair that counts in an entry are marks
    marks-for : IsMarkedFor n ps vs x marks marks' → AreMarks marks' vs
    marks-for (inl (i, h, e, f)) = rw f (marks_set marks vs i m)
    marks-for (inr (e, f)) = rw f m

    -- by either kind
    pub marks-next : (kind : Kind) → IsMarkedBy kind n ps vs x marks marks' → AreMarks marks' vs
    marks-next Search f = rw f m
    marks-next Monitor f = marks-for f

    -- the first of the positions left is that of the entry: its versions are gathered
    pub gathered_next : (kind : Kind) → IsMarkedBy kind n ps vs x marks marks' → (from : ℕ)
        → listed_from from (frontier_and_paths n ps) ≡ x ∷ listed_from (x + 1) (frontier_and_paths n ps)
        → AreGathered kind n ps vs marks from → AreGathered kind n ps vs marks' (x + 1)
    gathered_next Search f from h g = tt
    gathered_next Monitor f from h g =
        let rest = listed_from (x + 1) (frontier_and_paths n ps) in
        gathered_for n ps vs x _ _ marks marks' m.alike
        (rw (h, versions_cons (shown_at n ps vs) x rest) at g) f

  -- where entries are not as asked, marks tell no more
  pub marks-unasked : (kind : Kind) (asked : Bool) → asked ≡ false → AreMarkedBy kind n ps vs asked marks
  marks-unasked Search asked e = tt
  marks-unasked Monitor asked e = (m, λ z. absurd (false≢true (sym e ∙ z)))

  -- where no position is left, the versions of the pairs marked are those asked of all entries
  pub marks-end : (kind : Kind) (asked : Bool) (x : ℕ) → listed_from x (frontier_and_paths n ps) ≡ []
      → AreGathered kind n ps vs marks x → AreMarkedBy kind n ps vs asked marks
  marks-end Search asked x h g = tt
  marks-end Monitor asked x h g =
      let none = rw (h, versions_none (shown_at n ps vs)) at g in
      (m, λ _. gathered_end _ _ (asked_rising _) (counted_rising marks vs) none)
