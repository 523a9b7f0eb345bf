-- Laws of an entry as its kind asks for it (specs/MonitoredVersions.antt): the lookups, compared
-- with the versions wanted and counted, and in monitoring the pair whose versions these are.
use mathlib.Core.Path.{◌≡◌, refl, sym, subst}
use mathlib.Core.Bool.{Bool, true, false, ◌&&◌, and_comm}
use mathlib.Core.List.{List, [], ◌∷◌}
use Prim.Native.Nat.{ℕ}
use lib.Dec.{eqb, ltb, eqb-suc-zero}
use lib.ListN.{length, length-map}
use Rattle.std.specs.Prelude.{Option as CodeOption, is_some, IfSome}
use Rattle.std.specs.Bool.{then_some}
use Rattle.lists.specs.Lists.{same, begins}
use Rattle.lists.proofs.SameLaws.{begins_same}
use Rattle.rules.specs.Response.{Lookup}
use Rattle.rules.specs.Search.{is_beginning}
use Rattle.inputs.specs.declared.response_lines.Kind.{Kind}
use Rattle.inputs.specs.declared.response_lines.Kind.TheVariants.{Search, Monitor}
use Rattle.checks.specs.Entries.{versions_of}
use Rattle.checks.specs.MonitoredVersions.{shown_at, wanted_by, fit_by, IsMarkedFor, IsMarkedBy}

-- ---- an answer by a test

-- where the test holds there is an answer, of which is known what is known of the value
pub told_if : {A : Type 0} {r : CodeOption A} {b : Bool} {x : A} → r ≡ then_some b x → (P : A → Type 0) → P x
    → (is_some r ≡ b) × IfSome r P
told_if {A} {r} {b} {x} e P p = subst (λ (o : CodeOption A). (is_some o ≡ b) × IfSome o P) (sym e) (go b)
  where
    go : (b : Bool) → (is_some (then_some b x) ≡ b) × IfSome (then_some b x) P
    go true = (refl, p)
    go false = (refl, tt)

-- ---- the lookups of monitoring

-- lookups from the front of some versions, as many as these, are theirs
pub shown_all : (ls : List Lookup) (begin : Bool) (count n : ℕ) (ws shown : List ℕ)
    → begin ≡ begins (versions_of ls) ws → count ≡ length ls → n ≡ length ws → shown ≡ ws
    → (begin && eqb count n) ≡ same (versions_of ls) shown
shown_all ls begin count n ws shown b k l e =
    rw (b, k, l, e, ← length-map ls (λ (x : Lookup). x.version)) (begins_same (versions_of ls) ws)

-- where no version is looked up there is no lookup
pub shown_none : (ls : List Lookup) (count : ℕ) (shown : List ℕ) → count ≡ length ls → shown ≡ []
    → eqb count 0 ≡ same (versions_of ls) shown
unfolding same
shown_none [] count shown k e = rw (k, e) refl
shown_none (l ∷ ls) count shown k e = rw (k, e) (eqb-suc-zero (length ls))

-- ---- by the kind

module _ (kind : Kind) (ladder : List ℕ) (n : ℕ) (ps vs : List ℕ) (x : ℕ) where
  -- in a search lookups from the front of the ladder, one or more, are as asked
  pub search-asked : kind ≡ Search → (ls : List Lookup) (begin : Bool) (count : ℕ)
      → begin ≡ begins (versions_of ls) ladder → count ≡ length ls
      → (begin && ltb 0 count) ≡ fit_by kind (wanted_by kind ladder n ps vs x) (versions_of ls)
  unfolding fit_by wanted_by is_beginning
  search-asked e ls begin count b k =
      rw (e, b, k, length-map ls (λ (l : Lookup). l.version))
      (and_comm (begins (versions_of ls) ladder) (ltb 0 (length ls)))

  -- in monitoring those of the pair that counts
  pub monitoring-asked : kind ≡ Monitor → (ls : List Lookup) (b : Bool)
      → b ≡ same (versions_of ls) (shown_at n ps vs x)
      → b ≡ fit_by kind (wanted_by kind ladder n ps vs x) (versions_of ls)
  unfolding fit_by wanted_by
  monitoring-asked e ls b h = rw e h

-- a search marks no pair
pub search_marks : (kind : Kind) (n : ℕ) (ps vs : List ℕ) (x : ℕ) → kind ≡ Search
    → (marks : List ℕ) → IsMarkedBy kind n ps vs x marks marks
search_marks kind n ps vs x e marks = rw e refl

-- monitoring marks the pair that counts
pub monitoring_marks : (kind : Kind) (n : ℕ) (ps vs : List ℕ) (x : ℕ) → kind ≡ Monitor
    → (marks marks' : List ℕ) → IsMarkedFor n ps vs x marks marks' → IsMarkedBy kind n ps vs x marks marks'
monitoring_marks kind n ps vs x e marks marks' m = rw e m
