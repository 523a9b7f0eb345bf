-- In a call to which 9 does not apply, every version looked up is one of the steps.
use mathlib.Core.Path.{◌≡◌, refl, sym, ◌∙◌, ap, ap₂, subst}
use mathlib.Core.Logic.{⊎_elim}
use mathlib.Core.Bool.{Bool, true, false, ◌&&◌, false≢true}
use mathlib.Core.List.Memᴰ
use mathlib.Core.List.{List, [], ◌∷◌, Memᴰ}
use Prim.Native.Nat.{ℕ}
use lib.Dec.{eqb, ltb}
use lib.ListN.{length}
use borrow.Author.Tests.{eqb-true, not-false}
use Rattle.lists.specs.Lists.{all, begins, same}
use Rattle.lists.proofs.ChoiceLaws.{and_holds}
use Rattle.lists.proofs.ListLaws.{every_cons, same_true, mapped_at}
use Rattle.lists.proofs.MemberLaws.{at-mapped}
use Rattle.lists.proofs.RisingLaws.{insert_all_has, insert_all_keeps}
use Rattle.tree.specs.Ladder.{ladder}
use Rattle.tree.specs.SearchTree.{frontier}
use Rattle.rules.specs.Response.{Target, Finding, searched, monitored, Lookup, Entry, step_versions}
use Rattle.rules.specs.Response.{lookup_versions}
use Rattle.rules.specs.Kinds.{Asked, asked_at, KindRules}
use Rattle.rules.specs.Search.{asked_by_search, is_beginning, search_rules}
use Rattle.rules.specs.Monitoring.{versions_of, monitoring_rules}
use Rattle.rules.specs.Refusals.{Call, kind_rules, asked, commitment_asked, entries_asked, not_as_asked}
use Rattle.rules.proofs.KindLaws.{search-rules, monitoring-rules}
use Rattle.checks.specs.Lookups.{AllSteps}

-- ---- versions as asked

-- a version at the beginning of others is one of them
begun_listed : (shown wanted : List ℕ) (v : ℕ) → begins shown wanted ≡ true → Memᴰ v shown
    → Memᴰ v wanted
unfolding begins
begun_listed [] wanted v h m = absurd (Memᴰ.not-nil m)
begun_listed (x ∷ shown) [] v h m = absurd (false≢true h)
begun_listed (x ∷ shown) (w ∷ wanted) v h m =
    let (a, b) = and_holds (eqb x w) (begins shown wanted) h in
    ⊎_elim (λ e. Memᴰ.head (e ∙ eqb-true x w a))
    (λ k. Memᴰ.tail (begun_listed shown wanted v b k)) (Memᴰ.cases_cons m)

-- a version asked for in an entry is one of those of all entries
asked_listed : (wanted : List Asked) (a : Asked) (v : ℕ) → Memᴰ a wanted → Memᴰ v a.versions
    → Memᴰ v (versions_of wanted)
unfolding versions_of
asked_listed [] a v m i = absurd (Memᴰ.not-nil m)
asked_listed (b ∷ rest) a v m i =
    ⊎_elim
    (λ e. insert_all_has b.versions (versions_of rest) v (subst (λ (x : Asked). Memᴰ v x.versions) e i))
    (λ k. insert_all_keeps b.versions (versions_of rest) v (asked_listed rest a v k i)) (Memᴰ.cases_cons m)

-- what holds of all versions that fit those asked for in an entry holds of all versions looked up
-- in entries that are as asked
module _ (fit : List ℕ → List ℕ → Bool) (P : ℕ → Type 0) where
  looked_up : (wanted : List Asked) (es : List Entry)
      → ((a : Asked) → Memᴰ a wanted → (shown : List ℕ) → fit a.versions shown ≡ true → (v : ℕ)
      → Memᴰ v shown → P v)
      → entries_asked fit wanted es ≡ true → (e : Entry) → Memᴰ e es → (l : Lookup)
      → Memᴰ l e.lookups → P l.version
  unfolding entries_asked
  looked_up [] [] f h e m l i = absurd (Memᴰ.not-nil m)
  looked_up [] (x ∷ es) f h e m l i = absurd (false≢true h)
  looked_up (a ∷ rest) [] f h e m l i = absurd (false≢true h)
  looked_up (a ∷ rest) (x ∷ es) f h e m l i =
      let (g, r) =
      and_holds (eqb x.position a.position && fit a.versions (lookup_versions x))
      (entries_asked fit rest es) h in
      let (_, s) = and_holds (eqb x.position a.position) (fit a.versions (lookup_versions x)) g in
      ⊎_elim
      (λ q. f a (Memᴰ.head refl) (lookup_versions x) s l.version
      (mapped_at (λ (k : Lookup). k.version) x.lookups l (subst (λ (y : Entry). Memᴰ l y.lookups) q i)))
      (λ k. looked_up rest es (λ b n. f b (Memᴰ.tail n)) r e k l i)
      (Memᴰ.cases_cons m)

-- ---- a call to which 9 does not apply

module _ (c : Call) (h : not_as_asked c ≡ false) where
  -- its steps are as asked
  steps-were : step_versions c.parts ≡ (kind_rules c).steps
  unfolding not_as_asked
  steps-were = same_true _ _ (every_cons _ _ (not-false _ h)).0

  -- their commitments
  pub commitments-were : all (commitment_asked (kind_rules c).is_committed) c.parts.steps ≡ true
  unfolding not_as_asked
  commitments-were = (every_cons _ _ (every_cons _ _ (not-false _ h)).1).0

  -- and its entries
  entries_were : entries_asked (kind_rules c).versions_fit (kind_rules c).entries c.parts.entries ≡ true
  unfolding not_as_asked asked
  entries_were = (every_cons _ _ (every_cons _ _ (every_cons _ _ (not-false _ h)).1).1).0

  -- in a search
  steps-searched : (t : Target) → c.parts.finding ≡ searched t → AllSteps c c.parts.entries
  unfolding search_rules asked_by_search asked_at is_beginning
  steps-searched t f e m l i =
      let k = search-rules c t f in
      let vs = ladder t.version in
      let steps : step_versions c.parts ≡ vs = steps-were ∙ ap (λ (r : KindRules). r.steps) k in
      rw steps
      (looked_up is_beginning (λ (v : ℕ). Memᴰ v vs) (asked_at (λ _. vs) (frontier c.parts.tree_size))
      c.parts.entries
      (λ a n shown g v j.
      let (p, _, q) =
      at-mapped (λ (p : ℕ). record { position = p; versions = vs }) (frontier c.parts.tree_size) a n in
      let (_, b) = and_holds (ltb 0 (length shown)) (begins shown a.versions) g in
      rw (← ap (λ (x : Asked). x.versions) q) (begun_listed shown a.versions v b j))
      (ap₂ (λ (w : List ℕ → List ℕ → Bool) (xs : List Asked). entries_asked w xs c.parts.entries)
      (ap (λ (r : KindRules). r.versions_fit) (sym k)) (ap (λ (r : KindRules). r.entries) (sym k)) ∙ entries_were)
      e m l i)

  -- in monitoring
  steps-monitored : c.parts.finding ≡ monitored → AllSteps c c.parts.entries
  unfolding monitoring_rules
  steps-monitored f e m l i =
      let k = monitoring-rules c f in
      let wanted = (monitoring_rules c.configuration c.state c.parts).entries in
      let steps : step_versions c.parts ≡ versions_of wanted = steps-were ∙ ap (λ (r : KindRules). r.steps) k in
      rw steps
      (looked_up (λ (asked shown : List ℕ). same shown asked) (λ (v : ℕ). Memᴰ v (versions_of wanted))
      wanted c.parts.entries
      (λ a n shown g v j. asked_listed wanted a v n (subst (Memᴰ v) (same_true shown a.versions g) j))
      (ap₂ (λ (w : List ℕ → List ℕ → Bool) (xs : List Asked). entries_asked w xs c.parts.entries)
      (ap (λ (r : KindRules). r.versions_fit) (sym k)) (ap (λ (r : KindRules). r.entries) (sym k)) ∙ entries_were)
      e m l i)

  -- the versions looked up are those of steps
  pub looked-up-steps : AllSteps c c.parts.entries
  looked-up-steps = go c.parts.finding refl
    where
      go : (f : Finding) → c.parts.finding ≡ f → AllSteps c c.parts.entries
      go (searched t) q = steps-searched t q
      go monitored q = steps-monitored q
