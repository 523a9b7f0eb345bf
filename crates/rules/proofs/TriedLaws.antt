-- Of an accepted call every lookup was tried (specs/Refusals.antt, 12 and 13), so that no string is
-- listed which was not hashed, and every lookup holds.
use mathlib.Core.Path.{◌≡◌, refl, sym, ap, ◌∙◌}
use mathlib.Core.Bool.{Bool, true, false, ◌&&◌, not, and-false}
use mathlib.Core.List.{List, [], ◌∷◌, Memᴰ}
use Prim.Native.Nat.{ℕ, ◌≤◌, ◌<◌}
use native.Mathlib.Omega.{arith}
use native.Mathlib.Decide.{dec_le}
use lib.Dec.{leb, ltb}
use lib.ListN.{length}
use borrow.Author.Tests.{lt-leb, le-ltb, not-true, not-false}
use Rattle.lists.specs.Lists.{all, same}
use Rattle.lists.proofs.ChoiceLaws.{and_holds, choose_true, choose_false}
use Rattle.lists.proofs.ListLaws.{all_at, same_true}
use Rattle.lists.proofs.MemberLaws.{each_nil, each-cons}
use Rattle.tree.specs.Ladder.{ladder}
use Rattle.tree.specs.PrefixTree.{lookup_root, terminal_fits}
use Rattle.rules.specs.VrfOutputs.{output_of}
use Rattle.rules.specs.Response.{Target, Finding, searched, monitored, Lookup, Entry, is_included}
use Rattle.rules.specs.Response.{lookup_versions}
use Rattle.rules.specs.Kinds.{KindRules}
use Rattle.rules.specs.Search.{is_included_above, result_fits, is_complete, ends_early, early_then_complete}
use Rattle.rules.specs.Search.{search_rules}
use Rattle.rules.specs.Monitoring.{monitoring_rules}
use Rattle.rules.specs.Refusals.{Call, terminal, kind_rules, lookup_holds, lookup_passes}
use Rattle.rules.specs.Refusals.{lookups_hold, lookup_fails, results_wrong}
use Rattle.rules.proofs.KindLaws.{search-rules, monitoring-rules}
use Rattle.rules.proofs.AcceptedLaws.{Accepted, rules-passed}

-- ---- tried

-- a search does not look up a version above t with success: the lookup can be tried
abbrev IsTried : ℕ → Lookup → Type 0
IsTried t l = (ltb t l.version && is_included l.result) ≡ false

-- above t there is no success
pub not_found : (t : ℕ) (l : Lookup) → result_fits t l ≡ true → t < l.version → is_included l.result ≡ false
unfolding result_fits
not_found t l h k = not-true (is_included l.result) (rw (lt-leb l.version t k) at h)

-- a lookup as in a whole entry
fits_tried : (t : ℕ) (l : Lookup) → result_fits t l ≡ true → IsTried t l
fits_tried t l h = go (dec_le l.version t)
  where
    go : Dec (l.version ≤ t) → IsTried t l
    go (yes p) = rw (le-ltb t l.version p) refl
    go (no p) = rw (not_found t l h (omega arith)) (and-false (ltb t l.version))

-- those of a whole entry
complete_tried : (vs : List ℕ) (t : ℕ) (e : Entry) → is_complete vs t e ≡ true → (l : Lookup) → Memᴰ l e.lookups → IsTried t l
unfolding is_complete
complete_tried vs t e h l m = fits_tried t l (all_at (result_fits t) e.lookups l (and_holds (same (lookup_versions e) vs) (all (result_fits t) e.lookups) h).1 m)

-- those of a short one
early_tried : (t : ℕ) (ls : List Lookup) → ends_early t ls ≡ true → (l : Lookup) → Memᴰ l ls → IsTried t l
unfolding ends_early
early_tried t [] h = each_nil (IsTried t)
early_tried t (k ∷ []) h =
    let n = not-true (is_included k.result) (and_holds (leb k.version t) (not (is_included k.result)) h).1 in
    each-cons (IsTried t) k [] (rw n (and-false (ltb t k.version))) (each_nil (IsTried t))
early_tried t (k ∷ j ∷ ls) h =
    let (p, q) = and_holds (result_fits t k) (ends_early t (j ∷ ls)) h in
    each-cons (IsTried t) k (j ∷ ls) (fits_tried t k p) (early_tried t (j ∷ ls) q)

-- each lookup of an entry
abbrev AllTried : ℕ → Entry → Type 0
AllTried t e = (l : Lookup) → Memᴰ l e.lookups → IsTried t l

-- those of short entries, then whole ones
entries_tried : (vs : List ℕ) (t : ℕ) (es : List Entry) → early_then_complete vs t es ≡ true → (e : Entry) → Memᴰ e es → AllTried t e
unfolding early_then_complete
entries_tried vs t [] h = each_nil (AllTried t)
entries_tried vs t (x ∷ es) h = go (is_complete vs t x) refl (entries_tried vs t es)
  where
    go : (b : Bool) → is_complete vs t x ≡ b → (early_then_complete vs t es ≡ true → (e : Entry) → Memᴰ e es → AllTried t e)
        → (e : Entry) → Memᴰ e (x ∷ es) → AllTried t e
    go true q ih =
        let a = sym (choose_true (is_complete vs t x) _ _ q) ∙ h in
        each-cons (AllTried t) x es (complete_tried vs t x q) (λ e i. complete_tried vs t e (all_at (is_complete vs t) es e a i))
    go false q ih =
        let (p, r) = and_holds (ends_early t x.lookups) (early_then_complete vs t es) (sym (choose_false (is_complete vs t x) _ _ q) ∙ h) in
        each-cons (AllTried t) x es (early_tried t x.lookups p) (ih r)

module _ (c : Call) (h : Accepted c) where
  -- the entries of a search are short, then whole
  pub results_fit : (t : Target) → c.parts.finding ≡ searched t → early_then_complete (ladder t.version) t.version c.parts.entries ≡ true
  unfolding results_wrong search_rules
  results_fit t f = sym (ap (λ (k : KindRules). k.results_fit) (search-rules c t f)) ∙ not-false _ (rules-passed c h).results

  module _ (e : Entry) (i : Memᴰ e c.parts.entries) (l : Lookup) (j : Memᴰ l e.lookups) where
    -- every lookup was tried
    pub lookup-tried : (kind_rules c).untried l ≡ false
    unfolding search_rules monitoring_rules is_included_above
    lookup-tried = go c.parts.finding refl
      where
        go : (f : Finding) → c.parts.finding ≡ f → (kind_rules c).untried l ≡ false
        go (searched t) q =
            ap (λ (k : KindRules). k.untried l) (search-rules c t q)
            ∙ entries_tried (ladder t.version) t.version c.parts.entries (results_fit t q) e i l j
        go monitored q = ap (λ (k : KindRules). k.untried l) (monitoring-rules c q)

    -- so it holds: what stands at its place fits, and its siblings lead to the prefix root of its
    -- entry
    lookup-held : lookup_holds c e.prefix_root l ≡ true
    unfolding lookup_fails lookups_hold lookup_passes
    lookup-held =
        let p = all_at (lookups_hold c) c.parts.entries e (not-false _ (rules-passed c h).lookups) i in
        let q = all_at (lookup_passes c e.prefix_root) e.lookups l p j in
        sym (choose_false ((kind_rules c).untried l) (λ _. true) (λ _. lookup_holds c e.prefix_root l) lookup-tried) ∙ q

    pub place-fits : terminal_fits (output_of c.outputs l.version) (terminal c l.version l.result) (length l.siblings) ≡ true
    unfolding lookup_holds
    place-fits =
        let o = output_of c.outputs l.version in
        let x = terminal c l.version l.result in
        (and_holds (terminal_fits o x (length l.siblings)) (same (lookup_root o x l.siblings) e.prefix_root) lookup-held).0

    pub root-reached : lookup_root (output_of c.outputs l.version) (terminal c l.version l.result) l.siblings ≡ e.prefix_root
    unfolding lookup_holds
    root-reached =
        let o = output_of c.outputs l.version in
        let x = terminal c l.version l.result in
        same_true (lookup_root o x l.siblings) e.prefix_root
        (and_holds (terminal_fits o x (length l.siblings)) (same (lookup_root o x l.siblings) e.prefix_root) lookup-held).1
