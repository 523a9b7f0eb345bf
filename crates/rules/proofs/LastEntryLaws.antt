-- What an accepted search shows of the last entry of the log (specs/Search.antt): there the ladder
-- of its target is complete (rule 13), and every lookup leads to the entry's prefix root (rule 12).
-- So of the ladder's versions those not above the target have leaves under that root, the target's
-- with the commitment to what the search yields, and the others have none.
use mathlib.Core.Path.{◌≡◌, refl, sym, ap, ◌∙◌, subst}
use mathlib.Core.Bool.{Bool, true, false, false≢true}
use mathlib.Core.List.{List, [], ◌∷◌, map, Memᴰ}
use Prim.Native.Nat.{ℕ, ◌-◌, ◌≤◌, ◌<◌}
use native.Mathlib.Omega.{arith}
use lib.Dec.{eqb}
use lib.ListN.{length}
use borrow.Author.Tests.{le-leb, eq-eqb, not-false}
use Rattle.lists.specs.Lists.{Bytes, all, last_or, same}
use Rattle.lists.proofs.ChoiceLaws.{and_holds, choose_true, choose_false}
use Rattle.lists.proofs.ListLaws.{all_at, same_true}
use Rattle.lists.proofs.RisingLaws.{last_largest}
use Rattle.lists.proofs.MemberLaws.{at-mapped, last-mapped, last_listed}
use Rattle.hash.specs.Sha256.{digest_length}
use Rattle.tree.specs.Ladder.{ladder}
use Rattle.tree.specs.PrefixTree.{Terminal, searched_leaf, terminal_fits}
use Rattle.tree.proofs.CollisionLaws.{Within}
use Rattle.tree.proofs.LadderLaws.{ladder_own}
use Rattle.tree.proofs.LookupLaws.{LeadsTo, Absent, fits_absent}
use Rattle.rules.specs.Limits.{opening_length}
use Rattle.rules.specs.VrfOutputs.{has_output, output_of}
use Rattle.rules.specs.Response.{Target, Finding, searched, Result, included, absent, other_leaf, Lookup}
use Rattle.rules.specs.Response.{Entry, is_included, step_versions, lookup_versions, entry_positions}
use Rattle.rules.specs.Response.{target_of}
use Rattle.rules.specs.Commitment.{commitment_to}
use Rattle.rules.specs.Search.{result_fits, is_complete, ends_early, early_then_complete}
use Rattle.rules.specs.Refusals.{Call, output_missing, commitment_by, commitment_of, terminal}
use Rattle.rules.specs.Hashed.{hashed_by_lookup, hashed}
use Rattle.rules.proofs.PartsLaws.{OtherLeafFits, FindingFits}
use Rattle.rules.proofs.AcceptedLaws.{Accepted, rules-passed, ladder-steps, size_fits, shown-entries}
use Rattle.rules.proofs.TriedLaws.{not_found, results_fit, place-fits, root-reached}
use Rattle.rules.proofs.OutputLaws.{output-of}
use Rattle.rules.proofs.HashedLaws.{ByteCall, lookup_listed}

-- ---- what a search shows of a prefix tree

-- Under a root, by strings of S: of the ladder's versions not above t that they have leaves, of t
-- itself one with a commitment; of those above t that they have none.
pub record Shows (S : List Bytes) (output : ℕ → Bytes) (t : ℕ) (root commitment : Bytes) : Type 0 where
  pub there : (v : ℕ) → Memᴰ v (ladder t) → v ≤ t → (d : Bytes) × LeadsTo S (output v) (searched_leaf d) root
  pub own : LeadsTo S (output t) (searched_leaf commitment) root
  pub missing : (v : ℕ) → Memᴰ v (ladder t) → t < v → (x : Terminal) × Absent (output v) x × LeadsTo S (output v) x root

-- the outputs of the versions of a ladder have the length of a digest
abbrev pub OutputsFit : (ℕ → Bytes) → ℕ → Type 0
OutputsFit output t = (v : ℕ) → Memᴰ v (ladder t) → length (output v) ≡ digest_length

-- ---- the last entry of the log

-- where short entries stand before whole ones, the last one is whole
last_complete : (vs : List ℕ) (t : ℕ) (e : Entry) (es : List Entry) → early_then_complete vs t (e ∷ es) ≡ true → is_complete vs t (last_or e es) ≡ true
unfolding early_then_complete last_or
last_complete vs t e [] h = go (is_complete vs t e) refl
  where
    go : (b : Bool) → is_complete vs t e ≡ b → is_complete vs t e ≡ true
    go true q = q
    go false q = absurd (false≢true (and_holds (ends_early t e.lookups) false (sym (choose_false (is_complete vs t e) _ _ q) ∙ h)).1)
last_complete vs t e (x ∷ es) h = go (is_complete vs t e) refl (last_complete vs t x es)
  where
    go : (b : Bool) → is_complete vs t e ≡ b → (early_then_complete vs t (x ∷ es) ≡ true → is_complete vs t (last_or x es) ≡ true) → is_complete vs t (last_or x es) ≡ true
    go true q ih = all_at (is_complete vs t) (x ∷ es) (last_or x es) (sym (choose_true (is_complete vs t e) _ _ q) ∙ h) (last_listed x es)
    go false q ih = ih (and_holds (ends_early t e.lookups) (early_then_complete vs t (x ∷ es)) (sym (choose_false (is_complete vs t e) _ _ q) ∙ h)).1

-- the last entry of the log, whole
pub record LastEntry (c : Call) (t : ℕ) : Type 0 where
  pub entry : Entry
  pub listed : Memᴰ entry c.parts.entries
  pub last : entry.position ≡ c.parts.tree_size - 1
  pub complete : is_complete (ladder t) t entry ≡ true

-- a lookup of a version in it
record LookedUp (t v : ℕ) (e : Entry) : Type 0 where
  lookup : Lookup
  listed : Memᴰ lookup e.lookups
  is-version : v ≡ lookup.version
  fits : result_fits t lookup ≡ true

-- each version of the ladder is looked up in it
looked_up : (t : ℕ) (e : Entry) → is_complete (ladder t) t e ≡ true → (v : ℕ) → Memᴰ v (ladder t) → LookedUp t v e
unfolding is_complete
looked_up t e h v m =
    let (p, q) = and_holds (same (lookup_versions e) (ladder t)) (all (result_fits t) e.lookups) h in
    let (l, i, z) = at-mapped (λ (x : Lookup). x.version) e.lookups v (rw (← same_true (lookup_versions e) (ladder t) p) at m) in
    record { lookup = l; listed = i; is-version = z; fits = all_at (result_fits t) e.lookups l q i }

-- up to the target it is found
found : (t : ℕ) (l : Lookup) → result_fits t l ≡ true → l.version ≤ t → is_included l.result ≡ true
unfolding result_fits
found t l h k = rw (le-leb l.version t k) at h

-- what is found is the leaf of its output
included_is_lem : (r : Result) → is_included r ≡ true → r ≡ included
unfolding is_included
included_is_lem included h = refl
included_is_lem absent h = absurd (false≢true h)
included_is_lem (other_leaf o d) h = absurd (false≢true h)

-- what is not found is absent
absent_is : (c : Call) (v : ℕ) (r : Result) (output : Bytes) (depth : ℕ) → is_included r ≡ false → OtherLeafFits r → terminal_fits output (terminal c v r) depth ≡ true
    → Absent output (terminal c v r)
unfolding is_included terminal
absent_is c v included output depth h k f = absurd (false≢true (sym h))
absent_is c v absent output depth h k f = tt
absent_is c v (other_leaf o d) output depth h k f = fits_absent output o d depth k.0 f

module _ (c : Call) (h : Accepted c) (b : ByteCall c) (t : Target) (f : c.parts.finding ≡ searched t) where
  -- the last entry of the log is whole
  pub last_entry : LastEntry c t.version
  unfolding early_then_complete last_or
  last_entry = go c.parts.entries refl (results_fit c h t f)
    where
      go : (es : List Entry) → c.parts.entries ≡ es → early_then_complete (ladder t.version) t.version es ≡ true → LastEntry c t.version
      go [] q r = absurd (false≢true r)
      go (e ∷ es) q r =
          let s = shown-entries c h in
          let n = c.parts.tree_size in
          record {
            entry = last_or e es;
            listed = rw q (last_listed e es);
            last =
                sym (last-mapped (λ (x : Entry). x.position) e (e ∷ es)) ∙ ap (λ (l : List Entry). last_or e.position (map (λ (x : Entry). x.position) l)) (sym q)
                ∙ last_largest e.position (n - 1) (entry_positions c.parts) s.rises (s.last (size_fits c h).0) (λ y m. let k = s.within y m in omega arith);
            complete = last_complete (ladder t.version) t.version e es r;
          }

  -- the outputs of the ladder are on the sheet, and have their length
  pub outputs-fit : OutputsFit (output_of c.outputs) t.version
  unfolding output_missing
  outputs-fit v m =
      let k = all_at (has_output c.outputs) (step_versions c.parts) v (not-false _ (rules-passed c h).outputs)
      (rw (ladder-steps c (rules-passed c h).as_asked t f) m) in
      output-of (λ (o : Bytes). length o ≡ digest_length) c.outputs v b.output_length k

  -- its opening has a fixed length
  pub opening-length : length t.opening ≡ opening_length
  opening-length = (subst FindingFits f b.parts.finding).opening

module _ (c : Call) (h : Accepted c) (b : ByteCall c) (t : Target) (f : c.parts.finding ≡ searched t)
    (S : List Bytes) (g : Within (hashed c) S) where
  -- a lookup leads to the prefix root of its entry by strings that the call hashed
  lookup-way : (e : Entry) → Memᴰ e c.parts.entries → (l : Lookup) → Memᴰ l e.lookups
      → LeadsTo S (output_of c.outputs l.version) (terminal c l.version l.result) e.prefix_root
  unfolding hashed_by_lookup
  lookup-way e i l j =
      record {
        siblings = l.siblings;
        sized = ((b.parts.entries e i).lookups l j).sized;
        listed = λ x m. g x (lookup_listed c e l i j x m);
        leads = root-reached c h e i l j;
      }

  -- the leaf of a version that is found, in the last entry
  way-found : (x : LastEntry c t.version) (v : ℕ) → Memᴰ v (ladder t.version) → v ≤ t.version
      → LeadsTo S (output_of c.outputs v) (searched_leaf (commitment_of c v)) x.entry.prefix_root
  unfolding terminal
  way-found x v m k =
      let l = looked_up t.version x.entry x.complete v m in
      let z = l.is-version in
      let r = included_is_lem l.lookup.result (found t.version l.lookup l.fits (omega arith)) in
      let w = lookup-way x.entry x.listed l.lookup l.listed in
      rw z (rw r at w)

  -- the commitment of the target is worked out
  target-commitment : commitment_of c t.version ≡ commitment_to t.opening c.parts.label t.value
  unfolding commitment_of commitment_by target_of
  target-commitment =
      ap (λ (g : Finding). commitment_by (target_of g) c.parts.label c.parts.steps t.version) f
      ∙ choose_true (eqb t.version t.version) _ _ (eq-eqb t.version t.version refl)

  -- what it shows of its prefix tree
  pub shows : (x : LastEntry c t.version) → Shows S (output_of c.outputs) t.version x.entry.prefix_root (commitment_to t.opening c.parts.label t.value)
  shows x = record { there = λ v m k. (commitment_of c v, way-found x v m k); own = of-target; missing = not_there }
    where
      of-target : LeadsTo S (output_of c.outputs t.version) (searched_leaf (commitment_to t.opening c.parts.label t.value)) x.entry.prefix_root
      of-target = rw (← target-commitment) (way-found x t.version (ladder_own t.version) (omega arith))

      not_there : (v : ℕ) → Memᴰ v (ladder t.version) → t.version < v
          → (y : Terminal) × Absent (output_of c.outputs v) y × LeadsTo S (output_of c.outputs v) y x.entry.prefix_root
      not_there v m k =
          let l = looked_up t.version x.entry x.complete v m in
          let z = l.is-version in
          let n = not_found t.version l.lookup l.fits (omega arith) in
          rw z (
            terminal c l.lookup.version l.lookup.result,
            absent_is c l.lookup.version l.lookup.result (output_of c.outputs l.lookup.version) (length l.lookup.siblings) n
                ((b.parts.entries x.entry x.listed).lookups l.lookup l.listed).other (place-fits c h x.entry x.listed l.lookup l.listed),
            lookup-way x.entry x.listed l.lookup l.listed,
          )
