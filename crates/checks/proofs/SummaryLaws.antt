-- The lookups of an entry, summed up one after the other (specs/Lookups.antt).
use mathlib.Core.Path.{◌≡◌, refl, sym, ◌∙◌, ap, ap₂}
use mathlib.Core.Bool.{Bool, true, false, ◌&&◌, not, cond, beq, and_assoc}
use mathlib.Core.List.Memᴰ
use mathlib.Core.List.{List, [], ◌∷◌, ◌++◌, append-nil, map-append}
use Prim.Native.Nat.{ℕ, ◌+◌, ◌-◌, ◌≤◌}
use native.Mathlib.Omega.{arith}
use lib.Dec.{eqb, leb}
use lib.ListN.{length, take, drop, length-append, length-map}
use lib.Seq.{append_snoc}
use Rattle.lists.specs.Lists.{Bytes, all, begins}
use Rattle.lists.proofs.SameLaws.{begins_same}
use Rattle.rules.specs.Response.{Lookup, Entry, is_included}
use Rattle.rules.specs.Search.{result_fits, is_complete, ends_early}
use Rattle.rules.specs.Refusals.{lookup_passes}
use Rattle.inputs.specs.Response.{entries_in, loose_in}
use Rattle.checks.specs.declared.sought.Sought.{Sought}
use Rattle.checks.specs.declared.lookups.Summary.{Summary}
use Rattle.std.specs.Prelude.{Some}
use Rattle.checks.specs.Sections.{EntryLines, IsNextLookup, AfterLookups, OfLookup}
use Rattle.checks.specs.Entries.{versions_of}
use Rattle.checks.specs.Lookups.{Passes, no_lookups, IsSummary, IsNextSummary}
use Rattle.checks.proofs.SnocLaws.{all_snoc, begins_snoc}

-- ---- ladders

-- a lookup is as in a whole entry where it is included as its version is not above the one sought
fits_by : (t : ℕ) (l : Lookup) → result_fits t l ≡ beq (is_included l.result) (leb l.version t)
unfolding result_fits
fits_by t l = go (is_included l.result) (leb l.version t)
  where
    go : (there below : Bool) → cond below there (not there) ≡ beq there below
    go true true = refl
    go true false = refl
    go false true = refl
    go false false = refl

-- a ladder ends early at its last lookup
ends_snoc : (t : ℕ) (ls : List Lookup) (l : Lookup)
    → ends_early t (ls ++ l ∷ []) ≡ (all (result_fits t) ls && (leb l.version t && not (is_included l.result)))
unfolding ends_early all
ends_snoc t [] l = refl
ends_snoc t (k ∷ ls) l = go ls (ends_snoc t ls l)
  where
    last : Bool
    last = leb l.version t && not (is_included l.result)

    go : (ls : List Lookup) → ends_early t (ls ++ l ∷ []) ≡ (all (result_fits t) ls && last)
        → ends_early t (k ∷ ls ++ l ∷ []) ≡ ((result_fits t k && all (result_fits t) ls) && last)
    go [] h = ap (λ (b : Bool). result_fits t k && b) h ∙ sym (and_assoc (result_fits t k) true last)
    go (m ∷ ls) h =
        ap (λ (b : Bool). result_fits t k && b) h
        ∙ sym (and_assoc (result_fits t k) (all (result_fits t) (m ∷ ls)) last)

-- ---- summaries

module _ (s : Sought) where
  -- of no lookup
  pub summary-start : (root : Bytes) → IsSummary s root [] (no_lookups root)
  unfolding all begins ends_early no_lookups
  summary-start root =
      record {
        root = refl;
        reached = λ c w a. refl;
        count = refl;
        begin = refl;
        fits = refl;
        early = refl;
        included = refl;
      }

  -- of a lookup more, whose line tells its version, whether it is included and whether it passes
  pub summary-next : (line : Bytes) (x : Summary) (v : ℕ) (there passed stands : Bool)
      → OfLookup line (λ (l : Lookup). l.version) v
      → OfLookup line (λ (l : Lookup). is_included l.result) there
      → Passes s line x.root passed
      → stands ≡ begins (v ∷ []) (drop x.count s.ladder.now)
      → IsNextSummary s line x
      (record {
        root = x.root;
        reached = x.reached && passed;
        count = x.count + 1;
        begin = x.begin && stands;
        fits = x.fits && beq there (leb v s.version);
        early = x.fits && leb v s.version && not there;
        included = x.included && there;
      })
  summary-next line x v there passed stands version_told there_told passed_told stood root ls l h q =
      let t = s.version in
      let version = version_told l q in
      let included_is = there_told l q in
      record {
        root = h.root;
        reached =
            (λ c w a.
            let before = h.reached c w (λ k m. a k (Memᴰ.append_left (l ∷ []) m)) in
            let here = passed_told c l w q (a l (Memᴰ.append_right ls (Memᴰ.head refl))) in
            ap₂ ◌&&◌ before (here ∙ ap (λ (r : Bytes). lookup_passes c r l) h.root)
            ∙ sym (all_snoc (lookup_passes c root) ls l));
        count = omega (arith, h.count, length-append ls (l ∷ []));
        begin =
            ap₂ ◌&&◌ h.begin
            (stood ∙ ap₂ (λ (u k : ℕ). begins (u ∷ []) (drop k s.ladder.now)) version (h.count ∙ sym (length-map ls _)))
            ∙ sym (ap (λ (vs : List ℕ). begins vs s.ladder.now) (map-append (λ (k : Lookup). k.version) ls (l ∷ []))
            ∙ begins_snoc (versions_of ls) l.version s.ladder.now);
        fits =
            ap₂ ◌&&◌ h.fits
            (ap₂ (λ (b : Bool) (u : ℕ). beq b (leb u t)) included_is version ∙ sym (fits_by t l))
            ∙ sym (all_snoc (result_fits t) ls l);
        early =
            and_assoc x.fits (leb v t) (not there)
            ∙ ap₂ ◌&&◌ h.fits (ap₂ (λ (u : ℕ) (b : Bool). leb u t && not b) version included_is)
            ∙ sym (ends_snoc t ls l);
        included =
            ap₂ ◌&&◌ h.included included_is ∙ sym (all_snoc (λ (k : Lookup). is_included k.result) ls l);
      }

  -- a summary tells whether the ladder of an entry is complete
  pub summary-complete : (e : Entry) (x : Summary)
      → IsSummary s e.prefix_root e.lookups x
      → (x.begin && eqb x.count (length s.ladder.now) && x.fits) ≡ is_complete s.ladder.now s.version e
  unfolding is_complete
  summary-complete e x h =
      ap₂ ◌&&◌
      (ap₂ (λ (b : Bool) (n : ℕ). b && eqb n (length s.ladder.now)) h.begin
      (h.count ∙ sym (length-map e.lookups _))
      ∙ begins_same (versions_of e.lookups) s.ladder.now)
      h.fits

-- ---- the lookups at an offset, one after the other

-- the root of the summary at the beginning
pub beginning_root : (root : Bytes) (x : Summary) → x ≡ no_lookups root → x.root ≡ root
unfolding no_lookups
beginning_root root x e = ap (λ (y : Summary). y.root) e

-- those from an offset to another are summed up
pub record LookupsSummed (s : Bytes) (from : ℕ) (sought : Sought) (root : Bytes) (at : ℕ) (x : Summary) : Type 0 where
  pub done : List Lookup
  split : loose_in (drop from s) ≡ done ++ loose_in (drop at s)
  entries : entries_in (drop at s) ≡ entries_in (drop from s)
  pub lines : EntryLines (drop at s)
  pub forward : x.count + from ≤ at
  pub within : at ≤ length s
  summed : IsSummary sought root done x

module _ (s : Bytes) (from : ℕ) (sought : Sought) (root : Bytes) where
  -- at first none is
  summed-none : EntryLines (drop from s) → from ≤ length s
      → LookupsSummed s from sought root from (no_lookups root)
  unfolding no_lookups
  summed-none l w =
      record {
        done = [];
        split = refl;
        entries = refl;
        lines = l;
        forward = omega arith;
        within = w;
        summed = summary-start sought root;
      }

  module _ (x : Summary) (e : x ≡ no_lookups root) where
    -- the beginning is the summary of none
    pub summed-start : EntryLines (drop from s) → from ≤ length s
        → LookupsSummed s from sought x.root from x
    unfolding no_lookups
    summed-start l w = rw (beginning_root root x e, e) (summed-none l w)

  module _ (at : ℕ) (x : Summary) (h : LookupsSummed s from sought root at x) where
    -- the lookup at the offset is summed up too
    pub summed-next : (stop next : ℕ) (y : Summary) → IsNextLookup s at (Some (stop, next))
        → IsNextSummary sought (take (stop - at) (drop at s)) x y
        → LookupsSummed s from sought root next y
    summed-next stop next y (l, q, loose, entries, lines, f, g, w) n =
        let r = n root h.done l h.summed q in
        let a = h.forward in
        let b = h.summed.count in
        record {
          done = h.done ++ l ∷ [];
          split =
              h.split ∙ ap (λ (ls : List Lookup). h.done ++ ls) loose
              ∙ sym (append_snoc h.done l (loose_in (drop next s)));
          entries = sym entries ∙ h.entries;
          lines = lines;
          forward = omega (arith, r.count, length-append h.done (l ∷ []));
          within = w;
          summed = r;
        }

    -- where none is left, all are
    pub summed-all : (root' : Bytes) → root ≡ root' → loose_in (drop at s) ≡ []
        → IsSummary sought root' (loose_in (drop from s)) x × AfterLookups s from at
    summed-all root' i n =
        let e : loose_in (drop from s) ≡ h.done =
        h.split ∙ ap (λ (ls : List Lookup). h.done ++ ls) n ∙ append-nil h.done in
        let a = h.forward in (
          rw (e, ← i) h.summed,
          record { entries = h.entries; loose = n; lines = h.lines; forward = omega arith; within = h.within },
        )
