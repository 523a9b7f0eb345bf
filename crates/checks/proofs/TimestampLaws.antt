-- Laws of the times of entries (specs/Entries.antt), one after the other.
use mathlib.Core.Path.{◌≡◌, refl, sym, ◌∙◌, ap}
use mathlib.Core.Bool.{Bool, true, false, ◌&&◌, and-true, and-false}
use mathlib.Core.List.{List, [], ◌∷◌}
use Prim.Native.Nat.{ℕ}
use native.Mathlib.Omega.{arith}
use lib.Dec.{leb}
use borrow.Author.Tests.{le-leb}
use Rattle.lists.specs.Lists.{all, unfalling, last_or}
use Rattle.rules.specs.State.{KeptLog}
use Rattle.rules.specs.Response.{Lookup, Entry}
use Rattle.rules.specs.Refusals.{timestamp_fits}
use Rattle.checks.specs.declared.timestamps.Timestamps.{Timestamps}
use Rattle.checks.specs.Sections.{with_lookups}
use Rattle.checks.specs.Entries.{timestamps_of, AreTimestamps, no_timestamps, timestamps_after}

-- ---- one after the other

-- the times of some entries, after those before
unfoldable pub timestamps_over : ℕ → ℕ → Timestamps → List Entry → Timestamps
timestamps_over size timestamp t [] = t
timestamps_over size timestamp t (e ∷ es) = timestamps_over size timestamp (timestamps_after size timestamp t e.position e.timestamp) es

module _ (size timestamp : ℕ) (t : Timestamps) where
  -- no entry is left
  pub timestamps-none : timestamps_over size timestamp t [] ≡ t
  unfolding timestamps_over
  timestamps-none = refl

  -- the first of those left
  pub timestamps-first : (e : Entry) (ls : List Lookup) (es : List Entry)
      → timestamps_over size timestamp t (with_lookups e ls ∷ es)
      ≡ timestamps_over size timestamp (timestamps_after size timestamp t e.position e.timestamp) es
  unfolding timestamps_over with_lookups
  timestamps-first e ls es = refl

-- the tests of one entry, among those before it and those after it
one_more : (before rises fits rise fit : Bool)
    → (before && rises && fits && (rise && fit)) ≡ (before && (rises && rise && (fits && fit)))
one_more false rises fits rise fit = refl
one_more true false fits rise fit = refl
one_more true true false rise fit = sym (and-false rise)
one_more true true true rise fit = refl

-- all fit where those before do, the others do not fall, nor below the latest before, and fit what
-- is kept
timestamps_fit : (log : KeptLog) (t : Timestamps) (es : List Entry)
    → (timestamps_over log.size log.timestamp t es).fit
    ≡ (t.fit && (unfalling (t.latest ∷ timestamps_of es) && all (timestamp_fits log) es))
unfolding timestamps_over timestamps_after unfalling all timestamp_fits
timestamps_fit log t [] = sym (and-true t.fit)
timestamps_fit log t (e ∷ es) =
    let rise = unfalling (e.timestamp ∷ timestamps_of es) in
    timestamps_fit log (timestamps_after log.size log.timestamp t e.position e.timestamp) es
    ∙ one_more t.fit (leb t.latest e.timestamp) (timestamp_fits log e) rise (all (timestamp_fits log) es)

-- the latest is that of the last entry
timestamps_latest : (size timestamp : ℕ) (t : Timestamps) (es : List Entry)
    → (timestamps_over size timestamp t es).latest ≡ last_or t.latest (timestamps_of es)
unfolding timestamps_over timestamps_after last_or
timestamps_latest size timestamp t [] = refl
timestamps_latest size timestamp t (e ∷ es) =
    timestamps_latest size timestamp (timestamps_after size timestamp t e.position e.timestamp) es

-- any time may follow 0
any_after_zero : (l : List ℕ) → unfalling (0 ∷ l) ≡ unfalling l
unfolding unfalling
any_after_zero [] = refl
any_after_zero (t ∷ l) = rw (le-leb 0 t (omega arith)) refl

-- what was told of times one after the other holds of all
pub timestamps_all : (size timestamp : ℕ) (es : List Entry) (t : Timestamps)
    → timestamps_over size timestamp no_timestamps es ≡ t → AreTimestamps size timestamp es t
unfolding no_timestamps
timestamps_all size timestamp es t h =
    (fits, ap (λ (u : Timestamps). u.latest) (sym h) ∙ timestamps_latest size timestamp no_timestamps es)
  where
    fits : (log : KeptLog) → log.size ≡ size → log.timestamp ≡ timestamp
        → t.fit ≡ (unfalling (timestamps_of es) && all (timestamp_fits log) es)
    fits log p q =
        ap (λ (u : Timestamps). u.fit) (sym h)
        ∙ ap (λ (n : ℕ). (timestamps_over n timestamp no_timestamps es).fit) (sym p)
        ∙ ap (λ (n : ℕ). (timestamps_over log.size n no_timestamps es).fit) (sym q)
        ∙ timestamps_fit log no_timestamps es
        ∙ ap (λ (b : Bool). b && all (timestamp_fits log) es) (any_after_zero (timestamps_of es))
