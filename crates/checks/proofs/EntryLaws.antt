-- Laws of the entries of a response: the lookups of one against the versions wanted, one after the
-- other, and what is asked of all of them.
use mathlib.Core.Path.{◌≡◌, refl, sym, ◌∙◌, ap}
use mathlib.Core.Bool.{Bool, true, false, ◌&&◌, and-true, and_assoc}
use mathlib.Core.List.{List, [], ◌∷◌, cons-ne-nil}
use Prim.Native.Nat.{ℕ, ◌+◌, ◌-◌, ◌≤◌, ◌<◌}
use native.Mathlib.Omega.{arith}
use lib.Dec.{eqb}
use lib.ListN.{length, take, drop}
use Rattle.std.specs.Prelude.{Some}
use Rattle.lists.specs.Lists.{Bytes, begins}
use Rattle.lists.proofs.SameLaws.{begins_none, begins_next}
use Rattle.lines.specs.Line.{ended_lines, leading}
use Rattle.rules.specs.Response.{Lookup, Entry, log_entry, lookup_versions}
use Rattle.rules.specs.ResponseText.{Item, entry_item, lookup_item, read_item, grouped}
use Rattle.rules.specs.Kinds.{Asked, asked_at}
use Rattle.rules.specs.Refusals.{entries_asked}
use Rattle.inputs.specs.Response.{entries_in, loose_in}
use Rattle.checks.specs.Sections.{EntryLines, with_lookups, IsNextLookup}
use Rattle.checks.specs.Sections.{AfterLookups, OfLookup}
use Rattle.checks.specs.Entries.{versions_of}
use Rattle.checks.proofs.LineStepLaws.{some-line}

-- ---- the lookups of an entry

-- the versions looked up at an offset begin those wanted
abbrev are_begun : Bytes → ℕ → List ℕ → Bool
are_begun s at wanted = begins (versions_of (loose_in (drop at s))) wanted

-- the lookups from an offset to another were compared with the versions wanted, and counted
pub record Compared (s : Bytes) (from : ℕ) (wanted : List ℕ) (at count : ℕ) (begin : Bool) : Type 0 where
  pub entries : entries_in (drop at s) ≡ entries_in (drop from s)
  pub lines : EntryLines (drop at s)
  pub forward : count + from ≤ at
  pub within : at ≤ length s
  pub begun : are_begun s from wanted ≡ (begin && are_begun s at (drop count wanted))
  pub counted : length (loose_in (drop from s)) ≡ count + length (loose_in (drop at s))

module _ (s : Bytes) (from : ℕ) (wanted : List ℕ) where
  -- at first none was compared
  pub compared-start : EntryLines (drop from s) → from ≤ length s → Compared s from wanted from 0 true
  compared-start l w =
      record {
        entries = refl;
        lines = l;
        forward = omega arith;
        within = w;
        begun = refl;
        counted = omega arith;
      }

  module _ (at count : ℕ) (begin : Bool) (c : Compared s from wanted at count begin) where
    -- the lookup at the offset is compared too
    pub compared-next : (stop next : ℕ) → IsNextLookup s at (Some (stop, next))
        → (v : ℕ) → OfLookup (take (stop - at) (drop at s)) (λ (l : Lookup). l.version) v
        → (stands : Bool) → stands ≡ begins (v ∷ []) (drop count wanted)
        → Compared s from wanted next (count + 1) (begin && stands)
    compared-next stop next (l, read, loose, entries, lines, f, g, w) v o stands e =
        let after = versions_of (loose_in (drop next s)) in
        let rest = are_begun s next (drop (count + 1) wanted) in
        let z = c.forward in
        record {
          entries = sym entries ∙ c.entries;
          lines = lines;
          forward = omega arith;
          within = w;
          begun =
              c.begun
              ∙ ap (λ (ls : List Lookup). begin && begins (versions_of ls) (drop count wanted)) loose
              ∙ ap (λ (b : Bool). begin && b) (begins_next l.version after wanted count)
              ∙ ap (λ (u : ℕ). begin && (begins (u ∷ []) (drop count wanted) && rest)) (sym (o l read))
              ∙ ap (λ (b : Bool). begin && (b && rest)) (sym e)
              ∙ sym (and_assoc begin stands rest);
          counted = let k = c.counted in let m = ap length loose in omega arith;
        }

    -- where none is left, all were
    pub compared-all : loose_in (drop at s) ≡ []
        → (begin ≡ are_begun s from wanted) × (count ≡ length (loose_in (drop from s))) × AfterLookups s from at
    compared-all h =
        let z = c.forward in
        let k = c.counted in
        let m = ap length h in (
          sym (c.begun ∙ rw (h, begins_none (drop count wanted)) (and-true begin)),
          omega arith,
          record {
            entries = c.entries;
            loose = h;
            lines = c.lines;
            forward = omega arith;
            within = c.within;
          },
        )

-- ---- lines that are all read

-- where there is no lookup before an entry and no entry, there is nothing
no_items : (xs : List Item) → (grouped xs).0 ≡ [] → (grouped xs).1 ≡ [] → xs ≡ []
unfolding grouped with_lookups
no_items [] e f = refl
no_items (lookup_item l ∷ xs) e f = absurd (cons-ne-nil l (grouped xs).0 e)
no_items (entry_item x ∷ xs) e f = absurd (cons-ne-nil (with_lookups x (grouped xs).0) (grouped xs).1 f)

-- before the end there is an entry, where no lookup stands before it
pub some_entries : (s : Bytes) (at : ℕ) → EntryLines (drop at s) → loose_in (drop at s) ≡ [] → at < length s
    → entries_in (drop at s) ≡ [] → ⊥
unfolding entries_in loose_in
some_entries s at l e h f =
    some-line read_item s at l h (no_items (leading read_item (ended_lines (drop at s))).0 e f)

-- ---- the next entry

-- a position is that of the log's entry
pub log_position : (e : Entry) → (log_entry e).position ≡ e.position
unfolding log_entry
log_position e = refl

-- so is a time
pub log_timestamp : (e : Entry) → (log_entry e).timestamp ≡ e.timestamp
unfolding log_entry
log_timestamp e = refl

-- ---- entries and what is asked

module _ (fit : List ℕ → List ℕ → Bool) where
  -- nothing was asked, and nothing is there
  pub asked-none : entries_asked fit [] [] ≡ true
  unfolding entries_asked
  asked-none = refl

  -- an entry more than asked
  pub asked-over : (es : List Entry) → (es ≡ [] → ⊥) → entries_asked fit [] es ≡ false
  unfolding entries_asked
  asked-over [] n = absurd (n refl)
  asked-over (e ∷ es) n = refl

  -- an entry less than asked
  pub asked-short : (a : Asked) (rest : List Asked) → entries_asked fit (a ∷ rest) [] ≡ false
  unfolding entries_asked
  asked-short a rest = refl

  -- the first entry, and those after it
  pub asked-first : (a : Asked) (rest : List Asked) (e : Entry) (es : List Entry)
      → entries_asked fit (a ∷ rest) (e ∷ es)
      ≡ (eqb e.position a.position && fit a.versions (lookup_versions e) && entries_asked fit rest es)
  unfolding entries_asked
  asked-first a rest e es = refl

  -- ---- at positions

  module _ (wanted : ℕ → List ℕ) where
    -- no position is asked, and no entry is there
    pub asked-at-none : entries_asked fit (asked_at wanted []) [] ≡ true
    unfolding asked_at
    asked-at-none = asked-none

    -- no position is asked, and an entry is there
    pub asked-at-over : (es : List Entry) → (es ≡ [] → ⊥) → entries_asked fit (asked_at wanted []) es ≡ false
    unfolding asked_at
    asked-at-over es n = asked-over es n

    module _ (p : ℕ) (ps : List ℕ) where
      -- a position is asked, and no entry is there
      pub asked-at-short : entries_asked fit (asked_at wanted (p ∷ ps)) [] ≡ false
      unfolding asked_at
      asked-at-short = asked-short (record { position = p; versions = wanted p }) (asked_at wanted ps)

      -- a position is asked: it, the lookups, and the entries after it
      pub asked-at-first : (e : Entry) (ls : List Lookup) (es : List Entry)
          → entries_asked fit (asked_at wanted (p ∷ ps)) (with_lookups e ls ∷ es)
          ≡ (eqb e.position p && fit (wanted p) (versions_of ls) && entries_asked fit (asked_at wanted ps) es)
      unfolding asked_at with_lookups
      asked-at-first e ls es =
          asked-first (record { position = p; versions = wanted p }) (asked_at wanted ps) (with_lookups e ls) es
