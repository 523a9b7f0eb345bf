-- Laws of the entries of a response, one after the other (src/entries.rt): what is asked of them,
-- their times, the pairs marked for them.
use mathlib.Core.Path.{◌≡◌, refl, sym, ◌∙◌, ap}
use mathlib.Core.Bool.{Bool, true, false, ◌&&◌}
use mathlib.Core.List.{List, [], ◌∷◌}
use Prim.Native.Nat.{ℕ, ◌+◌, ◌-◌, ◌≤◌, ◌<◌}
use native.Mathlib.Omega.{arith}
use lib.Dec.{eqb}
use lib.ListN.{length, drop}
use borrow.Author.Tests.{eq-eqb, ne_eqb, eqb-true, eqb-false}
use Rattle.std.specs.Prelude.{Some, None, Option as CodeOption, is_some, IfSome}
use Rattle.std.specs.Bool.{then_some}
use Rattle.lists.specs.Lists.{Bytes}
use Rattle.lines.specs.Layout.{entry_fields}
use Rattle.tree.specs.LogTree.{LogEntry}
use Rattle.tree.specs.LogText.{entry_in}
use Rattle.tree.specs.SearchTree.{frontier_and_paths, next_from}
use Rattle.tree.proofs.AskedLaws.{paths_entries}
use Rattle.tree.proofs.NextLaws.{listed_from, from_none, next_above, from_next}
use Rattle.rules.specs.Response.{Entry}
use Rattle.rules.specs.Kinds.{asked_at}
use Rattle.rules.specs.Refusals.{entries_asked}
use Rattle.inputs.specs.Response.{entries_in, loose_in}
use Rattle.inputs.specs.declared.response_lines.Kind.{Kind}
use Rattle.checks.specs.declared.timestamps.Timestamps.{Timestamps}
use Rattle.checks.specs.Sections.{EntryLines, IsNextEntry, AfterLookups}
use Rattle.checks.specs.Entries.{versions_of, are_asked, AreTimestamps, no_timestamps, timestamps_after}
use Rattle.checks.specs.MonitoredVersions.{ArePairsAsked, AreMarks, IsMarkedBy, AreMarkedBy}
use Rattle.checks.specs.MonitoredVersions.{wanted_by, fit_by}
use Rattle.checks.proofs.LineStepLaws.{no_item_end}
use Rattle.checks.proofs.EntryLaws.{some_entries, asked-at-none, asked-at-over, asked-at-short}
use Rattle.checks.proofs.EntryLaws.{asked-at-first, log_position, log_timestamp}
use Rattle.checks.proofs.TimestampLaws.{timestamps_over, timestamps-none, timestamps-first}
use Rattle.checks.proofs.TimestampLaws.{timestamps_all}
use Rattle.checks.proofs.MarkLaws.{marks_start}
use Rattle.checks.proofs.GatheredLaws.{AreGathered, from_zero, marks_none, marks-next, gathered_next}
use Rattle.checks.proofs.GatheredLaws.{marks-unasked, marks-end}

-- what is told of the entries of a text: whether they are as asked, their times, the pairs marked
abbrev Told : Kind → Bytes → ℕ → ℕ → ℕ → List ℕ → List ℕ → List ℕ → CodeOption Timestamps → List ℕ → Type 0
Told kind s n size timestamp ladder ps vs r marks =
    (is_some r ≡ are_asked kind ladder n ps vs (entries_in s))
    × (IfSome r (AreTimestamps size timestamp (entries_in s)) × AreMarkedBy kind n ps vs (is_some r) marks)

-- some entries are as asked from a position on
abbrev are_asked_from : Kind → List ℕ → ℕ → List ℕ → List ℕ → ℕ → List Entry → Bool
are_asked_from kind ladder n ps vs x es =
    let rest = listed_from x (frontier_and_paths n ps) in
    entries_asked (fit_by kind) (asked_at (wanted_by kind ladder n ps vs) rest) es

-- the entries up to an offset are as asked, so that all are as asked if those that follow are;
-- their times were told, and the versions of monitoring gathered
pub record Followed (kind : Kind) (s : Bytes) (n size timestamp : ℕ) (ladder ps vs marks' : List ℕ) (at x : ℕ)
    (t : Timestamps) : Type 0 where
  pub lines : EntryLines (drop at s)
  pub loose : loose_in (drop at s) ≡ []
  pub within : at ≤ length s
  pub asked : are_asked kind ladder n ps vs (entries_in s)
      ≡ are_asked_from kind ladder n ps vs x (entries_in (drop at s))
  pub timestamps : timestamps_over size timestamp no_timestamps (entries_in s) ≡ timestamps_over size timestamp t (entries_in (drop at s))
  pub marks : AreMarks marks' vs
  pub versions : AreGathered kind n ps vs marks' x

module _ (kind : Kind) (s : Bytes) (n size timestamp : ℕ) (ladder ps vs : List ℕ) where
  -- at first no entry was passed
  pub followed-start : EntryLines s → loose_in s ≡ [] → (marks : List ℕ) → ArePairsAsked ps vs marks
      → (t : Timestamps) → t ≡ no_timestamps → Followed kind s n size timestamp ladder ps vs marks 0 0 t
  followed-start l e marks (a, m) t z =
      record {
        lines = l;
        loose = e;
        within = omega arith;
        asked = rw (from_zero (frontier_and_paths n ps)) refl;
        timestamps = ap (λ (u : Timestamps). timestamps_over size timestamp u (entries_in s)) (sym z);
        marks = rw m (marks_start vs a.versions);
        versions = rw m (marks_none kind n ps vs a);
      }

  -- where entries are not as asked, no more is told of them
  unasked : (marks : List ℕ) → AreMarks marks vs → are_asked kind ladder n ps vs (entries_in s) ≡ false
      → Told kind s n size timestamp ladder ps vs None marks
  unasked marks m e = (sym e, (tt, marks-unasked n ps vs marks m kind false refl))

  module _ (marks : List ℕ) (at x : ℕ) (t : Timestamps) (c : Followed kind s n size timestamp ladder ps vs marks at x t)
      (a : ℕ) (next : a ≡ next_from n (frontier_and_paths n ps) x) where
    module _ (h : n ≤ a) where
      -- no position is left
      none_left : listed_from x (frontier_and_paths n ps) ≡ []
      none_left = from_none n x (frontier_and_paths n ps) (paths_entries n ps).within (omega arith)

      -- all are as asked where the text ends too
      asked-end : are_asked kind ladder n ps vs (entries_in s) ≡ eqb at (length s)
      asked-end = c.asked ∙ rw none_left (go (eqb at (length s)) refl)
        where
          wanted : ℕ → List ℕ
          wanted = wanted_by kind ladder n ps vs

          go : (b : Bool) → eqb at (length s) ≡ b
              → entries_asked (fit_by kind) (asked_at wanted []) (entries_in (drop at s)) ≡ b
          go true e =
              rw (no_item_end s at (omega (arith, eqb-true at (length s) e))).1
              (asked-at-none (fit_by kind) wanted)
          go false e =
              let more : at < length s = omega (arith, c.within, eqb-false at (length s) e) in
              asked-at-over (fit_by kind) wanted (entries_in (drop at s))
              (some_entries s at c.lines c.loose more)

      -- then all times were told
      timestamps-end : eqb at (length s) ≡ true → timestamps_over size timestamp no_timestamps (entries_in s) ≡ t
      timestamps-end e =
          c.timestamps
          ∙ rw (no_item_end s at (omega (arith, eqb-true at (length s) e))).1 (timestamps-none size timestamp t)

      -- where none is left, all is known
      pub followed-end :
          Told kind s n size timestamp ladder ps vs (then_some (eqb at (length s)) t) marks
      followed-end = go (eqb at (length s)) refl
        where
          go : (b : Bool) → eqb at (length s) ≡ b → Told kind s n size timestamp ladder ps vs (then_some b t) marks
          go true e = (
            sym (asked-end ∙ e),
            (
              timestamps_all size timestamp (entries_in s) t (timestamps-end e),
              marks-end n ps vs marks c.marks kind true x none_left c.versions,
            ),
          )
          go false e = unasked marks c.marks (asked-end ∙ e)

    module _ (h : a < n) where
      -- the position wanted is the first of those left
      here : listed_from x (frontier_and_paths n ps) ≡ a ∷ listed_from (a + 1) (frontier_and_paths n ps)
      here =
          from_next n x (frontier_and_paths n ps) (paths_entries n ps).rises (omega arith)
          ∙ ap (λ (b : ℕ). b ∷ listed_from (b + 1) (frontier_and_paths n ps)) (sym next)

      -- fewer positions follow it than were left
      pub followed-less : n - (a + 1) < n - x
      followed-less = omega (arith, next_above n x (frontier_and_paths n ps) (omega arith))

      -- the entry is not there
      pub followed-missing : entries_in (drop at s) ≡ []
          → Told kind s n size timestamp ladder ps vs None marks
      followed-missing e =
          let rest = listed_from (a + 1) (frontier_and_paths n ps) in
          unasked marks c.marks
          (c.asked ∙ rw (here, e) (asked-at-short (fit_by kind) (wanted_by kind ladder n ps vs) a rest))

      module _ (first : ℕ) (e : IsNextEntry s at (Some first)) where
        -- all are as asked where the next one has the position and the lookups that are asked, and
        -- those after it are as asked
        next-asked : are_asked kind ladder n ps vs (entries_in s)
            ≡ (eqb e.0.position a
            && fit_by kind (wanted_by kind ladder n ps vs a) (versions_of (loose_in (drop first s)))
            && are_asked_from kind ladder n ps vs (a + 1) (entries_in (drop first s)))
        next-asked =
            let rest = listed_from (a + 1) (frontier_and_paths n ps) in
            c.asked
            ∙ rw (here, e.1)
            (asked-at-first (fit_by kind) (wanted_by kind ladder n ps vs) a rest e.0 (loose_in (drop first s))
            (entries_in (drop first s)))

        module _ (p : ℕ) (r : p ≡ (entry_in (drop (at + entry_fields) s)).position) where
          -- the position that was read is that of the entry
          position-read : p ≡ e.0.position
          position-read = r ∙ ap (λ (l : LogEntry). l.position) e.2 ∙ log_position e.0

          -- it has another position
          pub followed-elsewhere : (p ≡ a → ⊥)
              → Told kind s n size timestamp ladder ps vs None marks
          followed-elsewhere d =
              let other = ne_eqb e.0.position a (λ q. d (position-read ∙ q)) in
              unasked marks c.marks (next-asked ∙ rw other refl)

          module _ (q : p ≡ a) (b : Bool)
              (shown : b ≡ fit_by kind (wanted_by kind ladder n ps vs a) (versions_of (loose_in (drop first s))))
              (marks' : List ℕ) (m : IsMarkedBy kind n ps vs a marks marks') where
            -- the position that is asked
            position-same : eqb e.0.position a ≡ true
            position-same = eq-eqb e.0.position a (sym position-read ∙ q)

            -- it has other lookups
            pub followed-unasked : b ≡ false
                → Told kind s n size timestamp ladder ps vs None marks'
            followed-unasked z =
                unasked marks' (marks-next n ps vs marks c.marks a marks' kind m)
                (next-asked ∙ rw (position-same, ← shown, z) refl)

            module _ (there : ℕ) (w : there ≡ (entry_in (drop (at + entry_fields) s)).timestamp) where
              -- its time is told after those before
              timestamps-next : timestamps_over size timestamp no_timestamps (entries_in s)
                  ≡ timestamps_over size timestamp (timestamps_after size timestamp t a there) (entries_in (drop first s))
              timestamps-next =
                  let es = entries_in (drop first s) in
                  c.timestamps
                  ∙ rw e.1 (timestamps-first size timestamp t e.0 (loose_in (drop first s)) es)
                  ∙ ap (λ (u : ℕ). timestamps_over size timestamp (timestamps_after size timestamp t u e.0.timestamp) es)
                  (sym position-read ∙ q)
                  ∙ ap (λ (u : ℕ). timestamps_over size timestamp (timestamps_after size timestamp t a u) es)
                  (sym (w ∙ ap (λ (l : LogEntry). l.timestamp) e.2 ∙ log_timestamp e.0))

              -- it is as asked
              pub followed-next : b ≡ true → (after : ℕ) → AfterLookups s first after
                  → (t' : Timestamps) → t' ≡ timestamps_after size timestamp t a there
                  → Followed kind s n size timestamp ladder ps vs marks' after (a + 1) t'
              followed-next z after l t' u =
                  record {
                    lines = l.lines;
                    loose = l.loose;
                    within = l.within;
                    asked = next-asked ∙ rw (position-same, ← shown, z, l.entries) refl;
                    timestamps = timestamps-next ∙ rw (u, l.entries) refl;
                    marks = marks-next n ps vs marks c.marks a marks' kind m;
                    versions = gathered_next n ps vs marks c.marks a marks' kind m x here c.versions;
                  }
