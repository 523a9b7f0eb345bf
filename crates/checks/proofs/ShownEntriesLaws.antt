-- The entries that the lines of a response show to the walk over the log (shown_in of the crate
-- tree) are those that were read.
use mathlib.Core.Path.{◌≡◌, refl, sym, ap, ap₂, ◌∙◌}
use mathlib.Core.Bool.{Bool, true, false}
use mathlib.Core.List.{List, ◌∷◌, map}
use mathlib.Core.Option.{Option, none, some}
use Prim.Native.Nat.{ℕ, zero, suc, ◌+◌, ◌≤◌, ◌<◌}
use native.Mathlib.Decide.{dec_lt}
use native.Mathlib.Omega.{arith}
use lib.Dec.{eqb}
use lib.ListN.{length, drop, get_or}
use borrow.Author.Tests.{eqb-true, eqb-false}
use Rattle.lists.specs.Lists.{Bytes}
use Rattle.lines.specs.Cursor.{line_at}
use Rattle.lines.proofs.SectionLaws.{line_here, line_none, line_more}
use Rattle.lines.specs.Layout.{entry_letter}
use Rattle.tree.specs.LogText.{shown_in}
use Rattle.tree.proofs.EntryLineLaws.{shown-line, shown-other-line, shown-end}
use Rattle.rules.specs.Response.{Lookup, Entry, log_entry}
use Rattle.inputs.specs.Response.{entries_in}
use Rattle.checks.specs.Sections.{EntryLines, with_lookups}
use Rattle.checks.proofs.LineStepLaws.{no_item_end, entry_next, lookup-next, no-lookup}

-- the entries shown from a line's start on are those read from there on
abbrev Same : Bytes → ℕ → Type 0
Same s at = shown_in (drop at s) ≡ map log_entry (entries_in (drop at s))

-- an entry of the log is without the lookups
without_lookups : (e : Entry) (ls : List Lookup) → log_entry (with_lookups e ls) ≡ log_entry e
unfolding log_entry with_lookups
without_lookups e ls = refl

-- there are none at the end
none_left : (s : Bytes) (at : ℕ) → length s ≤ at → Same s at
none_left s at h = shown-end s at h ∙ sym (ap (map log_entry) (no_item_end s at h).1)

module _ (s : Bytes) (at stop next : ℕ) (e : line_at s at ≡ some (stop, next)) (a : EntryLines (drop at s))
    (others : at < next → EntryLines (drop next s) → Same s next)
  where
    -- an entry line shows its entry
    entry-shown : get_or s at 0 ≡ entry_letter → Same s at
    entry-shown q =
        let (x, es, there, lines, onward, _) = entry_next s at a stop next e (no-lookup s at a q) in
        shown-line (line_here s at stop next e) q
        ∙ ap₂ ◌∷◌ (there ∙ sym (without_lookups x _)) (others (omega arith) lines)
        ∙ sym (ap (map log_entry) es)

    -- a lookup line shows none
    lookup-shown : (get_or s at 0 ≡ entry_letter → ⊥) → Same s at
    lookup-shown q =
        let (x, _, _, es, lines, before, onward, _) = lookup-next s at a stop next e q in
        shown-other-line (line_here s at stop next e) q ∙ others (omega arith) lines
        ∙ sym (ap (map log_entry) es)

    -- every line is one of the two
    line-shown : Same s at
    line-shown = go (eqb (get_or s at 0) entry_letter) refl
      where
        go : (b : Bool) → eqb (get_or s at 0) entry_letter ≡ b → Same s at
        go true q = entry-shown (eqb-true _ _ q)
        go false q = lookup-shown (eqb-false _ _ q)

-- so they are from each line's start on, by how many bytes are left there
same_from : (k : ℕ) (s : Bytes) (at : ℕ) → length s ≤ at + k → EntryLines (drop at s) → Same s at
same_from zero s at l a = none_left s at (omega arith)
same_from (suc k) s at l a = go (dec_lt at (length s)) (line_at s at) refl (λ next h i. same_from k s next h i)
  where
    go : Dec (at < length s) → (o : Option (ℕ × ℕ)) → line_at s at ≡ o
        → ((next : ℕ) → length s ≤ next + k → EntryLines (drop next s) → Same s next) → Same s at
    go (no n) o e r = none_left s at (omega arith)
    go (yes y) none e r = absurd (line_more s at y (line_none s at e).0 a.1)
    go (yes y) (some (stop, next)) e r = line-shown s at stop next e a (λ h. r next (omega arith))

-- and in the whole text
pub entries_shown : (s : Bytes) → EntryLines s → shown_in s ≡ map log_entry (entries_in s)
entries_shown s a = same_from (length s) s 0 (omega arith) a
