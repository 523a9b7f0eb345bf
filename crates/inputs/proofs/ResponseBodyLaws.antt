-- Laws of the sections of a response together (specs/Response.antt): they make a response if one
-- `end` line ends them, the text ends there too, and each lookup follows an entry.
use mathlib.Core.Path.{◌≡◌, refl, sym, ◌∙◌, ap}
use mathlib.Core.Bool.{Bool, true, false, ◌&&◌}
use mathlib.Core.List.{List, []}
use mathlib.Core.Option.{Option, none, some}
use Prim.Native.Nat.{ℕ, ◌≤◌, ◌<◌}
use native.Mathlib.Omega.{arith}
use lib.Dec.{eqb, ltb}
use lib.ListN.{length, drop}
use borrow.Author.Tests.{eq-eqb, eqb-true, ltb-true, ltb-false}
use Rattle.std.proofs.lemmas.List.{nil_from_length}
use Rattle.lists.specs.Choice.{◌>>◌}
use Rattle.lists.specs.Lists.{Bytes, same}
use Rattle.lists.proofs.ChoiceLaws.{and_holds, holds_and, test_true, test_some}
use Rattle.lists.proofs.ListLaws.{same_refl, same_true}
use Rattle.lines.specs.Line.{Read as ReadForm, ended_lines, open_rest, read_line, leading}
use Rattle.lines.specs.Readings.{part_of}
use Rattle.lines.proofs.SectionLaws.{line_end, line_more}
use Rattle.rules.specs.Response.{Parts}
use Rattle.rules.specs.ResponseText.{end_form, Item, grouped, read_body}
use Rattle.inputs.specs.declared.response.Section.{Section}
use Rattle.inputs.specs.declared.response.Sort.TheVariants.{Steps, Entries, Nodes, Ends}
use Rattle.inputs.specs.declared.response_header.Header.{Header}
use Rattle.inputs.specs.declared.response.Response.{Response}
use Rattle.inputs.specs.Response.{steps_in, entries_in, nodes_in, parts_in, Counted, Ordered, Filled}
use Rattle.inputs.specs.Response.{loose_in}
use Rattle.inputs.specs.ResponseHeader.{parts_after}
use Rattle.inputs.specs.ResponseSections.{SectionOf}

-- what is no value is none
none_otherwise : {A : Type 0} (o : Option A) → ((a : A) → o ≡ some a → ⊥) → o ≡ none
none_otherwise none h = refl
none_otherwise (some a) h = absurd (h a refl)

module _
    (s : Bytes) (h : Header) (steps entries nodes ends : Section)
    (a : SectionOf Steps s h.next steps)
    (b : SectionOf Entries s steps.part.stop entries)
    (c : SectionOf Nodes s entries.part.stop nodes)
    (d : SectionOf Ends s nodes.part.stop ends)
  where
    -- the response that a header and sections are
    abbrev whole : Response
    whole =
        record {
          identifier = h.identifier;
          label = h.label;
          tree_size = h.tree_size;
          finding = h.finding;
          steps = steps;
          entries = entries;
          nodes = nodes;
        }

    -- the `end` lines
    abbrev ends_in : List (ReadForm end_form)
    ends_in = (leading (read_line end_form) (ended_lines (part_of s ends.part))).0

    -- how many lookups follow no entry
    abbrev loose_items : ℕ
    loose_items = length (loose_in (part_of s entries.part))

    -- how many lines follow the `end` lines
    abbrev lines_after : ℕ
    lines_after = length (ended_lines (drop ends.part.stop s))

    -- one `end` line, no line after it, and no lookup that follows no entry
    abbrev fits : Bool
    fits = eqb (length ends_in) 1 && eqb lines_after 0 && eqb loose_items 0

    -- the sections make it, if these tests hold and nothing is open
    parts-tested : parts_after s h
        ≡ (same (open_rest (drop ends.part.stop s)) [] >> (fits >> some (parts_in s whole)))
    unfolding parts_after read_body parts_in steps_in entries_in nodes_in loose_in
    parts-tested = rw (a.rest, b.rest, c.rest, d.rest, a.lines, b.lines, c.lines, d.lines) refl

    -- what holds of sections that make a response
    record Fit : Type 0 where
      nothing_open : open_rest (drop ends.part.stop s) ≡ []
      one_end : length ends_in ≡ 1
      nothing_more : lines_after ≡ 0
      none_loose : loose_items ≡ 0

    -- the tests hold where there is a response
    parts_fit : (p : Parts) → parts_after s h ≡ some p → Fit
    parts_fit p e =
        let (o, f) = test_some (same (open_rest (drop ends.part.stop s)) []) (fits >> some (parts_in s whole)) p (sym parts-tested ∙ e) in
        let (g, _) = test_some fits (some (parts_in s whole)) p f in
        let (y, w) = and_holds (eqb (length ends_in) 1 && eqb lines_after 0) (eqb loose_items 0) g in
        let (x, z) = and_holds (eqb (length ends_in) 1) (eqb lines_after 0) y in
        record {
          nothing_open = same_true (open_rest (drop ends.part.stop s)) [] o;
          one_end = eqb-true (length ends_in) 1 x;
          nothing_more = eqb-true lines_after 0 z;
          none_loose = eqb-true loose_items 0 w;
        }

    -- the lookups that follow no entry are those of the section
    loose-section : length (loose_in (drop steps.part.stop s)) ≡ loose_items
    unfolding loose_in
    loose-section = ap (λ (p : List Item × List Bytes). length (grouped p.0).0) b.lines

    -- a lookup that follows no entry makes no response
    pub parts_loose : ltb 0 (length (loose_in (drop steps.part.stop s))) ≡ true → parts_after s h ≡ none
    parts_loose e =
        let l = ltb-true 0 (length (loose_in (drop steps.part.stop s))) e in
        none_otherwise (parts_after s h) (λ p q. let f = parts_fit p q in omega (arith, f.none_loose, loose-section))

    -- nor does a text without `end`, or with several
    pub parts-unended : (ends.count ≡ 1 → ⊥) → parts_after s h ≡ none
    parts-unended n = none_otherwise (parts_after s h) (λ p q. n (d.counted ∙ (parts_fit p q).one_end))

    -- nor one in which something follows `end`
    pub parts_more : ends.part.stop < length s → parts_after s h ≡ none
    parts_more l =
        none_otherwise (parts_after s h)
        (λ p q. let f = parts_fit p q in line_more s ends.part.stop l (nil_from_length (ended_lines (drop ends.part.stop s)) f.nothing_more) f.nothing_open)

    module _ (n : ltb 0 (length (loose_in (drop steps.part.stop s))) ≡ false) (o : ends.count ≡ 1) (w : length s ≤ ends.part.stop) where
      -- in all other cases the sections make the response
      pub parts_whole : parts_after s h ≡ some (parts_in s whole)
      parts_whole =
          let (m, r) = line_end s ends.part.stop w in
          let l = ltb-false 0 (length (loose_in (drop steps.part.stop s))) n in
          let x : eqb (length ends_in) 1 ≡ true = eq-eqb (length ends_in) 1 (sym d.counted ∙ o) in
          let y : eqb lines_after 0 ≡ true = eq-eqb lines_after 0 (ap length m) in
          let z : eqb loose_items 0 ≡ true = eq-eqb loose_items 0 (omega (arith, loose-section)) in
          let t = holds_and (eqb (length ends_in) 1 && eqb lines_after 0) (eqb loose_items 0) (holds_and (eqb (length ends_in) 1) (eqb lines_after 0) x y) z in
          parts-tested
          ∙ test_true (same (open_rest (drop ends.part.stop s)) []) (fits >> some (parts_in s whole)) (rw r (same_refl []))
          ∙ test_true fits (some (parts_in s whole)) t

    -- the counts of the sections are right
    pub parts-counted : Counted s whole
    unfolding steps_in entries_in nodes_in
    parts-counted = record { steps = a.counted; entries = b.counted; nodes = c.counted }

    -- and they follow each other
    pub parts-ordered : Ordered s whole
    parts-ordered =
        record {
          entries_follow = sym b.starts;
          nodes_follow = sym c.starts;
          steps_forward = rw a.starts a.forward;
          entries_forward = rw b.starts b.forward;
          nodes_forward = rw c.starts c.forward;
          within = c.within;
        }

    -- and each is whole
    pub parts-filled : ltb 0 (length (loose_in (drop steps.part.stop s))) ≡ false → Filled s whole
    parts-filled n =
        let l = ltb-false 0 (length (loose_in (drop steps.part.stop s))) n in
        record {
          steps = a.whole;
          entries = b.whole;
          none_loose = nil_from_length (loose_in (part_of s entries.part)) (omega (arith, loose-section));
          nodes = c.whole;
        }
