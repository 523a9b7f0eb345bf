-- Laws of the entry lines of a text (specs/LogText.antt): where they begin, line by line, and the
-- entries that the text shows.
use mathlib.Core.Path.{◌≡◌, refl, sym, ap, ap₂, subst, ◌∙◌}
use mathlib.Core.Bool.{Bool, true, false, false≢true}
use mathlib.Core.List.{List, [], ◌∷◌, ◌++◌}
use Prim.Native.Nat.{ℕ, zero, suc, ◌+◌, ◌-◌, ◌≤◌, ◌<◌}
use native.Mathlib.Nat.{add-zero}
use native.Mathlib.Numerals.{add-one}
use native.Mathlib.Decide.{dec_lt}
use native.Mathlib.Omega.{arith}
use lib.Dec.{eqb}
use lib.ListN.{length, get_or, take, drop, length-drop}
use lib.Seq.{get_or-drop, drop-drop, length-take-le}
use borrow.Author.Tests.{eq-eqb, ne_eqb, eqb-true, eqb-false}
use Rattle.lists.specs.Lists.{Bytes}
use Rattle.lists.proofs.ChoiceLaws.{choose_true, choose_false}
use Rattle.lists.proofs.ListLaws.{Lacks}
use Rattle.lines.specs.Field.{write_fields}
use Rattle.lines.specs.Line.{tab, newline, Form, Read, parts_at, before, after, joined}
use Rattle.lines.proofs.OffsetLaws.{at_end, before_stop, before_byte, after_rest, after_at, before_lacks}
use Rattle.lines.proofs.OffsetLaws.{after_lacks}
use Rattle.lines.proofs.LineLaws.{line_text, parts_last, parts_more}
use Rattle.lines.proofs.SectionLaws.{LineHere, before_free, split_before, all_before}
use Rattle.lines.specs.Layout.{entry_fields, entry_letter}
use Rattle.tree.specs.LogTree.{LogEntry}
use Rattle.tree.specs.LogText.{entry_in, is_entry_line, next_line, offsets_from, entry_offsets, entries_at}
use Rattle.tree.specs.LogText.{shown_in}

-- ---- the first line

-- a string that begins with the letter begins with an entry line
entry_line : (s : Bytes) → get_or s 0 0 ≡ entry_letter → is_entry_line (before newline s) ≡ true
unfolding is_entry_line
entry_line [] e = absurd (omega arith)
entry_line (b ∷ s) e = rw (before_byte newline b s (λ z. omega arith)) (eq-eqb b entry_letter e)

-- any other does not
other_line : (s : Bytes) → (get_or s 0 0 ≡ entry_letter → ⊥) → is_entry_line (before newline s) ≡ false
unfolding is_entry_line before
other_line [] n = refl
other_line (b ∷ s) n = go (eqb b newline) refl
  where
    go : (t : Bool) → eqb b newline ≡ t → is_entry_line (before newline (b ∷ s)) ≡ false
    go true e = rw (before_stop newline b s (eqb-true b newline e)) refl
    go false e = rw (before_byte newline b s (eqb-false b newline e)) (ne_eqb b entry_letter n)

module _ (at : ℕ) (l : Bytes) (ls : List Bytes) where
  offsets-entry : is_entry_line l ≡ true → offsets_from at (l ∷ ls) ≡ at ∷ offsets_from (at + length l + 1) ls
  unfolding offsets_from
  offsets-entry e = choose_true (is_entry_line l) _ _ e

  offsets-other : is_entry_line l ≡ false → offsets_from at (l ∷ ls) ≡ offsets_from (at + length l + 1) ls
  unfolding offsets_from
  offsets-other e = choose_false (is_entry_line l) _ _ e

  -- what matters of the lines after it is where entry lines begin among them
  offsets-alike : (ms : List Bytes) → offsets_from (at + length l + 1) ls ≡ offsets_from (at + length l + 1) ms → offsets_from at (l ∷ ls) ≡ offsets_from at (l ∷ ms)
  unfolding offsets_from
  offsets-alike ms e = rw e refl

-- in a string without bytes no line is an entry line
offsets_none : (at : ℕ) → offsets_from at (parts_at newline []) ≡ []
unfolding offsets_from parts_at is_entry_line
offsets_none at = offsets-other at [] [] refl

-- the lines of a string are the first one and those after it; an open one may be taken to stand
-- before an empty one
lines_first : (at : ℕ) (s : Bytes) → offsets_from at (parts_at newline s) ≡ offsets_from at (before newline s ∷ parts_at newline (after newline s))
unfolding offsets_from
lines_first at s = go (dec_lt (length (before newline s)) (length s))
  where
    go : Dec (length (before newline s) < length s) → offsets_from at (parts_at newline s) ≡ offsets_from at (before newline s ∷ parts_at newline (after newline s))
    go (yes h) = ap (offsets_from at) (ap (parts_at newline) (split_before newline s h) ∙ parts_more newline (before newline s) (after newline s) (before_free newline s))
    go (no h) =
        let b : before newline s ≡ s = all_before newline s (omega arith) in
        let l : Lacks newline s = subst (Lacks newline) b (before_free newline s) in
        let n : after newline s ≡ [] = after_rest newline s ∙ at_end s (suc (length (before newline s))) (omega arith) in
        let i : ℕ = at + length (before newline s) + 1 in
        ap (offsets_from at) (parts_last newline s l ∙ ap (λ (x : Bytes). x ∷ []) (sym b))
        ∙ offsets-alike at (before newline s) [] (parts_at newline (after newline s))
        (sym (ap (λ (x : Bytes). offsets_from i (parts_at newline x)) n ∙ offsets_none i))

module _ (at : ℕ) (s : Bytes) where
  -- a string that begins with an entry line
  first_entry : get_or s 0 0 ≡ entry_letter → offsets_from at (parts_at newline s) ≡ at ∷ offsets_from (at + length (before newline s) + 1) (parts_at newline (after newline s))
  first_entry e = lines_first at s ∙ offsets-entry at (before newline s) (parts_at newline (after newline s)) (entry_line s e)

  -- one that begins with another
  first-other : (get_or s 0 0 ≡ entry_letter → ⊥) → offsets_from at (parts_at newline s) ≡ offsets_from (at + length (before newline s) + 1) (parts_at newline (after newline s))
  first-other n = lines_first at s ∙ offsets-other at (before newline s) (parts_at newline (after newline s)) (other_line s n)

-- ---- from a line's start on

module _ (t : Bytes) (at : ℕ) where
  front : get_or (drop at t) 0 0 ≡ get_or t at 0
  front = get_or-drop at t 0 0 ∙ ap (λ (i : ℕ). get_or t i 0) (add-zero at)

  behind : (ps : List ℕ → List ℕ) → ps (offsets_from (next_line t at) (parts_at newline (after newline (drop at t)))) ≡ ps (entry_offsets t (next_line t at))
  unfolding entry_offsets
  behind ps = ap (λ (s : Bytes). ps (offsets_from (next_line t at) (parts_at newline s))) (sym (after_at newline t at (at + length (before newline (drop at t))) refl))

  -- an entry line begins here
  offsets-here : get_or t at 0 ≡ entry_letter → entry_offsets t at ≡ at ∷ entry_offsets t (next_line t at)
  unfolding entry_offsets
  offsets-here e = first_entry at (drop at t) (front ∙ e) ∙ behind (λ ps. at ∷ ps)

  -- another line does
  offsets-later : (get_or t at 0 ≡ entry_letter → ⊥) → entry_offsets t at ≡ entry_offsets t (next_line t at)
  unfolding entry_offsets
  offsets-later n = first-other at (drop at t) (λ z. n (sym front ∙ z)) ∙ behind (λ ps. ps)

  -- nothing is left
  offsets-end : length t ≤ at → entry_offsets t at ≡ []
  unfolding entry_offsets
  offsets-end h = ap (λ (s : Bytes). offsets_from at (parts_at newline s)) (at_end t at h) ∙ offsets_none at

-- ---- each entry line

-- the line of a number among some is in the text, and after it the others follow
abbrev Follow : Bytes → List ℕ → ℕ → Type 0
Follow t ps i = (get_or ps i 0 < length t) × (drop (suc i) ps ≡ entry_offsets t (next_line t (get_or ps i 0)))

-- so it is with all that begin from a line's start on: by how many bytes are left there
follows : (k : ℕ) (t : Bytes) (at i : ℕ) → length t ≤ at + k → i < length (entry_offsets t at) → Follow t (entry_offsets t at) i
follows zero t at i l h = let e = ap length (offsets-end t at (omega arith)) in absurd (omega arith)
follows (suc k) t at i l h = go (dec_lt at (length t)) (eqb (get_or t at 0) entry_letter) refl i (λ j. follows k t (next_line t at) j (omega arith)) h
  where
    go : Dec (at < length t) → (b : Bool) → eqb (get_or t at 0) entry_letter ≡ b → (i : ℕ)
        → ((j : ℕ) → j < length (entry_offsets t (next_line t at)) → Follow t (entry_offsets t (next_line t at)) j) → i < length (entry_offsets t at)
        → Follow t (entry_offsets t at) i
    go (no n) b e i r h = let e = ap length (offsets-end t at (omega arith)) in absurd (omega arith)
    go (yes y) true e zero r h = rw (offsets-here t at (eqb-true _ _ e)) (y, refl)
    go (yes y) true e (suc i) r h =
        let p = offsets-here t at (eqb-true _ _ e) in
        rw p (r i (let z = ap length p in omega arith))
    go (yes y) false e i r h =
        let p = offsets-later t at (eqb-false _ _ e) in
        rw p (r i (let z = ap length p in omega arith))

module _ (t : Bytes) (start i : ℕ) (h : i < length (entry_offsets t start)) where
  -- it begins in the text
  pub offset-within : get_or (entry_offsets t start) i 0 < length t
  offset-within = (follows (length t) t start i (omega arith) h).0

  -- after it the others follow
  pub offsets-behind : drop (i + 1) (entry_offsets t start) ≡ entry_offsets t (next_line t (get_or (entry_offsets t start) i 0))
  offsets-behind = rw (add-one i) (follows (length t) t start i (omega arith) h).1

-- ---- the first entry line

-- where it begins, or the end of the text
abbrev pub first_offset : Bytes → ℕ → ℕ
first_offset t start = get_or (entry_offsets t start) 0 (length t)

module _ (t : Bytes) (at : ℕ) where
  -- an entry line at an offset is the first from there on
  pub first_here : get_or t at 0 ≡ entry_letter → first_offset t at ≡ at
  first_here e = ap (λ (ps : List ℕ). get_or ps 0 (length t)) (offsets-here t at e)

  -- after another line the same one is
  pub first_later : (get_or t at 0 ≡ entry_letter → ⊥) → first_offset t at ≡ first_offset t (next_line t at)
  first_later n = ap (λ (ps : List ℕ). get_or ps 0 (length t)) (offsets-later t at n)

  -- at the end there is none
  pub first-end : length t ≤ at → first_offset t at ≡ length t
  first-end h = ap (λ (ps : List ℕ). get_or ps 0 (length t)) (offsets-end t at h)

-- from there on the same lines begin as from the start on, and no more is left than there: where
-- nothing is left
first_none : (t : Bytes) (start : ℕ) → length t ≤ start → (entry_offsets t (first_offset t start) ≡ entry_offsets t start) × (length t - first_offset t start ≤ length t - start)
first_none t start h =
    let p = first-end t start h in
    (ap (entry_offsets t) p ∙ offsets-end t (length t) (omega arith) ∙ sym (offsets-end t start h), omega arith)

-- and everywhere, by how many bytes are left
first_from : (k : ℕ) (t : Bytes) (start : ℕ) → length t ≤ start + k
    → (entry_offsets t (first_offset t start) ≡ entry_offsets t start) × (length t - first_offset t start ≤ length t - start)
first_from zero t start l = first_none t start (omega arith)
first_from (suc k) t start l = go (dec_lt start (length t)) (eqb (get_or t start 0) entry_letter) refl (first_from k t (next_line t start) (omega arith))
  where
    go : Dec (start < length t) → (b : Bool) → eqb (get_or t start 0) entry_letter ≡ b
        → (entry_offsets t (first_offset t (next_line t start)) ≡ entry_offsets t (next_line t start)) × (length t - first_offset t (next_line t start) ≤ length t - next_line t start)
        → (entry_offsets t (first_offset t start) ≡ entry_offsets t start) × (length t - first_offset t start ≤ length t - start)
    go (no n) b e r = first_none t start (omega arith)
    go (yes y) true e r = let p = first_here t start (eqb-true _ _ e) in (ap (entry_offsets t) p, omega arith)
    go (yes y) false e r =
        let n = eqb-false _ _ e in
        let p = first_later t start n in
        (ap (entry_offsets t) p ∙ r.0 ∙ sym (offsets-later t start n), omega arith)

-- no more is left there than at the start
pub first_onward : (t : Bytes) (start : ℕ) → length t - first_offset t start ≤ length t - start
first_onward t start = (first_from (length t) t start (omega arith)).1

-- ---- the entries that a text shows

entries_cons : (t : Bytes) (p : ℕ) (ps : List ℕ) → entries_at t (p ∷ ps) ≡ entry_in (drop (p + entry_fields) t) ∷ entries_at t ps
unfolding entries_at
entries_cons t p ps = refl

-- what stands before some lines does not matter to their entries
entries_shift : (n at : ℕ) (t : Bytes) (ls : List Bytes) → entries_at t (offsets_from (n + at) ls) ≡ entries_at (drop n t) (offsets_from at ls)
unfolding entries_at offsets_from
entries_shift n at t [] = refl
entries_shift n at t (l ∷ ls) = go (is_entry_line l) refl (entries_shift n (at + length l + 1) t ls)
  where
    go : (b : Bool) → is_entry_line l ≡ b → entries_at t (offsets_from (n + (at + length l + 1)) ls) ≡ entries_at (drop n t) (offsets_from (at + length l + 1) ls)
        → entries_at t (offsets_from (n + at) (l ∷ ls)) ≡ entries_at (drop n t) (offsets_from at (l ∷ ls))
    go true e i =
        let z : n + at + length l + 1 ≡ n + (at + length l + 1) = omega arith in
        let w : n + at + entry_fields ≡ n + (at + entry_fields) = omega arith in
        ap (entries_at t) (offsets-entry (n + at) l ls e) ∙ entries_cons t (n + at) (offsets_from (n + at + length l + 1) ls)
        ∙ ap₂ ◌∷◌
        (ap entry_in (ap (λ (j : ℕ). drop j t) w ∙ sym (drop-drop (at + entry_fields) n t)))
        (ap (λ (j : ℕ). entries_at t (offsets_from j ls)) z ∙ i)
        ∙ sym (ap (entries_at (drop n t)) (offsets-entry at l ls e) ∙ entries_cons (drop n t) at (offsets_from (at + length l + 1) ls))
    go false e i =
        let z : n + at + length l + 1 ≡ n + (at + length l + 1) = omega arith in
        ap (entries_at t) (offsets-other (n + at) l ls e) ∙ ap (λ (j : ℕ). entries_at t (offsets_from j ls)) z ∙ i ∙ sym (ap (entries_at (drop n t)) (offsets-other at l ls e))

-- the entries from a line's start on are those of the text that is left there
pub shown_from : (t : Bytes) (start : ℕ) → entries_at t (entry_offsets t start) ≡ shown_in (drop start t)
unfolding shown_in entry_offsets
shown_from t start =
    ap (λ (i : ℕ). entries_at t (offsets_from i (parts_at newline (drop start t)))) (sym (add-zero start)) ∙ entries_shift start 0 t (parts_at newline (drop start t))

-- a text without bytes shows none
pub shown_nil : shown_in [] ≡ []
unfolding shown_in entries_at
shown_nil = ap (entries_at []) (offsets-end [] 0 (omega arith))

-- an entry line shows its entry, before those that the lines after it show
pub shown_entry : (s : Bytes) → get_or s 0 0 ≡ entry_letter → shown_in s ≡ entry_in (drop entry_fields s) ∷ shown_in (after newline s)
unfolding shown_in
shown_entry s e =
    ap (entries_at s) (offsets-here s 0 e) ∙ entries_cons s 0 (entry_offsets s (next_line s 0))
    ∙ ap (λ (es : List LogEntry). entry_in (drop entry_fields s) ∷ es)
    (shown_from s (next_line s 0) ∙ ap shown_in (after_at newline s 0 (0 + length (before newline s)) refl))

-- another line shows none
pub shown_other : (s : Bytes) → (get_or s 0 0 ≡ entry_letter → ⊥) → shown_in s ≡ shown_in (after newline s)
unfolding shown_in
shown_other s n =
    ap (entries_at s) (offsets-later s 0 n) ∙ shown_from s (next_line s 0) ∙ ap shown_in (after_at newline s 0 (0 + length (before newline s)) refl)

-- the same at an offset of a text
module _ (t : Bytes) (at : ℕ) where
  pub shown-entry-at : get_or t at 0 ≡ entry_letter → shown_in (drop at t) ≡ entry_in (drop (at + entry_fields) t) ∷ shown_in (drop (next_line t at) t)
  shown-entry-at e =
      shown_entry (drop at t) (front t at ∙ e)
      ∙ ap₂ (λ (f s : Bytes). entry_in f ∷ shown_in s) (drop-drop entry_fields at t) (sym (after_at newline t at (at + length (before newline (drop at t))) refl))

  pub shown-other-at : (get_or t at 0 ≡ entry_letter → ⊥) → shown_in (drop at t) ≡ shown_in (drop (next_line t at) t)
  shown-other-at n =
      shown_other (drop at t) (λ z. n (sym (front t at) ∙ z)) ∙ ap shown_in (sym (after_at newline t at (at + length (before newline (drop at t))) refl))

  pub shown-end : length t ≤ at → shown_in (drop at t) ≡ []
  shown-end h = ap shown_in (at_end t at h) ∙ shown_nil

-- ---- from the first entry line on

module _ (t : Bytes) (start at : ℕ) (e : at ≡ first_offset t start) where
  same-offsets : entry_offsets t at ≡ entry_offsets t start
  same-offsets = ap (entry_offsets t) e ∙ (first_from (length t) t start (omega arith)).0

  -- where it begins it is the first again
  pub first-again : at ≡ first_offset t at
  first-again = e ∙ sym (ap (λ (ps : List ℕ). get_or ps 0 (length t)) same-offsets)

  -- the same entries are shown from there on as from the start on
  pub shown-same : shown_in (drop at t) ≡ shown_in (drop start t)
  shown-same = sym (shown_from t at) ∙ ap (entries_at t) same-offsets ∙ shown_from t start

-- where an entry line is the first its entry is shown, before those that the lines after it show
pub shown_first : (t : Bytes) (at : ℕ) → at < length t → at ≡ first_offset t at → shown_in (drop at t) ≡ entry_in (drop (at + entry_fields) t) ∷ shown_in (drop (next_line t at) t)
shown_first t at h e = go (eqb (get_or t at 0) entry_letter) refl
  where
    go : (b : Bool) → eqb (get_or t at 0) entry_letter ≡ b → shown_in (drop at t) ≡ entry_in (drop (at + entry_fields) t) ∷ shown_in (drop (next_line t at) t)
    go true p = shown-entry-at t at (eqb-true _ _ p)
    go false p = absurd (omega (arith, first_later t at (eqb-false _ _ p), first_onward t (next_line t at)))

-- ---- lines that are known

-- a line of a form is an entry line if the word that it begins with begins so
pub form_begins : (f : Form) (vs : Read f) (b : ℕ) (w : Bytes) (ws : List Bytes) → f.words ≡ (b ∷ w) ∷ ws → is_entry_line (line_text f vs) ≡ eqb b entry_letter
unfolding is_entry_line line_text joined
form_begins f vs b w ws e = rw e (go (ws ++ write_fields f.fields vs))
  where
    go : (ps : List Bytes) → eqb (get_or (joined tab ((b ∷ w) ∷ ps)) 0 0) entry_letter ≡ eqb b entry_letter
    go [] = refl
    go (p ∷ ps) = refl

-- a text begins as the line at its front does
line_front : (l s : Bytes) → (get_or (l ++ newline ∷ s) 0 0 ≡ entry_letter → is_entry_line l ≡ true) × (is_entry_line l ≡ true → get_or (l ++ newline ∷ s) 0 0 ≡ entry_letter)
unfolding is_entry_line
line_front [] s = ((λ e. absurd (omega arith)), (λ e. absurd (false≢true e)))
line_front (b ∷ l) s = ((λ e. eq-eqb b entry_letter e), (λ e. eqb-true b entry_letter e))

module _ (l s : Bytes) (h : Lacks newline l) where
  -- an entry line before a text
  pub shown_cons : is_entry_line l ≡ true → shown_in (l ++ newline ∷ s) ≡ entry_in (drop entry_fields (l ++ newline ∷ s)) ∷ shown_in s
  shown_cons e =
      shown_entry (l ++ newline ∷ s) ((line_front l s).1 e)
      ∙ ap (λ (r : Bytes). entry_in (drop entry_fields (l ++ newline ∷ s)) ∷ shown_in r) (after_lacks newline l s h)

  -- another line before a text
  pub shown-skip : is_entry_line l ≡ false → shown_in (l ++ newline ∷ s) ≡ shown_in s
  shown-skip e = shown_other (l ++ newline ∷ s) (λ z. false≢true (sym e ∙ (line_front l s).0 z)) ∙ ap shown_in (after_lacks newline l s h)

module _ {t : Bytes} {at stop next : ℕ} (h : LineHere t at stop next) where
  next-line : next_line t at ≡ next
  next-line =
      let l : Bytes = take (stop - at) (drop at t) in
      let b : before newline (drop at t) ≡ l = ap (before newline) h.text ∙ before_lacks newline l (drop next t) h.lacks in
      let n : length (before newline (drop at t)) ≡ stop - at = ap length b ∙ length-take-le (stop - at) (drop at t) (omega (arith, length-drop at t, h.forward, h.within)) in
      omega (arith, h.forward, h.next_is)

  -- an entry line at an offset of a text
  pub shown-line : get_or t at 0 ≡ entry_letter → shown_in (drop at t) ≡ entry_in (drop (at + entry_fields) t) ∷ shown_in (drop next t)
  shown-line e = shown-entry-at t at e ∙ ap (λ (i : ℕ). entry_in (drop (at + entry_fields) t) ∷ shown_in (drop i t)) next-line

  -- another line there
  pub shown-other-line : (get_or t at 0 ≡ entry_letter → ⊥) → shown_in (drop at t) ≡ shown_in (drop next t)
  shown-other-line n = shown-other-at t at n ∙ ap (λ (i : ℕ). shown_in (drop i t)) next-line
