-- Lines of a text from an offset on (specs/Line.antt, specs/Cursor.antt): the line at an offset,
-- and sections, which are lines that follow each other.
use mathlib.Core.Path.{◌≡◌, refl, sym, ◌∙◌, ap, ap₂}
use mathlib.Core.Bool.{Bool, true, false}
use mathlib.Core.List.{List, [], ◌∷◌, ◌++◌, append_assoc, append-nil}
use mathlib.Core.Option.{Option, none, some}
use Prim.Native.Nat.{ℕ, ◌+◌, ◌-◌, ◌≤◌, ◌<◌}
use native.Mathlib.Omega.{arith}
use lib.Dec.{eqb, ltb}
use lib.ListN.{length, length-append, length-drop, length-take, take, drop}
use lib.Seq.{take-append_seam}
use borrow.Author.Tests.{ltb-true, ltb-false, eqb-true, eqb-false}
use Rattle.lists.specs.Lists.{Bytes, all_but_last, last_or}
use Rattle.lists.proofs.ChoiceLaws.{provided_some, provided_none}
use Rattle.lists.proofs.ListLaws.{Lacks}
use Rattle.lines.specs.Line.{newline, parts_at, before, after, ended_lines, open_rest, leading, joined}
use Rattle.lines.specs.Cursor.{line_at}
use Rattle.lines.proofs.LineLaws.{AllLack, all_lack_append, parts_ended, joined_parts, parts_last}
use Rattle.lines.proofs.LineLaws.{parts_more, parts_some, lines_text, text_append, leading_end}
use Rattle.lines.proofs.LineLaws.{leading-none, leading-some}
use Rattle.lines.proofs.OffsetLaws.{at_end, before_stop, before_byte, after_stop, after_byte}
use Rattle.lines.proofs.OffsetLaws.{before_front, before_at, after_at}

-- ---- the first byte k of a string

-- what stands before it lacks it
pub before_free : (k : ℕ) (s : Bytes) → Lacks k (before k s)
unfolding before
before_free k [] = tt
before_free k (b ∷ s) = go (eqb b k) refl (before_free k s)
  where
    go : (t : Bool) → eqb b k ≡ t → Lacks k (before k s) → Lacks k (before k (b ∷ s))
    go true e i = rw (before_stop k b s (eqb-true b k e)) tt
    go false e i = rw (before_byte k b s (eqb-false b k e)) (eqb-false b k e, i)

-- where there is one, the string is what stands before it, the byte, and what stands after it
pub split_before : (k : ℕ) (s : Bytes) → length (before k s) < length s → s ≡ before k s ++ k ∷ after k s
unfolding before after
split_before k [] h = absurd (omega arith)
split_before k (b ∷ s) h = go (eqb b k) refl (split_before k s) h
  where
    go : (t : Bool) → eqb b k ≡ t → (length (before k s) < length s → s ≡ before k s ++ k ∷ after k s)
        → length (before k (b ∷ s)) < length (b ∷ s)
        → b ∷ s ≡ before k (b ∷ s) ++ k ∷ after k (b ∷ s)
    go true e i h =
        let q = eqb-true b k e in
        rw (before_stop k b s q, after_stop k b s q) (ap (λ (x : ℕ). x ∷ s) q)
    go false e i h =
        let n = eqb-false b k e in
        let l : length (before k s) < length s = let z = ap length (before_byte k b s n) in omega arith in
        rw (before_byte k b s n, after_byte k b s n) (ap (λ (t : Bytes). b ∷ t) (i l))

-- where there is none, all of it stands before
pub all_before : (k : ℕ) (s : Bytes) → length s ≤ length (before k s) → before k s ≡ s
unfolding before
all_before k [] h = refl
all_before k (b ∷ s) h = go (eqb b k) refl (all_before k s) h
  where
    go : (t : Bool) → eqb b k ≡ t → (length s ≤ length (before k s) → before k s ≡ s)
        → length (b ∷ s) ≤ length (before k (b ∷ s)) → before k (b ∷ s) ≡ b ∷ s
    go true e i h = let z = ap length (before_stop k b s (eqb-true b k e)) in absurd (omega arith)
    go false e i h =
        let n = eqb-false b k e in
        let l : length s ≤ length (before k s) = let z = ap length (before_byte k b s n) in omega arith in
        before_byte k b s n ∙ ap (λ (t : Bytes). b ∷ t) (i l)

-- no more stands before it than there is
pub before_short : (k : ℕ) (s : Bytes) → length (before k s) ≤ length s
before_short k s = let e = ap length (before_front k s) in omega (arith, length-take (length (before k s)) s)

-- ---- ended lines

-- a line that a newline ends is the first of the ended lines
pub ended_cons : (l s : Bytes) → Lacks newline l → ended_lines (l ++ newline ∷ s) ≡ l ∷ ended_lines s
unfolding ended_lines all_but_last
ended_cons l s h = let (p, ps, e) = parts_some newline s in rw (parts_more newline l s h, e) refl

-- and what is open after it is what is open after all
pub open_cons : (l s : Bytes) → Lacks newline l → open_rest (l ++ newline ∷ s) ≡ open_rest s
unfolding open_rest last_or
open_cons l s h = let (p, ps, e) = parts_some newline s in rw (parts_more newline l s h, e) refl

-- without a newline there is no ended line
pub ended_none : (s : Bytes) → Lacks newline s → ended_lines s ≡ []
unfolding ended_lines all_but_last
ended_none s h = rw (parts_last newline s h) refl

-- and everything is open
pub open_none : (s : Bytes) → Lacks newline s → open_rest s ≡ s
unfolding open_rest last_or
open_none s h = rw (parts_last newline s h) refl

-- lines before a text are ended lines of both together
pub ended_lines_lem : (ls : List Bytes) (s : Bytes) → AllLack newline ls
    → ended_lines (lines_text ls ++ s) ≡ ls ++ ended_lines s
ended_lines_lem [] s h = refl
ended_lines_lem (l ∷ ls) s (h, i) =
    ap ended_lines (append_assoc l (newline ∷ lines_text ls) s) ∙ ended_cons l (lines_text ls ++ s) h
    ∙ ap (λ (ms : List Bytes). l ∷ ms) (ended_lines_lem ls s i)

-- and leave what is open
pub open_lines : (ls : List Bytes) (s : Bytes) → AllLack newline ls → open_rest (lines_text ls ++ s) ≡ open_rest s
open_lines [] s h = refl
open_lines (l ∷ ls) s (h, i) =
    ap open_rest (append_assoc l (newline ∷ lines_text ls) s) ∙ open_cons l (lines_text ls ++ s) h ∙ open_lines ls s i

-- the ended lines of the text of lines are these lines
pub ended_text : (ls : List Bytes) → AllLack newline ls → ended_lines (lines_text ls) ≡ ls
ended_text ls h =
    ap ended_lines (sym (append-nil (lines_text ls))) ∙ ended_lines_lem ls [] h
    ∙ ap (λ (ms : List Bytes). ls ++ ms) (ended_none [] tt) ∙ append-nil ls

-- one part is what it is joined to
joined_one : (k : ℕ) (p : Bytes) → p ≡ joined k (p ∷ [])
unfolding joined
joined_one k p = refl

-- ---- the line at an offset

-- the line that stands there, and what follows it
pub record LineHere (s : Bytes) (at stop next : ℕ) : Type 0 where
  pub forward : at ≤ stop
  pub within : stop < length s
  pub next_is : next ≡ stop + 1
  pub lacks : Lacks newline (take (stop - at) (drop at s))
  pub text : drop at s ≡ take (stop - at) (drop at s) ++ newline ∷ drop next s
  pub lines : ended_lines (drop at s) ≡ take (stop - at) (drop at s) ∷ ended_lines (drop next s)
  pub rest : open_rest (drop at s) ≡ open_rest (drop next s)

pub line_here : (s : Bytes) (at stop next : ℕ) → line_at s at ≡ some (stop, next) → LineHere s at stop next
unfolding line_at
line_here s at stop next e =
    let b = before newline (drop at s) in
    let end = at + length b in
    let (t, q) = provided_some (ltb end (length s)) (end, end + 1) (stop, next) e in
    let p : stop ≡ end = sym (ap (λ (x : ℕ × ℕ). x.0) q) in
    let n : next ≡ end + 1 = sym (ap (λ (x : ℕ × ℕ). x.1) q) in
    let w : end < length s = ltb-true end (length s) t in
    let f : take (stop - at) (drop at s) ≡ b = before_at newline s at stop p in
    let a : drop next s ≡ after newline (drop at s) =
    ap (λ (i : ℕ). drop i s) (n ∙ ap (λ (i : ℕ). i + 1) (sym p)) ∙ after_at newline s at stop p in
    let l : length b < length (drop at s) = omega (arith, length-drop at s) in
    let x : drop at s ≡ b ++ newline ∷ drop next s =
    split_before newline (drop at s) l ∙ ap (λ (u : Bytes). b ++ newline ∷ u) (sym a) in
    let free = before_free newline (drop at s) in
    record {
      forward = omega arith;
      within = omega arith;
      next_is = omega arith;
      lacks = rw f free;
      text = rw f x;
      lines = rw f (ap ended_lines x ∙ ended_cons b (drop next s) free);
      rest = ap open_rest x ∙ open_cons b (drop next s) free;
    }

-- where no newline follows, there is no line, and everything is open
pub line_none : (s : Bytes) (at : ℕ) → line_at s at ≡ none → (ended_lines (drop at s) ≡ [])
    × (open_rest (drop at s) ≡ drop at s)
unfolding line_at
line_none s at e =
    let b = before newline (drop at s) in
    let end = at + length b in
    let w : length s ≤ end = ltb-false end (length s) (provided_none (ltb end (length s)) (end, end + 1) e) in
    let x : b ≡ drop at s = all_before newline (drop at s) (omega (arith, length-drop at s)) in
    let free : Lacks newline (drop at s) = rw (← x) (before_free newline (drop at s)) in
    (ended_none (drop at s) free, open_none (drop at s) free)

-- at the end there is no line, and nothing is open
pub line_end : (s : Bytes) (at : ℕ) → length s ≤ at → (ended_lines (drop at s) ≡ []) × (open_rest (drop at s) ≡ [])
line_end s at h = rw (at_end s at h) (ended_none [] tt, open_none [] tt)

-- before the end something stands: a line, or what is open
pub line_more : (s : Bytes) (at : ℕ) → at < length s → ended_lines (drop at s) ≡ [] → open_rest (drop at s) ≡ [] → ⊥
line_more s at h e f =
    let p : parts_at newline (drop at s) ≡ [] ∷ [] =
    parts_ended (drop at s) ∙ ap₂ (λ (ms : List Bytes) (t : Bytes). ms ++ t ∷ []) e f in
    let q : joined newline ([] ∷ []) ≡ drop at s = ap (joined newline) (sym p) ∙ joined_parts newline (drop at s) in
    let l = ap length (joined_one newline [] ∙ q) in
    omega (arith, length-drop at s)

-- ---- sections

-- from an offset to another stand these lines, whole
pub record Section (s : Bytes) (from at : ℕ) (ls : List Bytes) : Type 0 where
  pub forward : from ≤ at
  pub within : at ≤ length s
  pub lack : AllLack newline ls
  pub part : take (at - from) (drop from s) ≡ lines_text ls
  pub text : drop from s ≡ lines_text ls ++ drop at s

-- none stand from an offset to itself
pub section_start : (s : Bytes) (from : ℕ) → from ≤ length s → Section s from from []
section_start s from h =
    let z : from - from ≡ 0 = omega arith in
    record { forward = omega arith; within = h; lack = tt; part = rw z refl; text = refl }

-- the line that follows a section belongs to the section up to the next line
pub section_next : (s : Bytes) (from at stop next : ℕ) (ls : List Bytes) → Section s from at ls
    → LineHere s at stop next
    → Section s from next (ls ++ take (stop - at) (drop at s) ∷ [])
section_next s from at stop next ls c h =
    let l = take (stop - at) (drop at s) in
    let f = c.forward in
    let g = h.forward in
    let w = h.within in
    let n = h.next_is in
    let x : lines_text (ls ++ l ∷ []) ≡ lines_text ls ++ (l ++ newline ∷ []) = text_append ls (l ∷ []) in
    let y : drop from s ≡ lines_text (ls ++ l ∷ []) ++ drop next s =
    c.text ∙ ap (λ (t : Bytes). lines_text ls ++ t) h.text
    ∙ ap (λ (t : Bytes). lines_text ls ++ t) (sym (append_assoc l (newline ∷ []) (drop next s)))
    ∙ sym (append_assoc (lines_text ls) (l ++ newline ∷ []) (drop next s))
    ∙ ap (λ (t : Bytes). t ++ drop next s) (sym x) in
    let k : length (lines_text (ls ++ l ∷ [])) ≡ next - from =
    let a =
    ap length y in omega
    (arith, length-append (lines_text (ls ++ l ∷ [])) (drop next s), length-drop from s, length-drop next s) in
    record {
      forward = omega arith;
      within = omega arith;
      lack = all_lack_append newline ls (l ∷ []) c.lack (h.lacks, tt);
      part = ap₂ take (sym k) y ∙ take-append_seam (lines_text (ls ++ l ∷ [])) (drop next s);
      text = y;
    }

module _ (s : Bytes) (from at : ℕ) (ls : List Bytes) (c : Section s from at ls) where
  -- the ended lines from its start on are its lines and those after it
  pub section-lines : ended_lines (drop from s) ≡ ls ++ ended_lines (drop at s)
  section-lines = ap ended_lines c.text ∙ ended_lines_lem ls (drop at s) c.lack

  -- what is open from its start on is what is open after it
  pub section-rest : open_rest (drop from s) ≡ open_rest (drop at s)
  section-rest = ap open_rest c.text ∙ open_lines ls (drop at s) c.lack

  -- nothing is open in it
  pub section-closed : open_rest (take (at - from) (drop from s)) ≡ []
  section-closed = ap open_rest (c.part ∙ sym (append-nil (lines_text ls))) ∙ open_lines ls [] c.lack ∙ open_none [] tt

  -- its own lines
  pub section-part : ended_lines (take (at - from) (drop from s)) ≡ ls
  section-part = ap ended_lines c.part ∙ ended_text ls c.lack

-- ---- leading lines

-- a list with an element is not empty
cons_ne_nil : {A : Type 0} {x : A} {xs : List A} → x ∷ xs ≡ [] → ⊥
cons_ne_nil e = let l = ap length e in omega arith

-- a pair by its two parts
abbrev pair : {A B : Type 0} → A → B → A × B
pair a b = (a, b)

pair_parts : {A B : Type 0} (p : A × B) → p ≡ pair p.0 p.1
pair_parts p = refl

module _ {A : Type 0} (read : Bytes → Option A) where
  -- lines that all read lead, with what leads the lines after them
  pub leading-append : (ls ms : List Bytes) (xs : List A) → leading read ls ≡ (xs, [])
      → leading read (ls ++ ms) ≡ (xs ++ (leading read ms).0, (leading read ms).1)
  leading-append [] ms xs e =
      let x : [] ≡ xs = ap (λ (p : List A × List Bytes). p.0) (sym (leading_end read) ∙ e) in
      rw (← x) refl
  leading-append (l ∷ ls) ms xs e = go (read l) refl (leading-append ls ms)
    where
      go : (o : Option A) → read l ≡ o
          → ((ys : List A) → leading read ls ≡ (ys, []) → leading read (ls ++ ms)
          ≡ (ys ++ (leading read ms).0, (leading read ms).1))
          → leading read (l ∷ ls ++ ms) ≡ (xs ++ (leading read ms).0, (leading read ms).1)
      go none q i = absurd (cons_ne_nil (ap (λ (p : List A × List Bytes). p.1) (sym (leading-none read l ls q) ∙ e)))
      go (some a) q i =
          let x : ◌≡◌ {A = List A × List Bytes} (a ∷ (leading read ls).0, (leading read ls).1) (xs, []) =
          sym (leading-some read l ls a q) ∙ e in
          let x0 : a ∷ (leading read ls).0 ≡ xs = ap (λ (p : List A × List Bytes). p.0) x in
          let x1 : (leading read ls).1 ≡ [] = ap (λ (p : List A × List Bytes). p.1) x in
          let j =
          i (leading read ls).0
          (pair_parts (leading read ls) ∙ ap (λ (r : List Bytes). pair (leading read ls).0 r) x1) in
          leading-some read l (ls ++ ms) a q ∙ rw (j, ← x0) refl

  -- one more line that reads
  pub leading-snoc : (ls : List Bytes) (xs : List A) (l : Bytes) (a : A) → leading read ls ≡ (xs, []) → read l ≡ some a
      → leading read (ls ++ l ∷ []) ≡ (xs ++ a ∷ [], [])
  leading-snoc ls xs l a e h = leading-append ls (l ∷ []) xs e ∙ rw (leading-some read l [] a h, leading_end read) refl
