-- Laws of lines and texts of lines (specs/Line.antt): what is written reads as itself, and what
-- reads is what is written.
use mathlib.Core.Path.{◌≡◌, refl, sym, ◌∙◌, ap, ap₂}
use mathlib.Core.Logic.{◌⊎◌, inl, inr}
use mathlib.Core.Bool.{Bool, true, false, ◌&&◌, cond}
use mathlib.Core.List.Memᴰ
use mathlib.Core.List.{List, [], ◌∷◌, ◌++◌, map, flat_map, append_assoc, Memᴰ}
use mathlib.Core.Option.{Option, none, some, Option-elim}
use Prim.Native.Nat.{ℕ, suc, ◌*◌, ◌≤◌, ◌<◌}
use native.Mathlib.Omega.{arith}
use lib.Dec.{eqb, ltb}
use lib.ListN.{length, length-append}
use borrow.Author.Tests.{eq-eqb, ne_eqb, eqb-true, eqb-false, ltb-true}
use Rattle.lists.specs.Choice.{provided, ◌>>◌}
use Rattle.lists.specs.Lists.{Bytes, all, same}
use Rattle.lists.proofs.ChoiceLaws.{and_holds, provided_some}
use Rattle.lists.proofs.ListLaws.{last_snoc, but_last_snoc, snoc_last}
use Rattle.lists.proofs.ListLaws.{all_cons, all_append, same_true, Lacks, lacks_append, all_lacks}
use Rattle.lines.specs.Field.{write_fields}
use Rattle.lines.specs.Line.{tab, newline, Form, Read, onto_first, parts_at, ended_lines, open_rest}
use Rattle.lines.specs.Line.{read_lines, read_after, read_line, and_then, leading, joined, line, write_line}
use Rattle.lines.proofs.NumberLaws.{is_plain}
use Rattle.lines.proofs.FieldLaws.{are_plain, Fits, read_fields_lem, read_after_lem, after_read, fields_plain}

-- ---- parts

-- no part has the byte k
abbrev pub AllLack : ℕ → List Bytes → Type 0
AllLack k [] = Unit {0}
AllLack k (p ∷ ps) = Lacks k p × AllLack k ps

-- lists of parts that lack a byte, one after the other, lack it
pub all_lack_append : (k : ℕ) (ps qs : List Bytes) → AllLack k ps → AllLack k qs → AllLack k (ps ++ qs)
all_lack_append k [] qs h i = i
all_lack_append k (p ∷ ps) qs h i = (h.0, all_lack_append k ps qs h.1 i)

-- if each of some texts lacks a byte, they all do
pub all_lack_map : {A : Type 0} (k : ℕ) (text : A → Bytes) (xs : List A) → ((a : A) → Memᴰ a xs → Lacks k (text a))
    → AllLack k (map text xs)
all_lack_map k text [] h = tt
all_lack_map k text (x ∷ xs) h = (h x (Memᴰ.head refl), all_lack_map k text xs (λ b m. h b (Memᴰ.tail m)))

-- such strings lack each of the two
pub plain_lack : (k : ℕ) (ps : List Bytes) → is_plain k ≡ false → all are_plain ps ≡ true → AllLack k ps
plain_lack k [] e h = tt
plain_lack k (p ∷ ps) e h = let a = all_cons are_plain p ps h in (all_lacks is_plain k p e a.0, plain_lack k ps e a.1)

-- a byte k begins a new part
parts_end : (k b : ℕ) (s : Bytes) → b ≡ k → parts_at k (b ∷ s) ≡ [] ∷ parts_at k s
unfolding parts_at
parts_end k b s e = rw (eq-eqb b k e) refl

-- any other byte belongs to the first part
parts_byte : (k b : ℕ) (s : Bytes) → (b ≡ k → ⊥) → parts_at k (b ∷ s) ≡ onto_first b (parts_at k s)
unfolding parts_at
parts_byte k b s e = rw (ne_eqb b k e) refl

-- a string without the byte k is one part
pub parts_last : (k : ℕ) (p : Bytes) → Lacks k p → parts_at k p ≡ p ∷ []
unfolding parts_at onto_first
parts_last k [] h = refl
parts_last k (b ∷ p) h = parts_byte k b p h.0 ∙ ap (onto_first b) (parts_last k p h.1)

-- what stands before the first byte k is the first part
pub parts_more : (k : ℕ) (p s : Bytes) → Lacks k p → parts_at k (p ++ k ∷ s) ≡ p ∷ parts_at k s
unfolding onto_first
parts_more k [] s h = parts_end k k s refl
parts_more k (b ∷ p) s h = parts_byte k b (p ++ k ∷ s) h.0 ∙ ap (onto_first b) (parts_more k p s h.1)

-- there is at least one part
pub parts_some : (k : ℕ) (s : Bytes) → (p : Bytes) × (ps : List Bytes) × (parts_at k s ≡ p ∷ ps)
unfolding parts_at onto_first
parts_some k [] = ([], [], refl)
parts_some k (b ∷ s) = step b (eqb b k) (parts_at k s) (parts_some k s)
  where
    step : (b : ℕ) (t : Bool) (qs : List Bytes) → (p : Bytes) × (ps : List Bytes) × (qs ≡ p ∷ ps)
        → (p : Bytes) × (ps : List Bytes) × (cond t ([] ∷ qs) (onto_first b qs) ≡ p ∷ ps)
    step b true qs h = ([], qs, refl)
    step b false qs (p, ps, e) = (b ∷ p, ps, rw e refl)

-- parts that lack the byte k, joined by it, are the parts at it
pub parts_joined : (k : ℕ) (p : Bytes) (ps : List Bytes) → AllLack k (p ∷ ps) → parts_at k (joined k (p ∷ ps)) ≡ p ∷ ps
unfolding joined
parts_joined k p [] h = parts_last k p h.0
parts_joined k p (q ∷ ps) h =
    parts_more k p (joined k (q ∷ ps)) h.0 ∙ ap (λ (r : List Bytes). p ∷ r) (parts_joined k q ps h.1)

-- a byte put onto the first part stands before what the parts join to
joined_onto : (k b : ℕ) (ps : List Bytes) → joined k (onto_first b ps) ≡ b ∷ joined k ps
unfolding joined onto_first
joined_onto k b [] = refl
joined_onto k b (p ∷ []) = refl
joined_onto k b (p ∷ q ∷ ps) = refl

-- the parts of a string at the byte k, joined by it, are the string
pub joined_parts : (k : ℕ) (s : Bytes) → joined k (parts_at k s) ≡ s
unfolding parts_at joined
joined_parts k [] = refl
joined_parts k (b ∷ s) = step (eqb b k) refl (parts_at k s) (parts_some k s) (joined_parts k s)
  where
    step : (t : Bool) → eqb b k ≡ t → (qs : List Bytes) → (p : Bytes) × (ps : List Bytes) × (qs ≡ p ∷ ps)
        → joined k qs ≡ s
        → joined k (cond t ([] ∷ qs) (onto_first b qs)) ≡ b ∷ s
    step true e qs (p, ps, h) i =
        let j : joined k (p ∷ ps) ≡ s = ap (joined k) (sym h) ∙ i in
        rw h (ap₂ ◌∷◌ (sym (eqb-true b k e)) j)
    step false e qs h i = joined_onto k b qs ∙ ap (λ (r : Bytes). b ∷ r) i

-- no part has the byte at which it was parted
pub parts_lack : (k : ℕ) (s : Bytes) → AllLack k (parts_at k s)
unfolding parts_at onto_first
parts_lack k [] = (tt, tt)
parts_lack k (b ∷ s) = step (eqb b k) refl (parts_at k s) (parts_lack k s)
  where
    step : (t : Bool) → eqb b k ≡ t → (qs : List Bytes) → AllLack k qs → AllLack k (cond t ([] ∷ qs) (onto_first b qs))
    step true e qs h = (tt, h)
    step false e [] h = ((eqb-false b k e, tt), tt)
    step false e (q ∷ qs) h = ((eqb-false b k e, h.0), h.1)

-- parts that lack a byte, joined by another, lack it
pub joined_lacks : (j k : ℕ) (ps : List Bytes) → (j ≡ k → ⊥) → AllLack k ps → Lacks k (joined j ps)
unfolding joined
joined_lacks j k [] n h = tt
joined_lacks j k (p ∷ []) n h = h.0
joined_lacks j k (p ∷ q ∷ ps) n h = lacks_append k p (j ∷ joined j (q ∷ ps)) h.0 (n, joined_lacks j k (q ∷ ps) n h.1)

-- ---- lines

-- a form has a word, and its words have no tab and no newline
abbrev pub is_plain_form : Form → Bool
is_plain_form f = ltb 0 (length f.words) && all are_plain f.words

-- the words and fields of a line
abbrev pub line_parts : (f : Form) → Read f → List Bytes
line_parts f vs = f.words ++ write_fields f.fields vs

-- a line without its newline
unfoldable pub line_text : (f : Form) → Read f → Bytes
line_text f vs = joined tab (line_parts f vs)

-- a line that is written is its text and a newline
pub write_line_lem : (f : Form) (vs : Read f) → write_line f vs ≡ line_text f vs ++ newline ∷ []
unfolding write_line line_text line
write_line_lem f vs = refl

-- no word and no field of a line has a tab or a newline
parts_plain : (f : Form) (vs : Read f) → is_plain_form f ≡ true → Fits f.fields vs
    → all are_plain (line_parts f vs) ≡ true
parts_plain f vs p h =
    let a = (and_holds (ltb 0 (length f.words)) (all are_plain f.words) p).1 in
    all_append are_plain f.words (write_fields f.fields vs) a (fields_plain f.fields vs h)

-- the parts of a line are its words and fields
pub line_parts_lem : (f : Form) (vs : Read f) → is_plain_form f ≡ true → Fits f.fields vs
    → parts_at tab (line_text f vs) ≡ line_parts f vs
unfolding line_text
line_parts_lem f vs p h =
    let l = (and_holds (ltb 0 (length f.words)) (all are_plain f.words) p).0 in
    go (line_parts f vs)
    (omega (arith, ltb-true 0 (length f.words) l, length-append f.words (write_fields f.fields vs)))
    (plain_lack tab (line_parts f vs) refl (parts_plain f vs p h))
  where
    go : (ps : List Bytes) → 0 < length ps → AllLack tab ps → parts_at tab (joined tab ps) ≡ ps
    go [] l h = absurd (omega arith)
    go (q ∷ ps) l h = parts_joined tab q ps h

-- values that fit, once written as a line, read as themselves
pub read_line_lem : (f : Form) (vs : Read f) → is_plain_form f ≡ true → Fits f.fields vs
    → read_line f (line_text f vs) ≡ some vs
unfolding read_line
read_line_lem f vs p h =
    ap (read_after f.words f.fields) (line_parts_lem f vs p h)
    ∙ read_after_lem f.words f.fields (write_fields f.fields vs)
    ∙ read_fields_lem f.fields vs h

-- a line that reads as values is what is written for them, and they fit
pub line_read : (f : Form) (l : Bytes) (vs : Read f) → read_line f l ≡ some vs → (l ≡ line_text f vs) × Fits f.fields vs
unfolding read_line line_text
line_read f l vs e =
    let (q, h) = after_read f.words f.fields (parts_at tab l) vs e in
    (sym (joined_parts tab l) ∙ ap (joined tab) q, h)

-- a line has no newline before its end
pub line_lacks : (f : Form) (vs : Read f) → is_plain_form f ≡ true → Fits f.fields vs → Lacks newline (line_text f vs)
unfolding line_text
line_lacks f vs p h =
    joined_lacks tab newline (line_parts f vs) (λ e. omega arith)
    (plain_lack newline (line_parts f vs) refl (parts_plain f vs p h))

-- a line of one form is no line of another whose first word is another
pub read_other : (f g : Form) (vs : Read g) (w p : Bytes) (ws ps : List Bytes) → f.words ≡ w ∷ ws → g.words ≡ p ∷ ps
    → same p w ≡ false
    → is_plain_form g ≡ true → Fits g.fields vs → read_line f (line_text g vs) ≡ none
unfolding read_line read_after ◌>>◌
read_other f g vs w p ws ps i j n q h =
    let a = ap (λ (r : List Bytes). r ++ write_fields g.fields vs) j in
    let e : parts_at tab (line_text g vs) ≡ p ∷ (ps ++ write_fields g.fields vs) = line_parts_lem g vs q h ∙ a in
    rw (e, i, n) refl

-- ---- texts of lines

-- lines, each with its newline
abbrev pub lines_text : List Bytes → Bytes
lines_text [] = []
lines_text (l ∷ ls) = l ++ newline ∷ lines_text ls

-- the text of lines, then that of others
pub text_append : (ls ms : List Bytes) → lines_text (ls ++ ms) ≡ lines_text ls ++ lines_text ms
text_append [] ms = refl
text_append (l ∷ ls) ms =
    ap (λ (t : Bytes). l ++ newline ∷ t) (text_append ls ms)
    ∙ sym (append_assoc l (newline ∷ lines_text ls) (lines_text ms))

-- lines written one after the other are the text of the lines
pub text_written : {A : Type 0} (write text : A → Bytes) → ((a : A) → write a ≡ text a ++ newline ∷ [])
    → (xs : List A) → flat_map write xs ≡ lines_text (map text xs)
unfolding flat_map
text_written write text h [] = refl
text_written write text h (x ∷ xs) =
    ap₂ ◌++◌ (h x) (text_written write text h xs) ∙ append_assoc (text x) (newline ∷ []) (lines_text (map text xs))

-- a text of lines of at most k bytes has at most k + 1 for each line
pub text_short : {A : Type 0} (k : ℕ) (text : A → Bytes) (xs : List A) → ((a : A) → Memᴰ a xs → length (text a) ≤ k)
    → length (lines_text (map text xs)) ≤ length xs * suc k
text_short k text [] h = omega arith
text_short k text (x ∷ xs) h =
    let i = text_short k text xs (λ b m. h b (Memᴰ.tail m)) in
    let j = h x (Memᴰ.head refl) in
    omega (arith, length-append (text x) (newline ∷ lines_text (map text xs)))

-- the parts of the text of lines are the lines, and an empty part after the last newline
parts_lines : (ls : List Bytes) → AllLack newline ls → parts_at newline (lines_text ls) ≡ ls ++ [] ∷ []
unfolding parts_at
parts_lines [] h = refl
parts_lines (l ∷ ls) (h, i) =
    parts_more newline l (lines_text ls) h ∙ ap (λ (ps : List Bytes). l ∷ ps) (parts_lines ls i)

-- lines without inner newlines, each ended by one, read as themselves
pub lines_joined : (ls : List Bytes) → AllLack newline ls → read_lines (lines_text ls) ≡ some ls
unfolding read_lines ended_lines open_rest provided same
lines_joined ls h = rw (parts_lines ls h, last_snoc [] [] ls, but_last_snoc [] ls) refl

-- a text is its ended lines and what stands after them
pub parts_ended : (s : Bytes) → parts_at newline s ≡ ended_lines s ++ open_rest s ∷ []
unfolding ended_lines open_rest
parts_ended s = let (p, ps, e) = parts_some newline s in rw e (snoc_last [] p ps)

-- lines and an empty part, joined by newlines, are the text of the lines
joined_text : (ls : List Bytes) → joined newline (ls ++ [] ∷ []) ≡ lines_text ls
unfolding joined
joined_text [] = refl
joined_text (l ∷ []) = refl
joined_text (l ∷ m ∷ ls) = ap (λ (t : Bytes). l ++ newline ∷ t) (joined_text (m ∷ ls))

-- the first of two lists lacks what both lack
all_lack_first : (k : ℕ) (ps qs : List Bytes) → AllLack k (ps ++ qs) → AllLack k ps
all_lack_first k [] qs h = tt
all_lack_first k (p ∷ ps) qs h = (h.0, all_lack_first k ps qs h.1)

-- a text that reads as lines is those lines, each ended by a newline, and no line has one within it
pub joined_lines : (s : Bytes) (ls : List Bytes) → read_lines s ≡ some ls → (s ≡ lines_text ls) × AllLack newline ls
unfolding read_lines
joined_lines s ls e =
    let (r, l) = provided_some (same (open_rest s) []) (ended_lines s) ls e in
    let q : parts_at newline s ≡ ls ++ [] ∷ [] =
    parts_ended s ∙ ap₂ (λ (ms : List Bytes) (t : Bytes). ms ++ t ∷ []) l (same_true (open_rest s) [] r) in (
      sym (joined_parts newline s) ∙ ap (joined newline) q ∙ joined_text ls,
      all_lack_first newline ls ([] ∷ [])
          (rw q at (parts_lack newline s)),
    )

-- ---- leading lines

module _ {A : Type 0} (read : Bytes → Option A) where
  -- where there are no lines, none leads
  pub leading_end : leading read [] ≡ ([], [])
  unfolding leading
  leading_end = refl

  -- a line that the reader does not take ends the leading ones
  pub leading-none : (l : Bytes) (ls : List Bytes) → read l ≡ none → leading read (l ∷ ls) ≡ ([], l ∷ ls)
  unfolding leading Option-elim
  leading-none l ls e = rw e refl

  -- a line that it takes leads those after it
  pub leading-some : (l : Bytes) (ls : List Bytes) (a : A) → read l ≡ some a
      → leading read (l ∷ ls) ≡ (a ∷ (leading read ls).0, (leading read ls).1)
  unfolding leading Option-elim and_then
  leading-some l ls a e = rw e refl

  -- lines that read as values lead the lines after them, if of those none leads
  pub leading-all : (text : A → Bytes) (xs : List A) (ls : List Bytes) → ((a : A) → Memᴰ a xs → read (text a) ≡ some a)
      → leading read ls ≡ ([], ls)
      → leading read (map text xs ++ ls) ≡ (xs, ls)
  leading-all text [] ls h e = e
  leading-all text (x ∷ xs) ls h e =
      let i = leading-all text xs ls (λ b m. h b (Memᴰ.tail m)) e in
      leading-some (text x) (map text xs ++ ls) x (h x (Memᴰ.head refl)) ∙ rw i refl

  -- if a line that reads is the text of its value, lines are the texts of the leading values and
  -- the lines after them
  pub leading-was : (text : A → Bytes) → ((l : Bytes) (a : A) → read l ≡ some a → l ≡ text a) → (ls : List Bytes)
      → ls ≡ map text (leading read ls).0 ++ (leading read ls).1
  unfolding leading
  leading-was text h [] = refl
  leading-was text h (l ∷ ls) = go (read l) refl (leading-was text h ls)
    where
      go : (o : Option A) → read l ≡ o → ls ≡ map text (leading read ls).0 ++ (leading read ls).1
          → l ∷ ls ≡ map text (leading read (l ∷ ls)).0 ++ (leading read (l ∷ ls)).1
      go none e i = rw (leading-none l ls e) refl
      go (some a) e i = rw (leading-some l ls a e) (ap₂ ◌∷◌ (h l a e) i)

  -- what holds of each value that is read holds of the leading ones
  pub leading-each : (P : A → Type 0) → ((l : Bytes) (a : A) → read l ≡ some a → P a) → (ls : List Bytes) (a : A)
      → Memᴰ a (leading read ls).0 → P a
  unfolding leading
  leading-each P h [] a m = absurd (Memᴰ.not-nil m)
  leading-each P h (l ∷ ls) a m = go (read l) refl (λ i. leading-each P h ls a i) m
    where
      go : (o : Option A) → read l ≡ o → (Memᴰ a (leading read ls).0 → P a) → Memᴰ a (leading read (l ∷ ls)).0 → P a
      go none e ih m = absurd (Memᴰ.not-nil (rw (leading-none l ls e) at m))
      go (some b) e ih m = pick (Memᴰ.cases_cons (rw (leading-some l ls b e) at m))
        where
          pick : (a ≡ b) ⊎ Memᴰ a (leading read ls).0 → P a
          pick (inl i) = h l a (e ∙ ap some (sym i))
          pick (inr i) = ih i
