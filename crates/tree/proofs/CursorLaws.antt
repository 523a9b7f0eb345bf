-- Laws of where the walk over the log tree stands (specs/LogWalk.antt): which shown entry comes
-- next, and whether it is in a subtree.
use mathlib.Core.Path.{◌≡◌, refl, sym, ap, ap₂, ◌∙◌}
use mathlib.Core.Bool.{Bool, true, false, ◌&&◌, ◌||◌}
use mathlib.Core.List.{List, [], ◌∷◌}
use Prim.Native.Nat.{ℕ, zero, suc, ◌+◌, ◌≤◌, ◌<◌}
use native.Mathlib.Nat.{add-zero}
use native.Mathlib.Decide.{dec_lt}
use native.Mathlib.Omega.{arith}
use lib.Dec.{leb, ltb}
use lib.ListN.{length, drop, get_or, length-map}
use lib.Seq.{get_or-drop}
use borrow.Author.Tests.{lt-ltb, le-ltb, le-leb, lt-leb, ltb-true, eq-eqb, ne_eqb}
use Rattle.std.specs.Prelude.{Some, None, Option as CodeOption, slice_get}
use Rattle.std.proofs.lemmas.Option.{slice_get_past}
use Rattle.lists.specs.Choice.{choose}
use Rattle.lists.specs.Lists.{Bytes, any, rising}
use Rattle.lists.proofs.ChoiceLaws.{and_holds}
use Rattle.lists.proofs.RisingLaws.{rising_tail}
use Rattle.lines.specs.Layout.{entry_fields}
use Rattle.tree.specs.declared.walk_cursor.WalkCursor.{WalkCursor}
use Rattle.tree.specs.LogTree.{LogEntry, log_leaf_string, Range, is_shown, string_at}
use Rattle.tree.specs.LogText.{entry_in, next_line, entry_offsets, entries_at, shown_in}
use Rattle.tree.specs.LogHead.{positions}
use Rattle.tree.specs.LogWalk.{range, below, cursor_at, cursor_from}
use Rattle.tree.proofs.RunLaws.{get_d_any}
use Rattle.tree.proofs.EntryLineLaws.{first_offset, offset-within, offsets-behind, shown_from}

-- ---- one step

below_more : (p s : ℕ) (ps : List ℕ) → p < s → below (p ∷ ps) s ≡ suc (below ps s)
unfolding below choose
below_more p s ps h = rw (lt-ltb p s h) refl

below_end : (p s : ℕ) (ps : List ℕ) → s ≤ p → below (p ∷ ps) s ≡ 0
unfolding below choose
below_end p s ps h = rw (le-ltb p s h) refl

below_nil : (s : ℕ) → below [] s ≡ 0
unfolding below
below_nil s = refl

shown_nil : (r : Range) → is_shown [] r ≡ false
unfolding is_shown any
shown_nil r = refl

shown_cons : (p : ℕ) (ps : List ℕ) (r : Range) → is_shown (p ∷ ps) r ≡ (leb r.start p && ltb p (r.start + r.width) || is_shown ps r)
unfolding is_shown any
shown_cons p ps r = refl

rising_cons : (p q : ℕ) (ps : List ℕ) → rising (p ∷ q ∷ ps) ≡ true → (p < q) × (rising (q ∷ ps) ≡ true)
unfolding rising
rising_cons p q ps h = let (a, b) = and_holds (ltb p q) (rising (q ∷ ps)) h in (ltb-true p q a, b)

-- ---- what is shown

before_first : (p : ℕ) (ps : List ℕ) (r : Range) → r.start + r.width ≤ p → is_shown ps r ≡ false → is_shown (p ∷ ps) r ≡ false
before_first p ps r h i = shown_cons p ps r ∙ rw (le-ltb p (r.start + r.width) h, i) (none (leb r.start p))
  where
    none : (b : Bool) → (b && false || false) ≡ false
    none true = refl
    none false = refl

-- nothing is shown in a subtree that ends before the first shown entry
shown_past : (p : ℕ) (ps : List ℕ) (r : Range) → rising (p ∷ ps) ≡ true → r.start + r.width ≤ p → is_shown (p ∷ ps) r ≡ false
shown_past p [] r u h = before_first p [] r h (shown_nil r)
shown_past p (q ∷ ps) r u h = let (a, b) = rising_cons p q ps u in before_first p (q ∷ ps) r h (shown_past q ps r b (omega arith))

-- something is shown in a subtree if the next of the shown entries, from its start on, stands
-- before its end
pub is_shown_lem : (ps : List ℕ) (s w d : ℕ) → rising ps ≡ true → s + w ≤ d → is_shown ps (range s w) ≡ ltb (get_or ps (below ps s) d) (s + w)
is_shown_lem [] s w d u h = shown_nil (range s w) ∙ sym (le-ltb d (s + w) h)
is_shown_lem (p ∷ ps) s w d u h = go (dec_lt p s) (dec_lt p (s + w)) (is_shown_lem ps s w d (rising_tail p ps u) h)
  where
    go : Dec (p < s) → Dec (p < s + w) → is_shown ps (range s w) ≡ ltb (get_or ps (below ps s) d) (s + w)
        → is_shown (p ∷ ps) (range s w) ≡ ltb (get_or (p ∷ ps) (below (p ∷ ps) s) d) (s + w)
    go (yes a) _ i = shown_cons p ps (range s w) ∙ rw (lt-leb s p a, below_more p s ps a) i
    go (no a) (yes b) i = shown_cons p ps (range s w) ∙ rw (le-leb s p (omega arith), lt-ltb p (s + w) b, below_end p s ps (omega arith)) (sym (lt-ltb p (s + w) b))
    go (no a) (no b) i = shown_past p ps (range s w) u (omega arith) ∙ sym (rw (below_end p s ps (omega arith)) (le-ltb p (s + w) (omega arith)))

-- where nothing is shown in between, the next shown entry stays
pub below_quiet : (ps : List ℕ) (s e d : ℕ) → s ≤ e → e ≤ get_or ps (below ps s) d → below ps e ≡ below ps s
below_quiet [] s e d l h = below_nil e ∙ sym (below_nil s)
below_quiet (p ∷ ps) s e d l h = go (dec_lt p s) (λ z. below_quiet ps s e d l z)
  where
    go : Dec (p < s) → (e ≤ get_or ps (below ps s) d → below ps e ≡ below ps s) → below (p ∷ ps) e ≡ below (p ∷ ps) s
    go (yes a) i = below_more p e ps (omega arith) ∙ ap suc (i (rw (below_more p s ps a) at h)) ∙ sym (below_more p s ps a)
    go (no a) i = below_end p e ps (rw (below_end p s ps (omega arith)) at h) ∙ sym (below_end p s ps (omega arith))

-- before entry 0 no shown entry is passed
pub below_zero : (ps : List ℕ) → below ps 0 ≡ 0
below_zero [] = below_nil 0
below_zero (p ∷ ps) = below_end p 0 ps (omega arith)

-- a shown entry that is passed is one more
pub below_one : (ps : List ℕ) (s d : ℕ) → rising ps ≡ true → s < d → get_or ps (below ps s) d < s + 1
    → (below ps (s + 1) ≡ below ps s + 1) × (below ps s < length ps)
below_one [] s d u b h = absurd (omega (arith, h, b))
below_one (p ∷ ps) s d u b h = go (dec_lt p s) (below_one ps s d (rising_tail p ps u) b)
  where
    next : (qs : List ℕ) → rising (p ∷ qs) ≡ true → s ≤ p → below qs (s + 1) ≡ 0
    next [] v l = below_nil (s + 1)
    next (q ∷ qs) v l = below_end q (s + 1) qs (omega (arith, (rising_cons p q qs v).0))

    go : Dec (p < s) → (get_or ps (below ps s) d < s + 1 → (below ps (s + 1) ≡ below ps s + 1) × (below ps s < length ps))
        → (below (p ∷ ps) (s + 1) ≡ below (p ∷ ps) s + 1) × (below (p ∷ ps) s < length (p ∷ ps))
    go (yes a) i =
        let (x, y) = i (rw (below_more p s ps a) at h) in
        omega (arith, below_more p s ps a, below_more p (s + 1) ps (omega arith))
    go (no a) i =
        let z = below_end p s ps (omega arith) in
        let l : p < s + 1 = rw z at h in
        omega (arith, below_more p (s + 1) ps l, next ps u (omega arith))

-- ---- the string of a shown entry

string_first : (e : LogEntry) (es : List LogEntry) (p : ℕ) → e.position ≡ p → string_at (e ∷ es) p ≡ log_leaf_string e
unfolding string_at choose
string_first e es p h = rw (eq-eqb e.position p h) refl

string_later : (e : LogEntry) (es : List LogEntry) (p : ℕ) → e.position < p → string_at (e ∷ es) p ≡ string_at es p
unfolding string_at choose
string_later e es p h = rw (ne_eqb e.position p (λ z. omega arith)) refl

-- the string of a shown entry is that of the next one, the walk standing before it
pub string_at_lem : (es : List LogEntry) (z : LogEntry) (s d : ℕ) → s < d → get_or (positions es) (below (positions es) s) d < s + 1
    → string_at es s ≡ log_leaf_string (get_or es (below (positions es) s) z)
string_at_lem [] z s d b h = absurd (omega (arith, h, b))
string_at_lem (e ∷ es) z s d b h = go (dec_lt e.position s) (string_at_lem es z s d b)
  where
    go : Dec (e.position < s) → (get_or (positions es) (below (positions es) s) d < s + 1 → string_at es s ≡ log_leaf_string (get_or es (below (positions es) s) z))
        → string_at (e ∷ es) s ≡ log_leaf_string (get_or (e ∷ es) (below (positions (e ∷ es)) s) z)
    go (yes a) i =
        let m = below_more e.position s (positions es) a in
        string_later e es s a ∙ i (rw m at h) ∙ ap (λ (j : ℕ). log_leaf_string (get_or (e ∷ es) j z)) (sym m)
    go (no a) i =
        let m = below_end e.position s (positions es) (omega arith) in
        let l : e.position < s + 1 = rw m at h in
        string_first e es s (omega arith) ∙ ap (λ (j : ℕ). log_leaf_string (get_or (e ∷ es) j z)) (sym m)

-- ---- the entries at offsets of a text

-- the entry of a number is that at the offset of this number
pub entry_at : (t : Bytes) (pl : List ℕ) (i : ℕ) (z : LogEntry) → i < length pl → get_or (entries_at t pl) i z ≡ entry_in (drop (get_or pl i 0 + entry_fields) t)
unfolding entries_at
entry_at t [] i z h = absurd (omega arith)
entry_at t (p ∷ pl) zero z h = refl
entry_at t (p ∷ pl) (suc i) z h = entry_at t pl i z (omega arith)

-- there are as many entries as offsets
pub length_positions : (t : Bytes) (pl : List ℕ) → length (positions (entries_at t pl)) ≡ length pl
unfolding entries_at
length_positions t pl = length-map (entries_at t pl) (λ (e : LogEntry). e.position) ∙ length-map pl (λ (p : ℕ). entry_in (drop (p + entry_fields) t))

-- without the first offsets those without the first entries are left
entries_drop : (t : Bytes) (i : ℕ) (pl : List ℕ) → entries_at t (drop i pl) ≡ drop i (entries_at t pl)
unfolding entries_at
entries_drop t zero pl = refl
entries_drop t (suc i) [] = refl
entries_drop t (suc i) (p ∷ pl) = entries_drop t i pl

positions_drop : (i : ℕ) (es : List LogEntry) → positions (drop i es) ≡ drop i (positions es)
positions_drop zero es = refl
positions_drop (suc i) [] = refl
positions_drop (suc i) (e ∷ es) = positions_drop i es

-- where the element of a number is asked for, it is the first of those that are left
pub first_left : {A : Type 0} (xs : List A) (i : ℕ) (d : A) → get_or (drop i xs) 0 d ≡ get_or xs i d
first_left xs i d = get_or-drop i xs 0 d ∙ ap (λ (j : ℕ). get_or xs j d) (add-zero i)

-- ---- the cursor

abbrev cursor : ℕ → ℕ → CodeOption ℕ → WalkCursor
cursor node at position = record { at = at; position = position; node = node }

-- the first of those that are left, if there is one
first_there : {A : Type 0} (xs : List A) (i : ℕ) → slice_get (drop i xs) 0 ≡ slice_get xs i
first_there xs zero = refl
first_there [] (suc i) = refl
first_there (x ∷ xs) (suc i) = first_there xs i

-- the position of the first of some entries
first_position : (t : Bytes) (pl : List ℕ) (at : ℕ) → at ≡ get_or pl 0 (length t) → at < length t → slice_get (positions (entries_at t pl)) 0 ≡ Some (entry_in (drop (at + entry_fields) t)).position
unfolding entries_at
first_position t [] at e h = absurd (omega arith)
first_position t (p ∷ pl) at e h = ap (λ (i : ℕ). Some (entry_in (drop (i + entry_fields) t)).position) (sym e)

module _ (t : Bytes) (start node at : ℕ) (e : at ≡ first_offset t start) where
  -- the cursor where an entry line comes
  pub cursor-made : (v : ℕ) → at < length t → v ≡ (entry_in (drop (at + entry_fields) t)).position → cursor node at (Some v) ≡ cursor_from t start node
  cursor-made v h ev =
      ap₂ (cursor node) e
      (ap Some ev ∙ sym (first_position t (entry_offsets t start) at e h) ∙ ap (λ (es : List LogEntry). slice_get (positions es) 0) (shown_from t start))

  -- the cursor where none is left
  pub cursor-none : length t ≤ at → cursor node at None ≡ cursor_from t start node
  cursor-none h =
      ap₂ (cursor node) e
      (sym (slice_get_past (positions (entries_at t (entry_offsets t start))) 0 (omega (arith, length_positions t (entry_offsets t start), none (entry_offsets t start) refl)))
      ∙ ap (λ (es : List LogEntry). slice_get (positions es) 0) (shown_from t start))
    where
      none : (pl : List ℕ) → entry_offsets t start ≡ pl → length pl ≡ 0
      none [] n = refl
      none (p ∷ pl) n =
          let z = e ∙ ap (λ (ps : List ℕ). get_or ps 0 (length t)) n in
          let l = ap length n in
          let w = ap (λ (ps : List ℕ). get_or ps 0 0) n in
          absurd (omega (arith, offset-within t start 0 (omega arith)))

-- after so many entry lines the entries after them are left
pub cursor_from_lem : (t : Bytes) (start i node : ℕ) → drop i (entry_offsets t 0) ≡ entry_offsets t start → cursor_from t start node ≡ cursor_at t i node
unfolding shown_in
cursor_from_lem t start i node e =
    ap₂ (cursor node)
    (ap (λ (ps : List ℕ). get_or ps 0 (length t)) (sym e) ∙ first_left (entry_offsets t 0) i (length t))
    (ap (λ (ps : List ℕ). slice_get ps 0)
    (ap positions (sym (shown_from t start) ∙ ap (entries_at t) (sym e) ∙ entries_drop t i (entry_offsets t 0)) ∙ positions_drop i (entries_at t (entry_offsets t 0)))
    ∙ first_there (positions (entries_at t (entry_offsets t 0))) i)

-- after the line of one of them one more is passed
pub cursor_next : (t : Bytes) (i node at : ℕ) → i < length (entry_offsets t 0) → at ≡ get_or (entry_offsets t 0) i (length t) → cursor_from t (next_line t at) node ≡ cursor_at t (i + 1) node
cursor_next t i node at h e =
    cursor_from_lem t (next_line t at) (i + 1) node
    (offsets-behind t 0 i h ∙ ap (λ (p : ℕ). entry_offsets t (next_line t p)) (get_d_any (entry_offsets t 0) i 0 (length t) h ∙ sym e))
