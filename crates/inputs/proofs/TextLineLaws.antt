-- Laws of the line of a text at an offset (specs/TextLine.antt), and of what a reader makes of it.
use mathlib.Core.Path.{◌≡◌, refl, sym, ◌∙◌, ap}
use mathlib.Core.List.{List, [], ◌∷◌}
use mathlib.Core.Option.{Option, none, some, bind, map, some-injective, none-ne-some}
use Prim.Native.Nat.{ℕ, ◌-◌, ◌≤◌}
use native.Mathlib.Omega.{arith}
use lib.ListN.{length, take, drop}
use Rattle.std.specs.Prelude.{Some, None, option_map, Option as CodeOption}
use Rattle.lists.specs.Lists.{Bytes}
use Rattle.lists.proofs.ChoiceLaws.{map_some}
use Rattle.lines.specs.Line.{ended_lines, open_rest, leading}
use Rattle.lines.specs.Cursor.{line_at}
use Rattle.lines.proofs.LineLaws.{leading_end, leading-none}
use Rattle.lines.proofs.SectionLaws.{LineHere, line_here, line_none}
use Rattle.inputs.specs.TextLine.{read_from, line_from, LineRead}

-- a value with the offset, or with the lines, after what it was read from
abbrev pub followed_by : {A B : Type 0} → B → A → A × B
followed_by rest a = (a, rest)

-- the lines from an offset on, after a value
abbrev pub lines_from : {A : Type 0} → Bytes → A × ℕ → A × List Bytes
lines_from s (a, next) = (a, ended_lines (drop next s))

-- what a reader makes of the first of some lines, and the lines after it
unfoldable pub first : {A : Type 0} → (Bytes → Option A) → List Bytes → Option (A × List Bytes)
first read [] = none
first read (l ∷ ls) = map (followed_by ls) (read l)

module _ {A : Type 0} (read : Bytes → Option A) (s : Bytes) (at : ℕ) where
  -- where no line stands, none is read
  pub from-open : line_at s at ≡ none → read_from read s at ≡ none
  unfolding read_from bind
  from-open e = rw e refl

  -- a line that stands there is read
  pub from-line : (stop next : ℕ) → line_at s at ≡ some (stop, next) → read_from read s at ≡ map (followed_by next) (read (take (stop - at) (drop at s)))
  unfolding read_from bind
  from-line stop next e = rw e (go (read (take (stop - at) (drop at s))))
    where
      go : (o : Option A) → bind o (λ (a : A). some (followed_by next a)) ≡ map (followed_by next) o
      go none = refl
      go (some a) = refl

  -- where it reads, the offset after it is the next
  pub from_some : (stop next : ℕ) (a : A) → line_at s at ≡ some (stop, next) → read (take (stop - at) (drop at s)) ≡ some a → read_from read s at ≡ some (a, next)
  from_some stop next a e q = from-line stop next e ∙ ap (map (followed_by next)) q

  -- it is the first of the ended lines from there on
  pub from_first : first read (ended_lines (drop at s)) ≡ map (lines_from s) (read_from read s at)
  unfolding first
  from_first = go (line_at s at) refl
    where
      step : (o : Option A) (next : ℕ) → map (followed_by (ended_lines (drop next s))) o ≡ map (lines_from s) (map (followed_by next) o)
      step none next = refl
      step (some a) next = refl

      go : (o : Option (ℕ × ℕ)) → line_at s at ≡ o → first read (ended_lines (drop at s)) ≡ map (lines_from s) (read_from read s at)
      go none e = rw ((line_none s at e).0, from-open e) refl
      go (some (stop, next)) e = rw ((line_here s at stop next e).lines, from-line stop next e) (step (read (take (stop - at) (drop at s))) next)

  -- what was read there is a line that reads, and the offset after it is the next
  pub record ReadHere (a : A) (next : ℕ) : Type 0 where
    pub stop : ℕ
    pub here : LineHere s at stop next
    pub reads : read (take (stop - at) (drop at s)) ≡ some a

  pub from-was : (a : A) (next : ℕ) → read_from read s at ≡ some (a, next) → ReadHere a next
  from-was a next e = go (line_at s at) refl
    where
      go : (o : Option (ℕ × ℕ)) → line_at s at ≡ o → ReadHere a next
      go none q = absurd (none-ne-some (a, next) (sym (from-open q) ∙ e))
      go (some (stop, after)) q =
          let (b, r, p) = map_some (followed_by after) (read (take (stop - at) (drop at s))) (a, next) (sym (from-line stop after q) ∙ e) in
          let v : b ≡ a = ap (λ (x : A × ℕ). x.0) p in
          let n : after ≡ next = ap (λ (x : A × ℕ). x.1) p in
          record { stop = stop; here = rw (← n) (line_here s at stop after q); reads = r ∙ ap some v }

-- what is open from an offset on is open after the line that was read there, and the offset after
-- it is within the text
pub from_rest : {A : Type 0} (read : Bytes → Option A) (s : Bytes) (at : ℕ) (a : A) (next : ℕ) → read_from read s at ≡ some (a, next)
    → (open_rest (drop at s) ≡ open_rest (drop next s)) × (next ≤ length s)
from_rest read s at a next e = let h = (from-was read s at a next e).here in (h.rest, omega (arith, h.within, h.next_is))

module _ {A : Type 0} (read : Bytes → Option A) (s : Bytes) (at : ℕ) where
  -- where there is no line, none is read
  pub from_nothing : line_from s at ≡ none → read_from read s at ≡ none
  from_nothing e = go (line_at s at) refl
    where
      go : (o : Option (ℕ × ℕ)) → line_at s at ≡ o → read_from read s at ≡ none
      go none q = from-open read s at q
      go (some (stop, next)) q =
          let l = take (stop - at) (drop at s) in
          absurd (none-ne-some (l, next) (sym e ∙ from_some some s at stop next l q refl))

  -- where there is one, it is read
  pub from-its-line : (l : Bytes) (next : ℕ) → line_from s at ≡ some (l, next) → read_from read s at ≡ map (followed_by next) (read l)
  from-its-line l next e = go (line_at s at) refl
    where
      go : (o : Option (ℕ × ℕ)) → line_at s at ≡ o → read_from read s at ≡ map (followed_by next) (read l)
      go none q = absurd (none-ne-some (l, next) (sym (from-open some s at q) ∙ e))
      go (some (stop, after)) q =
          let m = take (stop - at) (drop at s) in
          let p : (m, after) ≡ (l, next) = some-injective (m, after) (l, next) (sym (from_some some s at stop after m q refl) ∙ e) in
          from-line read s at stop after q ∙ ap (λ (x : Bytes × ℕ). map (followed_by x.1) (read x.0)) p

  -- what is made of it is read there
  pub from-told : (l : Bytes) (next : ℕ) → line_from s at ≡ some (l, next) → (o : Option A) → o ≡ read l → map (followed_by next) o ≡ read_from read s at
  from-told l next e o q = sym (from-its-line l next e ∙ ap (map (followed_by next)) (sym q))

module _ {T A : Type 0} (read : Bytes → Option A) (s : Bytes) (at : ℕ) (gives : Bytes → CodeOption T → Type 0) (r : CodeOption (T × ℕ)) where
  -- what a reader of the code gave of the line there is what is read there, where it reads a line as the reader does
  pub from-given : LineRead (line_from s at) gives r → (f : T → A) (of : CodeOption T → Option A) (whole : CodeOption (T × ℕ) → Option (A × ℕ))
      → ((l : Bytes) (o : CodeOption T) → gives l o → of o ≡ read l) → of None ≡ none → ((a : T) → of (Some a) ≡ some (f a))
      → whole None ≡ none → ((a : T) (next : ℕ) → whole (Some (a, next)) ≡ some (f a, next)) → whole r ≡ read_from read s at
  from-given m f of whole reads on os wn ws = go (line_from s at) refl m
    where
      step : (l : Bytes) (next : ℕ) → line_from s at ≡ some (l, next) → (o : CodeOption T) → gives l o → whole (option_map (λ a. (a, next)) o) ≡ read_from read s at
      step l next e None k = wn ∙ from-told read s at l next e none (sym on ∙ reads l None k)
      step l next e (Some a) k = ws a next ∙ from-told read s at l next e (some (f a)) (sym (os a) ∙ reads l (Some a) k)

      go : (i : Option (Bytes × ℕ)) → line_from s at ≡ i → LineRead i gives r → whole r ≡ read_from read s at
      go none e m = ap whole m ∙ wn ∙ sym (from_nothing read s at e)
      go (some (l, next)) e (o, k, q) = ap whole q ∙ step l next e o k

-- where nothing is made of what is read, nothing is read
pub from-unmapped : {A B : Type 0} (f : A → B) (read : Bytes → Option A) (s : Bytes) (at : ℕ) → read_from (λ (l : Bytes). map f (read l)) s at ≡ none
    → read_from read s at ≡ none
unfolding read_from bind
from-unmapped {A} {B} f read s at e = go (line_at s at) e
  where
    step : (next : ℕ) (o : Option A) → bind (map f o) (λ (b : B). some (followed_by next b)) ≡ none → bind o (λ (a : A). some (followed_by next a)) ≡ none
    step next none e = refl
    step next (some a) e = absurd (none-ne-some (f a, next) (sym e))

    go : (o : Option (ℕ × ℕ)) → bind o (λ (x : ℕ × ℕ). bind (map f (read (take (x.0 - at) (drop at s)))) (λ (b : B). some (followed_by x.1 b))) ≡ none
        → bind o (λ (x : ℕ × ℕ). bind (read (take (x.0 - at) (drop at s))) (λ (a : A). some (followed_by x.1 a))) ≡ none
    go none e = refl
    go (some (stop, next)) e = step next (read (take (stop - at) (drop at s))) e

-- where none is read, no line leads
pub none-leads : {A : Type 0} (read : Bytes → Option A) (s : Bytes) (at : ℕ) → read_from read s at ≡ none
    → leading read (ended_lines (drop at s)) ≡ ([], ended_lines (drop at s))
none-leads {A} read s at e = go (line_at s at) refl
  where
    step : (stop next : ℕ) → line_at s at ≡ some (stop, next) → (o : Option A) → read (take (stop - at) (drop at s)) ≡ o
        → leading read (ended_lines (drop at s)) ≡ ([], ended_lines (drop at s))
    step stop next q none n =
        rw (line_here s at stop next q).lines (leading-none read (take (stop - at) (drop at s)) (ended_lines (drop next s)) n)
    step stop next q (some a) r = absurd (none-ne-some (a, next) (sym e ∙ from_some read s at stop next a q r))

    go : (o : Option (ℕ × ℕ)) → line_at s at ≡ o → leading read (ended_lines (drop at s)) ≡ ([], ended_lines (drop at s))
    go none q = rw (line_none s at q).0 (leading_end read)
    go (some (stop, next)) q = step stop next q (read (take (stop - at) (drop at s))) refl
