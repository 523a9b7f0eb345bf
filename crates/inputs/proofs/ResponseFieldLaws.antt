-- Laws of the fields of the lines before the sections of a response (specs/ResponseHeader.antt):
-- the parts of a line as parts of the text.
use mathlib.Core.Path.{◌≡◌, refl, sym, ◌∙◌, ap, ap₂}
use mathlib.Core.List.{◌++◌}
use mathlib.Core.Option.{Option, none, some, bind, map, some-injective}
use Prim.Native.Nat.{ℕ, ◌+◌, ◌-◌, ◌<◌}
use native.Mathlib.Omega.{arith}
use lib.ListN.{length, take, drop, length-drop, length-take, take-append-drop}
use lib.Seq.{take-append-le, drop-append-le, drop-drop}
use Rattle.std.specs.Prelude.{Some, None, option_map, Option as CodeOption}
use Rattle.lists.specs.Choice.{is_some}
use Rattle.lists.specs.Lists.{Bytes}
use Rattle.lines.specs.Hex.{read_hex}
use Rattle.lines.specs.Line.{read_line}
use Rattle.lines.specs.Readings.{part_of}
use Rattle.lines.specs.declared.part.Part.{Part}
use Rattle.rules.specs.Response.{search}
use Rattle.rules.specs.ResponseText.{target_form}
use Rattle.inputs.specs.declared.response_lines.Finding.TheVariants.{Search}
use Rattle.inputs.specs.declared.response_lines.Target.{Target}
use Rattle.inputs.specs.declared.response_lines.KtLine.{KtLine}
use Rattle.inputs.specs.TextLine.{read_from, line_from, LineRead}
use Rattle.inputs.specs.ResponseLines.{kt_of, target_of, Decodes, StandsIn, KtStands, TargetStands}
use Rattle.inputs.specs.Response.{finding_in}
use Rattle.inputs.specs.ResponseHeader.{read_kt, read_finding, shifted, opened_of, OpenedDecodes, finding_of}
use Rattle.inputs.proofs.TextLineLaws.{followed_by, from-was, from-its-line, from_nothing, from-told}

-- a part of the first bytes from an offset on is a part of the text, moved by that offset
part_moved : (s : Bytes) (at n : ℕ) (p q : Part) → StandsIn (take n (drop at s)) p → q.start ≡ at + p.start → q.stop ≡ at + p.stop
    → part_of s q ≡ part_of (take n (drop at s)) p
unfolding part_of
part_moved s at n p q (f, w, _) a b =
    let x = drop at s in
    let l = take n x in
    let m = p.stop - p.start in
    let k : q.stop - q.start ≡ m = omega arith in
    let d : drop q.start s ≡ drop p.start x = ap (λ (i : ℕ). drop i s) a ∙ sym (drop-drop p.start at s) in
    let i : drop p.start x ≡ drop p.start l ++ drop n x =
    ap (drop p.start) (sym (take-append-drop n x)) ∙ drop-append-le p.start l (drop n x) (omega arith) in
    ap₂ take k (d ∙ i) ∙ take-append-le m (drop p.start l) (drop n x) (omega (arith, length-drop p.start l))

module _ (s : Bytes) (at : ℕ) (l : Bytes) (next : ℕ) (e : line_from s at ≡ some (l, next)) where
  -- so is a part of the line there
  part-moved : (p q : Part) → StandsIn l p → q.start ≡ at + p.start → q.stop ≡ at + p.stop → part_of s q ≡ part_of l p
  part-moved p q w a b =
      let h = from-was some s at l next e in
      let i = some-injective (take (h.stop - at) (drop at s)) l h.reads in
      part_moved s at (h.stop - at) p q (rw i w) a b ∙ ap (λ (t : Bytes). part_of t p) i

  -- moved so, it encodes what it did
  moved-decodes : (p q : Part) → StandsIn l p → q.start ≡ at + p.start → q.stop ≡ at + p.stop → Decodes s q
  moved-decodes p q i a b = ap (λ (t : Bytes). is_some (read_hex t)) (part-moved p q i a b) ∙ i.2

  -- and stands within the text
  pub moved-within : (p : Part) → StandsIn l p → (at + p.start < length s) × (at + p.stop < length s)
  moved-within p (f, w, _) =
      let r = from-was some s at l next e in
      let i = some-injective (take (r.stop - at) (drop at s)) l r.reads in
      let n : length (take (r.stop - at) (drop at s)) ≡ length l = ap length i in
      let m = length-take (r.stop - at) (drop at s) in
      let a = r.here.forward in
      let b = r.here.within in
      (omega arith, omega arith)

  module _ (t : Target) (w : TargetStands l (Some t)) where
    -- the fields of a target line encode, as parts of the text, what they do in the line
    pub target-decodes : Decodes s (shifted at t.opening) × Decodes s (shifted at t.value)
    target-decodes = (moved-decodes t.opening (shifted at t.opening) w.0 refl refl, moved-decodes t.value (shifted at t.value) w.1 refl refl)

    -- the line is what a search found, with its fields as parts of the text
    pub target_found : target_of l (Some t) ≡ read_line target_form l
        → finding_of s
        (Some (Search (record { version = t.version; opening = shifted at t.opening; value = shifted at t.value }), next))
        ≡ read_finding search s at
    unfolding finding_in read_finding bind
    target_found q =
        let f = from-its-line (read_line target_form) s at l next e ∙ ap (map (followed_by next)) (sym q) in
        rw (f, part-moved t.opening (shifted at t.opening) w.0 refl refl, part-moved t.value (shifted at t.value) w.1 refl refl) refl

module _ (s l : Bytes) (next : ℕ) (e : line_from s 0 ≡ some (l, next)) (k : KtLine) (w : KtStands l (Some k)) where
  -- the first line, with its fields as parts of the text
  line-opened : kt_of l (Some k) ≡ read_kt l → opened_of s (Some (k, next)) ≡ read_from read_kt s 0
  line-opened q =
      let f = from-its-line read_kt s 0 l next e ∙ ap (map (followed_by next)) (sym q) in
      rw (part-moved s 0 l next e k.identifier k.identifier w.0 (omega arith) (omega arith), part-moved s 0 l next e k.label k.label w.1 (omega arith) (omega arith))
      (sym f)

  -- they encode what they do in the line
  opened-decodes : Decodes s k.identifier × Decodes s k.label
  opened-decodes =
      (moved-decodes s 0 l next e k.identifier k.identifier w.0 (omega arith) (omega arith), moved-decodes s 0 l next e k.label k.label w.1 (omega arith) (omega arith))

-- what a reader of the code gave of the first line is what is read there, where it reads a line as a first line
pub opened-given : (s : Bytes) (gives : Bytes → CodeOption KtLine → Type 0) (r : CodeOption (KtLine × ℕ))
    → LineRead (line_from s 0) gives r
    → ((l : Bytes) (o : CodeOption KtLine) → gives l o → (kt_of l o ≡ read_kt l) × KtStands l o)
    → (opened_of s r ≡ read_from read_kt s 0) × OpenedDecodes s r
opened-given s gives r m reads = go (line_from s 0) refl m
  where
    step : (l : Bytes) (next : ℕ) → line_from s 0 ≡ some (l, next) → (o : CodeOption KtLine)
        → (kt_of l o ≡ read_kt l) × KtStands l o
        → (opened_of s (option_map (λ a. (a, next)) o) ≡ read_from read_kt s 0)
        × OpenedDecodes s (option_map (λ a. (a, next)) o)
    step l next e None (q, w) = (from-told read_kt s 0 l next e none q, tt)
    step l next e (Some k) (q, w) = (line-opened s l next e k w q, opened-decodes s l next e k w)

    go : (i : Option (Bytes × ℕ)) → line_from s 0 ≡ i → LineRead i gives r
        → (opened_of s r ≡ read_from read_kt s 0) × OpenedDecodes s r
    go none e m = rw m (sym (from_nothing read_kt s 0 e), tt)
    go (some (l, next)) e (o, k, q) = rw q (step l next e o (reads l o k))

-- a search whose target line is not read found nothing
pub target_unfound : (s : Bytes) (at : ℕ) → read_from (read_line target_form) s at ≡ none → read_finding search s at ≡ none
unfolding read_finding bind
target_unfound s at e = rw e refl
