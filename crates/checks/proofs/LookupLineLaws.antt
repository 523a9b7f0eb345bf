-- Laws of lookup lines (specs/Sections.antt): the text of a line that reads as a lookup, and how
-- the lookup reaches a prefix root, told from that text.
use mathlib.Core.Path.{◌≡◌, refl, sym, ◌∙◌, ap}
use mathlib.Core.Logic.{◌⊎◌, inl, inr}
use mathlib.Core.Bool.{true, false}
use mathlib.Core.List.{◌∷◌, ◌++◌}
use mathlib.Core.Option.{none, some, some-injective, none-ne-some}
use Prim.Native.Nat.{ℕ, suc, ◌+◌, ◌-◌, ◌/◌, ◌≤◌, ◌<◌}
use native.Mathlib.Omega.{arith}
use lib.Dec.{leb, eqb}
use lib.ListN.{length, take, drop, get_or, length-append, length-drop}
use lib.Seq.{take_all, drop-drop, drop-append-add}
use borrow.Author.Tests.{le-leb, lt-leb, eqb-true}
use Rattle.lists.specs.Choice.{or_else}
use Rattle.lists.specs.Lists.{Bytes, same}
use Rattle.lists.proofs.ChoiceLaws.{bind_some, choose_true, choose_false, or_else_some}
use Rattle.lists.proofs.ListLaws.{Lacks, all_lacks}
use Rattle.hash.specs.Bytes.{AreBytes}
use Rattle.lines.specs.Number.{ascii, read_number, decimal}
use Rattle.lines.specs.Hex.{hex, hex_field}
use Rattle.lines.specs.Field.{write_field, write_fields}
use Rattle.lines.specs.Line.{tab, joined, read_line}
use Rattle.lines.specs.Cursor.{field_at, read_at}
use Rattle.lines.proofs.OffsetLaws.{before_lacks}
use Rattle.lines.proofs.NumberLaws.{is_plain, read_decimal, decimal_plain}
use Rattle.lines.proofs.HexLaws.{length_hex, hex_field_some}
use Rattle.lines.proofs.LineLaws.{line_text, line_read}
use Rattle.lines.proofs.CursorLaws.{read_some}
use Rattle.lines.specs.Layout.{lookup_fields, value_digits}
use Rattle.tree.specs.LogText.{value_in, values_in}
use Rattle.tree.specs.PrefixTree.{Terminal, searched_leaf, empty_place, foreign_leaf, lookup_root, terminal_fits}
use Rattle.tree.proofs.LogTextLaws.{IsValue, length_siblings, value_front, siblings_written}
use Rattle.rules.specs.Limits.{hash_length, vrf_output_length, version_bound}
use Rattle.rules.specs.Response.{Result, included, absent, other_leaf, Lookup, is_included}
use Rattle.rules.specs.ResponseText.{in_form, no_form, nl_form, read_siblings, read_in, read_no, read_nl}
use Rattle.checks.specs.Sections.{read_lookup, OfLookup}
use Rattle.checks.specs.Lookups.{leads_to, second_value, after_values, leaf_reaches, terminal_with, reaches}

-- ---- the text of a lookup line

-- the first letter of a result's word
abbrev pub first_letter : Result → ℕ
first_letter included = 105
first_letter absent = 110
first_letter (other_leaf output commitment) = 110

-- its second letter
abbrev second_letter : Result → ℕ
second_letter included = 110
second_letter absent = 111
second_letter (other_leaf output commitment) = 108

-- two letters, a tab, a version, a tab and more
abbrev lettered : ℕ → ℕ → ℕ → Bytes → Bytes
lettered a b version rest = a ∷ b ∷ tab ∷ (decimal version ++ tab ∷ rest)

-- what follows the version, from the result and the siblings joined
abbrev after_version : Result → Bytes → Bytes
after_version included s = hex_field s
after_version absent s = hex_field s
after_version (other_leaf output commitment) s = hex_field output ++ tab ∷ (hex_field commitment ++ tab ∷ hex_field s)

-- another leaf has values
abbrev HasValues : Result → Type 0
HasValues included = Unit {0}
HasValues absent = Unit {0}
HasValues (other_leaf output commitment) = IsValue output × IsValue commitment

-- a line is the text of a lookup: the letters of its word, its version and what follows it
pub record LookupLine (l : Bytes) (x : Lookup) : Type 0 where
  pub siblings : Bytes
  pub text : l ≡ lettered (first_letter x.result) (second_letter x.result) x.version (after_version x.result siblings)
  pub bound : x.version ≤ version_bound
  pub values : HasValues x.result
  pub bytes : AreBytes siblings
  pub read : x.siblings ≡ read_siblings siblings

module _ (l : Bytes) (x : Lookup) where
  -- a line that reads as an inclusion
  included-line : read_in l ≡ some x → LookupLine l x
  unfolding read_in line_text write_fields write_field joined ascii
  included-line e =
      let ((v, (s, u)), r, q) = bind_some (read_line in_form l) _ x e in
      let (t, (b, ((f, a), _))) = line_read in_form l (v, (s, u)) r in
      let y : Lookup = record { version = v; result = included; siblings = read_siblings s } in
      let i : y ≡ x = some-injective y x q in
      rw (← i) (record { siblings = s; text = t; bound = b; values = tt; bytes = a; read = refl })

  -- one that reads as a non-inclusion
  absent-line : read_no l ≡ some x → LookupLine l x
  unfolding read_no line_text write_fields write_field joined ascii
  absent-line e =
      let ((v, (s, u)), r, q) = bind_some (read_line no_form l) _ x e in
      let (t, (b, ((f, a), _))) = line_read no_form l (v, (s, u)) r in
      let y : Lookup = record { version = v; result = absent; siblings = read_siblings s } in
      let i : y ≡ x = some-injective y x q in
      rw (← i) (record { siblings = s; text = t; bound = b; values = tt; bytes = a; read = refl })

  -- one that reads as a non-inclusion with another leaf
  leaf-line : read_nl l ≡ some x → LookupLine l x
  unfolding read_nl line_text write_fields write_field joined ascii
  leaf-line e =
      let ((v, (o, (c, (s, u)))), r, q) = bind_some (read_line nl_form l) _ x e in
      let (t, (b, ((g, m), ((h, n), ((f, a), _))))) = line_read nl_form l (v, (o, (c, (s, u)))) r in
      let y : Lookup = record { version = v; result = other_leaf o c; siblings = read_siblings s } in
      let i : y ≡ x = some-injective y x q in
      let p = eqb-true (length o) vrf_output_length g in
      let k = eqb-true (length c) hash_length h in
      rw (← i) (record { siblings = s; text = t; bound = b; values = ((p, m), (k, n)); bytes = a; read = refl })

  -- a line that reads as a lookup is its text
  pub lookup-line : read_lookup l ≡ some x → LookupLine l x
  unfolding read_lookup
  lookup-line e = go (or_else_some (read_in l) (or_else (read_no l) (read_nl l)) x e)
    where
      other : (read_no l ≡ some x) ⊎ (read_nl l ≡ some x) → LookupLine l x
      other (inl e) = absent-line e
      other (inr e) = leaf-line e

      go : (read_in l ≡ some x) ⊎ (or_else (read_no l) (read_nl l) ≡ some x) → LookupLine l x
      go (inl e) = included-line e
      go (inr e) = other (or_else_some (read_no l) (read_nl l) x e)

-- ---- its version

-- the offset after it and the tab that follows it
abbrev after_offset : ℕ → ℕ
after_offset version = lookup_fields + length (decimal version) + 1

module _ (a b version : ℕ) (rest : Bytes) where
  -- a version after two letters is read, with the offset after it
  front-version : version ≤ version_bound → read_at (read_number version_bound) (lettered a b version rest) lookup_fields ≡ some (version, after_offset version)
  unfolding field_at
  front-version h =
      let k : Lacks tab (decimal version) = all_lacks is_plain tab (decimal version) refl (decimal_plain version) in
      read_some (read_number version_bound) (lettered a b version rest) lookup_fields (decimal version)
      (sym (before_lacks tab (decimal version) rest k)) (omega arith)
      version (read_decimal version_bound version h)

  -- what stands from there on is what follows it
  front_rest : drop (after_offset version) (lettered a b version rest) ≡ rest
  front_rest =
      let e : after_offset version ≡ suc (suc (suc (length (decimal version) + 1))) = omega arith in
      rw e (drop-append-add (decimal version) (tab ∷ rest) 1)

  -- and that offset is in the text
  front_long : after_offset version ≤ length (lettered a b version rest)
  front_long = omega (arith, length-append (decimal version) (tab ∷ rest))

module _ (l : Bytes) (x : Lookup) (t : LookupLine l x) where
  -- the letters stand first, one
  first-letter : get_or l 0 0 ≡ first_letter x.result
  first-letter = ap (λ (s : Bytes). get_or s 0 0) t.text

  -- and the other
  second-letter : get_or l 1 0 ≡ second_letter x.result
  second-letter = ap (λ (s : Bytes). get_or s 1 0) t.text

  -- the version is read at its offset
  version-there : read_at (read_number version_bound) l lookup_fields ≡ some (x.version, after_offset x.version)
  version-there = rw t.text (front-version _ _ x.version _ t.bound)

  module _ (v next : ℕ) (e : read_at (read_number version_bound) l lookup_fields ≡ some (v, next)) where
    -- what was read there is the version, and the offset after it
    version-was : (v ≡ x.version) × (next ≡ after_offset x.version)
    version-was =
        let i : ◌≡◌ {A = ℕ × ℕ} (v, next) (x.version, after_offset x.version) = some-injective _ _ (sym e ∙ version-there) in
        (ap (λ (p : ℕ × ℕ). p.0) i, ap (λ (p : ℕ × ℕ). p.1) i)

    -- what follows the version stands from that offset on
    rest-there : take (length l - next) (drop next l) ≡ after_version x.result t.siblings
    rest-there = take_all (length l - next) (drop next l) (omega (arith, length-drop next l)) ∙ rw (version-was.1, t.text) (front_rest _ _ x.version _)

    -- and that offset is in the line
    rest-begins : next ≤ length l
    rest-begins =
        let r = x.result in
        rw (version-was.1, t.text) (front_long (first_letter r) (second_letter r) x.version (after_version r t.siblings))

-- ---- what is told of a lookup line

-- the first letter tells whether the version is there
letter_told : (r : Result) → eqb (first_letter r) 105 ≡ is_included r
unfolding is_included
letter_told included = refl
letter_told absent = refl
letter_told (other_leaf output commitment) = refl

-- and is not that of an entry line
pub letter_other : (r : Result) → first_letter r ≡ 101 → ⊥
letter_other included e = omega arith
letter_other absent e = omega arith
letter_other (other_leaf output commitment) e = omega arith

module _ (l : Bytes) where
  -- a number read at the offset of a version is the version
  pub version-told : (v next : ℕ) → read_at (read_number version_bound) l lookup_fields ≡ some (v, next) → OfLookup l (λ (x : Lookup). x.version) v
  version-told v next e x h = (version-was l x (lookup-line l x h) v next e).0

  -- the version cannot be missing
  pub version-misses : (x : Lookup) → read_lookup l ≡ some x → read_at (read_number version_bound) l lookup_fields ≡ none → ⊥
  version-misses x h e = none-ne-some _ (sym e ∙ version-there l x (lookup-line l x h))

  -- the first byte tells whether the version is there
  pub inclusion-told : OfLookup l (λ (x : Lookup). is_included x.result) (eqb (get_or l 0 0) 105)
  inclusion-told x h = ap (λ (b : ℕ). eqb b 105) (first-letter l x (lookup-line l x h)) ∙ letter_told x.result

  -- and cannot be missing
  pub inclusion-misses : (x : Lookup) → read_lookup l ≡ some x → length l ≡ 0 → ⊥
  inclusion-misses x h n = let k = ap length (lookup-line l x h).text in omega arith

-- ---- siblings that lead to a root

module _ (output root : Bytes) (t : Terminal) (s : Bytes) where
  -- what does not fit so many siblings leads nowhere
  pub leads-not : terminal_fits output t (length s / value_digits) ≡ false → leads_to output t root s ≡ false
  unfolding leads_to
  leads-not e = rw (length_siblings s, e) refl

  -- what fits leads to the root, if that is the root of the lookup
  pub leads-same : terminal_fits output t (length s / value_digits) ≡ true → (v : Bytes) → v ≡ lookup_root output t (values_in s)
      → same v root ≡ leads_to output t root s
  unfolding leads_to
  leads-same e v i = rw (length_siblings s, e, i) refl

module _ (output root s : Bytes) where
  -- too few bytes hold no other leaf
  pub leaf-short : length s < after_values → leaf_reaches output root s ≡ false
  unfolding leaf_reaches
  leaf-short h = choose_false (leb after_values (length s)) _ _ (lt-leb after_values (length s) h)

  -- others hold one, and siblings
  leaf-there : after_values ≤ length s → leaf_reaches output root s
      ≡ leads_to output (foreign_leaf (value_in (take value_digits s)) (value_in (take value_digits (drop second_value s)))) root (drop after_values s)
  unfolding leaf_reaches
  leaf-there h = choose_true (leb after_values (length s)) _ _ (le-leb after_values (length s) h)

  -- which lead to the root, if it is reached
  pub leaf-leads : after_values ≤ length s → (o c : Bytes) → o ≡ value_in (take value_digits (drop 0 s)) → c ≡ value_in (take value_digits (drop second_value s))
      → leads_to output (foreign_leaf o c) root (take (length s - after_values) (drop after_values s)) ≡ leaf_reaches output root s
  leaf-leads h o c e f =
      let p = take_all (length s - after_values) (drop after_values s) (omega (arith, length-drop after_values s)) in
      rw (e, f, p) (sym (leaf-there h))

-- ---- a lookup that reaches a root

-- another leaf as written
leaf_written : (output root o c s : Bytes) → IsValue o → IsValue c
    → leaf_reaches output root (hex_field o ++ tab ∷ (hex_field c ++ tab ∷ hex_field s)) ≡ leads_to output (foreign_leaf o c) root (hex_field s)
leaf_written output root o c s p q =
    let t = hex_field s in
    let u = hex c ++ tab ∷ t in
    let e : hex_field o ≡ hex o = hex_field_some o (omega (arith, p.0)) in
    let f : hex_field c ≡ hex c = hex_field_some c (omega (arith, q.0)) in
    let m : length (hex o) + 1 ≡ second_value = omega (arith, length_hex o, p.0) in
    let n : length (hex c) + 1 ≡ second_value = omega (arith, length_hex c, q.0) in
    let i : drop second_value (hex o ++ tab ∷ u) ≡ u = ap (λ (k : ℕ). drop k (hex o ++ tab ∷ u)) (sym m) ∙ drop-append-add (hex o) (tab ∷ u) 1 in
    let j : drop second_value u ≡ t = ap (λ (k : ℕ). drop k u) (sym n) ∙ drop-append-add (hex c) (tab ∷ t) 1 in
    let d : drop after_values (hex o ++ tab ∷ u) ≡ t = sym (drop-drop second_value second_value (hex o ++ tab ∷ u)) ∙ ap (drop second_value) i ∙ j in
    let w : after_values ≤ length (hex o ++ tab ∷ u) = omega (arith, length-append (hex o) (tab ∷ u), length-append (hex c) (tab ∷ t)) in
    rw (e, f) (leaf-there output root (hex o ++ tab ∷ u) w ∙ rw (i, d, value_front o (tab ∷ u) p, value_front c (tab ∷ t) q) refl)

-- a lookup reaches the root to which its siblings lead
written_reaches : (output commitment root s : Bytes) (x : Lookup) (r : Result) → x.result ≡ r → AreBytes s → x.siblings ≡ read_siblings s
    → leads_to output (terminal_with commitment r) root (hex_field s) ≡ reaches output commitment root x
unfolding reaches leads_to read_siblings
written_reaches output commitment root s x r e b i = rw (siblings_written s b, e, i) refl

module _ (l : Bytes) (x : Lookup) (h : read_lookup l ≡ some x) where
  -- the text of a line that reads as a lookup
  abbrev line : LookupLine l x
  line = lookup-line l x h

  module _ (v next : ℕ) (e : read_at (read_number version_bound) l lookup_fields ≡ some (v, next)) where
    -- it cannot stop before the offset after its version
    pub rest-misses : length l < next → ⊥
    rest-misses i = omega (arith, rest-begins l x line v next e)

    module _ (output commitment root : Bytes) where
      -- what follows the version
      abbrev rest : Bytes
      rest = take (length l - next) (drop next l)

      -- by the result
      rest-is : (r : Result) → x.result ≡ r → rest ≡ after_version r line.siblings
      rest-is r q = rest-there l x line v next e ∙ ap (λ (r : Result). after_version r line.siblings) q

      -- the siblings lead to the root, if it is reached
      siblings-reach : (r : Result) → x.result ≡ r
          → leads_to output (terminal_with commitment r) root (hex_field line.siblings) ≡ reaches output commitment root x
      siblings-reach r q = written_reaches output commitment root line.siblings x r q line.bytes line.read

      -- an inclusion, told by its first letter
      pub in-reaches : get_or l 0 0 ≡ 105 → leads_to output (searched_leaf commitment) root rest ≡ reaches output commitment root x
      unfolding terminal_with
      in-reaches i = go x.result refl
        where
          go : (r : Result) → x.result ≡ r → leads_to output (searched_leaf commitment) root rest ≡ reaches output commitment root x
          go included q = ap (leads_to output (searched_leaf commitment) root) (rest-is included q) ∙ siblings-reach included q
          go absent q = absurd (omega (arith, i, first-letter l x line, ap first_letter q))
          go (other_leaf o c) q = absurd (omega (arith, i, first-letter l x line, ap first_letter q))

      module _ (n : get_or l 0 0 ≡ 105 → ⊥) where
        -- a non-inclusion, told by its letters
        pub no-reaches : get_or l 1 0 ≡ 111 → leads_to output empty_place root rest ≡ reaches output commitment root x
        unfolding terminal_with
        no-reaches i = go x.result refl
          where
            go : (r : Result) → x.result ≡ r → leads_to output empty_place root rest ≡ reaches output commitment root x
            go included q = absurd (n (first-letter l x line ∙ ap first_letter q))
            go absent q = ap (leads_to output empty_place root) (rest-is absent q) ∙ siblings-reach absent q
            go (other_leaf o c) q = absurd (omega (arith, i, second-letter l x line, ap second_letter q))

        -- one that shows another leaf, told by its letters
        pub nl-reaches : (get_or l 1 0 ≡ 111 → ⊥) → leaf_reaches output root rest ≡ reaches output commitment root x
        unfolding terminal_with
        nl-reaches i = go x.result refl line.values
          where
            go : (r : Result) → x.result ≡ r → HasValues r → leaf_reaches output root rest ≡ reaches output commitment root x
            go included q w = absurd (n (first-letter l x line ∙ ap first_letter q))
            go absent q w = absurd (i (second-letter l x line ∙ ap second_letter q))
            go (other_leaf o c) q (m, k) =
                ap (leaf_reaches output root) (rest-is (other_leaf o c) q) ∙ leaf_written output root o c line.siblings m k ∙ siblings-reach (other_leaf o c) q
