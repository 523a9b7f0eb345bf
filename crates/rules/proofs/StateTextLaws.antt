-- Laws of a state's text (specs/StateText.antt): a state that is written reads as itself, a text
-- that reads is what is written, and it is never too long.
use mathlib.Core.Path.{◌≡◌, refl, sym, ◌∙◌, ap, ap₂}
use mathlib.Core.Bool.{true}
use mathlib.Core.List.{List, [], ◌∷◌, ◌++◌, map, append_assoc, append-nil, Memᴰ}
use mathlib.Core.Option.{none, some, bind, some-injective, none-ne-some}
use Prim.Native.Nat.{◌≤◌}
use native.Mathlib.Omega.{arith}
use lib.Dec.{eqb}
use lib.ListN.{length, length-append}
use borrow.Author.Tests.{le-leb, eq-eqb}
use Rattle.lists.specs.Choice.{◌>>◌}
use Rattle.lists.specs.Lists.{Bytes, all, same}
use Rattle.lists.proofs.ChoiceLaws.{test_some, bind_some}
use Rattle.lists.proofs.ListLaws.{none_left}
use Rattle.hash.specs.Bytes.{AreBytes}
use Rattle.lines.specs.Number.{ascii, decimal}
use Rattle.lines.specs.Hex.{hex_field}
use Rattle.lines.specs.Field.{write_field, write_fields}
use Rattle.lines.specs.Line.{tab, newline, Read, read_lines, read_line, leading, joined}
use Rattle.lines.proofs.FieldLaws.{Fits}
use Rattle.lines.proofs.LineLaws.{is_plain_form, line_text, write_line_lem, read_line_lem, line_read, line_lacks}
use Rattle.lines.proofs.LineLaws.{read_other, AllLack, all_lack_append, all_lack_map}
use Rattle.lines.proofs.LineLaws.{lines_text, text_append, text_written, text_short, lines_joined}
use Rattle.lines.proofs.LineLaws.{joined_lines}
use Rattle.lines.proofs.LineLaws.{leading_end, leading-none, leading-all, leading-was, leading-each}
use Rattle.lines.proofs.NumberLaws.{decimal_short}
use Rattle.lines.proofs.HexLaws.{length_hex_field}
use Rattle.rules.specs.Limits.{label_limit, hash_length, state_text_limit}
use Rattle.rules.specs.State.{MapEntry, State, is_valid, HasBytes}
use Rattle.rules.specs.StateText.{size_form, keep_form, pair_form, read_keep, read_pair, read_state_lines}
use Rattle.rules.specs.StateText.{read_state, write_keep, write_pair, write_state}
use Rattle.rules.proofs.StateLaws.{Valid, valid_was, values_few}

-- ---- lines

-- the lines of a state, without their newlines: the `size` line, a `keep` line, a `pair` line, and
-- all of them
unfoldable pub size_text : State → Bytes
size_text s = line_text size_form (s.log.size, (s.log.timestamp, (s.label, tt)))

unfoldable pub keep_text : Bytes → Bytes
keep_text v = line_text keep_form (v, tt)

unfoldable pub pair_text : MapEntry → Bytes
pair_text e = line_text pair_form (e.position, (e.version, tt))

unfoldable pub state_lines : State → List Bytes
state_lines s = size_text s ∷ (map keep_text s.log.values ++ map pair_text s.monitoring_map)

-- the forms of a state's lines have a word, and their words no tab and no newline
size_plain : is_plain_form size_form ≡ true
unfolding ascii all
size_plain = refl

keep_plain : is_plain_form keep_form ≡ true
unfolding ascii all
keep_plain = refl

pair_plain : is_plain_form pair_form ≡ true
unfolding ascii all
pair_plain = refl

-- a state's text is its lines
pub state_text : (s : State) → write_state s ≡ lines_text (state_lines s)
unfolding write_state write_keep write_pair state_lines size_text keep_text pair_text
state_text s =
    let k = lines_text (map keep_text s.log.values) in
    let p = lines_text (map pair_text s.monitoring_map) in
    ap₂ ◌++◌
    (ap₂ ◌++◌ (write_line_lem size_form (s.log.size, (s.log.timestamp, (s.label, tt)))) (text_written write_keep keep_text (λ v. write_line_lem keep_form (v, tt)) s.log.values))
    (text_written write_pair pair_text (λ e. write_line_lem pair_form (e.position, (e.version, tt))) s.monitoring_map)
    ∙ append_assoc (size_text s ++ newline ∷ []) k p
    ∙ append_assoc (size_text s) (newline ∷ []) (k ++ p)
    ∙ ap (λ (t : Bytes). size_text s ++ newline ∷ t) (sym (text_append (map keep_text s.log.values) (map pair_text s.monitoring_map)))

-- ---- values that fit

-- the values of the `size` line of a valid state fit it
size_fits : (s : State) → Valid s → HasBytes s → Fits size_form.fields (s.log.size, (s.log.timestamp, (s.label, tt)))
size_fits s v h = let a = v.size_fits in (omega arith, (v.time_bound, ((le-leb (length s.label) label_limit v.label_fits, h.0), tt)))

-- so does each value of a `keep` line
keep_fits : (s : State) (v : Bytes) → Valid s → HasBytes s → Memᴰ v s.log.values → Fits keep_form.fields (v, tt)
keep_fits s v a h m = ((eq-eqb (length v) hash_length (a.value_length v m), h.1 v m), tt)

-- and each pair its line
pair_fits : (s : State) (e : MapEntry) → Valid s → Memᴰ e s.monitoring_map → Fits pair_form.fields (e.position, (e.version, tt))
pair_fits s e a m =
    let z = a.size_fits in
    let p = a.position_fits e m in
    let q = a.version_fits e m in
    (omega arith, (omega arith, tt))

-- ---- reading what is written

-- a `keep` line reads as its value
read_keep_lem : (v : Bytes) → Fits keep_form.fields (v, tt) → read_keep (keep_text v) ≡ some v
unfolding read_keep keep_text bind
read_keep_lem v h = rw (read_line_lem keep_form (v, tt) keep_plain h) refl

-- a `pair` line reads as its pair
read_pair_lem : (e : MapEntry) → Fits pair_form.fields (e.position, (e.version, tt)) → read_pair (pair_text e) ≡ some e
unfolding read_pair pair_text bind
read_pair_lem e h = rw (read_line_lem pair_form (e.position, (e.version, tt)) pair_plain h) refl

-- a `pair` line is no `keep` line
pair_no_keep : (e : MapEntry) → Fits pair_form.fields (e.position, (e.version, tt)) → read_keep (pair_text e) ≡ none
unfolding read_keep pair_text bind ascii same
pair_no_keep e h =
    rw (read_other keep_form pair_form (e.position, (e.version, tt)) (ascii "keep") (ascii "pair") [] [] refl refl refl pair_plain h) refl

-- of `pair` lines none leads as a `keep` line
pairs_no_keep : (es : List MapEntry) → ((e : MapEntry) → Memᴰ e es → Fits pair_form.fields (e.position, (e.version, tt)))
    → leading read_keep (map pair_text es) ≡ ([], map pair_text es)
pairs_no_keep [] h = leading_end read_keep
pairs_no_keep (e ∷ es) h = leading-none read_keep (pair_text e) (map pair_text es) (pair_no_keep e (h e (Memᴰ.head refl)))

-- the lines of a state read as the state
read_lines_lem : (s : State) → Valid s → HasBytes s → read_state_lines (state_lines s) ≡ some s
unfolding read_state_lines state_lines size_text bind ◌>>◌
read_lines_lem s v h =
    let k = leading-all read_keep keep_text s.log.values (map pair_text s.monitoring_map) (λ a m. read_keep_lem a (keep_fits s a v h m))
    (pairs_no_keep s.monitoring_map (λ e m. pair_fits s e v m)) in
    let p = leading-all read_pair pair_text s.monitoring_map [] (λ e m. read_pair_lem e (pair_fits s e v m)) (leading_end read_pair) in
    rw (read_line_lem size_form (s.log.size, (s.log.timestamp, (s.label, tt))) size_plain (size_fits s v h), k, rw append-nil at p) refl

-- no line of a state has a newline within it
lines_lack : (s : State) → Valid s → HasBytes s → AllLack newline (state_lines s)
unfolding state_lines size_text keep_text pair_text
lines_lack s v h = (
  line_lacks size_form (s.log.size, (s.log.timestamp, (s.label, tt))) size_plain (size_fits s v h),
  all_lack_append newline (map keep_text s.log.values) (map pair_text s.monitoring_map)
      (all_lack_map newline keep_text s.log.values (λ a m. line_lacks keep_form (a, tt) keep_plain (keep_fits s a v h m)))
      (all_lack_map newline pair_text s.monitoring_map (λ e m. line_lacks pair_form (e.position, (e.version, tt)) pair_plain (pair_fits s e v m))),
)

-- a valid state, once written, reads as itself
pub read_write : (s : State) → is_valid s ≡ true → HasBytes s → read_state (write_state s) ≡ some s
unfolding read_state bind ◌>>◌
read_write s e h =
    let v = valid_was s e in
    rw (state_text s, lines_joined (state_lines s) (lines_lack s v h), read_lines_lem s v h, e) refl

-- ---- writing what is read

-- a line that reads as a value is its `keep` line, and the value is bytes
keep_was : (l v : Bytes) → read_keep l ≡ some v → (l ≡ keep_text v) × AreBytes v
unfolding read_keep keep_text
keep_was l v e =
    let (x, r, q) = bind_some (read_line keep_form l) (λ (x : Read keep_form). some x.0) v e in
    let i : x.0 ≡ v = some-injective x.0 v q in
    let (w, f) = line_read keep_form l x r in
    rw (← i) (w, f.0.1)

-- a line that reads as a pair is its `pair` line
pair_was : (l : Bytes) (e : MapEntry) → read_pair l ≡ some e → l ≡ pair_text e
unfolding read_pair pair_text
pair_was l e h =
    let (x, r, q) = bind_some (read_line pair_form l) (λ (x : Read pair_form). some (record { position = x.0; version = x.1.0 })) e h in
    let i : record { position = x.0; version = x.1.0 } ≡ e = some-injective (record { position = x.0; version = x.1.0 }) e q in
    rw (← i) (line_read pair_form l x r).0

-- lines that read as a state are its lines
lines_read : (ls : List Bytes) (s : State) → read_state_lines ls ≡ some s → (ls ≡ state_lines s) × HasBytes s
unfolding read_state_lines state_lines size_text
lines_read [] s e = absurd (none-ne-some s e)
lines_read (l ∷ ls) s e =
    let k = leading read_keep ls in
    let p = leading read_pair k.1 in
    let st : Read size_form → State = λ x. record { label = x.1.1.0; log = record { size = x.0; timestamp = x.1.0; values = k.0 }; monitoring_map = p.0 } in
    let (x, r, u) = bind_some (read_line size_form l) (λ (x : Read size_form). eqb (length p.1) 0 >> some (st x)) s e in
    let (n, q) = test_some (eqb (length p.1) 0) (some (st x)) s u in
    let i : st x ≡ s = some-injective (st x) s q in
    let (w, f) = line_read size_form l x r in
    let a : ls ≡ map keep_text k.0 ++ k.1 = leading-was read_keep keep_text (λ l v h. (keep_was l v h).0) ls in
    let b : k.1 ≡ map pair_text p.0 ++ p.1 = leading-was read_pair pair_text pair_was k.1 in
    let c : k.1 ≡ map pair_text p.0 = b ∙ ap (λ (z : List Bytes). map pair_text p.0 ++ z) (none_left p.1 n) ∙ append-nil (map pair_text p.0) in
    rw (← i) (
      ap₂ ◌∷◌ w (a ∙ ap (λ (z : List Bytes). map keep_text k.0 ++ z) c),
      (f.1.1.0.1, leading-each read_keep AreBytes (λ l v h. (keep_was l v h).1) ls),
    )

-- what is known of a text that reads as a state, and of the state
pub record TextOf (t : Bytes) (s : State) : Type 0 where
  pub written : t ≡ write_state s
  pub valid : is_valid s ≡ true
  pub has_bytes : HasBytes s

-- a text that reads as a state is what is written for it, and the state is valid
pub state_read : (t : Bytes) (s : State) → read_state t ≡ some s → TextOf t s
unfolding read_state
state_read t s e =
    let (ls, a, e1) = bind_some (read_lines t) (λ (ls : List Bytes). bind (read_state_lines ls) (λ (st : State). is_valid st >> some st)) s e in
    let (st, b, e2) = bind_some (read_state_lines ls) (λ (st : State). is_valid st >> some st) s e1 in
    let (c, e3) = test_some (is_valid st) (some st) s e2 in
    let i : st ≡ s = some-injective st s e3 in
    let (w, h) = lines_read ls st b in
    rw (← i) (record { written = (joined_lines t ls a).0 ∙ ap lines_text w ∙ sym (state_text st); valid = c; has_bytes = h })

-- so it is exactly the text that is written
pub write_read : (t : Bytes) (s : State) → read_state t ≡ some s → t ≡ write_state s
write_read t s e = (state_read t s e).written

-- ---- length

-- a `size` line has at most 550 bytes
size_short : (s : State) → Valid s → length (size_text s) ≤ 550
unfolding size_text line_text joined write_fields write_field ascii
size_short s v =
    let b = v.size_fits in
    let t = v.time_bound in
    let m = decimal_short 12 s.log.size (omega arith) in
    let n = decimal_short 19 s.log.timestamp (omega arith) in
    let l = length_hex_field 255 s.label (omega arith) v.label_fits in
    let r = tab ∷ hex_field s.label in
    omega (arith, length-append (decimal s.log.size) (tab ∷ (decimal s.log.timestamp ++ r)), length-append (decimal s.log.timestamp) r)

-- a `keep` line has at most 69
keep_short : (v : Bytes) → length v ≡ hash_length → length (keep_text v) ≤ 69
unfolding keep_text line_text joined write_fields write_field ascii
keep_short v h = let l = length_hex_field 32 v (omega arith) (omega arith) in omega arith

-- a `pair` line has at most 29
pair_short : (s : State) (e : MapEntry) → Valid s → Memᴰ e s.monitoring_map → length (pair_text e) ≤ 29
unfolding pair_text line_text joined write_fields write_field ascii
pair_short s e v m =
    let b = v.size_fits in
    let p = v.position_fits e m in
    let q = v.version_fits e m in
    let x = decimal_short 12 e.position (omega arith) in
    let y = decimal_short 9 e.version (omega arith) in
    omega (arith, length-append (decimal e.position) (tab ∷ decimal e.version))

-- the text of a valid state is within its limit: 551 bytes, at most 40 lines of 70 and 48 of 30
pub state_short : (s : State) → is_valid s ≡ true → length (write_state s) ≤ state_text_limit
unfolding state_lines
state_short s e =
    let v = valid_was s e in
    let k = map keep_text s.log.values in
    let p = map pair_text s.monitoring_map in
    let a = size_short s v in
    let b = text_short 69 keep_text s.log.values (λ w m. keep_short w (v.value_length w m)) in
    let c = text_short 29 pair_text s.monitoring_map (λ w m. pair_short s w v m) in
    let f = values_few s v in
    let g = v.map_fits in
    rw (state_text s, text_append k p)
    (omega (arith, length-append (size_text s) (newline ∷ (lines_text k ++ lines_text p)), length-append (lines_text k) (lines_text p)))
