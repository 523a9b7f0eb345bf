-- Laws of log entries and values where they stand in a text (specs/LogText.antt).
use mathlib.Core.Path.{◌≡◌, refl, sym, ◌∙◌, ap, ap₂}
use mathlib.Core.List.{List, [], ◌∷◌, ◌++◌, map, flat_map, append_assoc, append-nil, Memᴰ}
use mathlib.Core.Option
use mathlib.Core.Option.{Option, none, some}
use Prim.Native.Nat.{ℕ, zero, suc, ◌+◌, ◌-◌, ◌*◌, ◌/◌, ◌%◌, ◌^◌, ◌≤◌, ◌<◌}
use native.Mathlib.Omega.{arith}
use Rattle.std.proofs.Math.Nat.{mul-suc, mul-le-mul_left, mul-div-le}
use lib.ListN.{length, take, drop, get_or, length-append, length-take, length-drop, length-map}
use lib.Seq.{length-take-le, take-nil, drop-nil, take_at, take-take, drop-drop}
use borrow.Author.Tests.{eq-eqb}
use Rattle.std.specs.Prelude.{Some, None, unwrap_or, Option as CodeOption}
use Rattle.lists.specs.Choice.{option_of}
use Rattle.lists.specs.Lists.{Bytes, runs}
use Rattle.lists.proofs.ListLaws.{Lacks, all_lacks}
use Rattle.hash.specs.Bytes.{AreBytes}
use Rattle.hash.specs.Sha256.{digest_length}
use Rattle.hash.proofs.BytesLaws.{bytes_take, bytes_drop}
use Rattle.lines.specs.Number.{read_number, decimal, ascii}
use Rattle.lines.specs.Hex.{dash, hex_digit, hex, hex_field}
use Rattle.lines.specs.Field.{exactly, read_field, write_field, write_fields}
use Rattle.lines.specs.Line.{tab, newline, Form, before, after, joined, line, write_line}
use Rattle.lines.proofs.OffsetLaws.{before_at, before_lacks, after_lacks}
use Rattle.lines.proofs.NumberLaws.{is_plain, read_decimal, decimal_plain}
use Rattle.lines.proofs.HexLaws.{length_hex, hex_field_some}
use Rattle.lines.proofs.FieldLaws.{read_field_lem}
use Rattle.lines.proofs.ReadingLaws.{number_empty, digest_long}
use Rattle.lines.specs.Layout.{node_fields, node_line, value_digits}
use Rattle.tree.specs.LogTree.{zeros}
use Rattle.tree.specs.LogText.{number_in, value_in, values_in, entry_in, nodes_in}
use Rattle.tree.proofs.RunLaws.{length_runs, mapped-run, mapped-none, length-texts, runs-texts}
use Rattle.tree.proofs.RunLaws.{drop-take}

-- what an answer of the code has, or a default, is what the answer has in the definitions' words
pub unwrapped : {A : Type 0} (o : CodeOption A) (d : A) → unwrap_or o d ≡ Option.get_or (option_of o) d
unwrapped (Some a) d = refl
unwrapped None d = refl

-- ---- numbers

-- the number in a field is what reads there, or 0
pub number_read : (s : Bytes) (o : Option ℕ) → o ≡ read_number (2 ^ 64 - 1) s → number_in s ≡ Option.get_or o 0
unfolding number_in
number_read s o e = rw e refl

-- so it is between an offset and the first tab from there on
pub number_between : (s : Bytes) (at stop : ℕ) (o : Option ℕ) → stop ≡ at + length (before tab (drop at s))
    → o ≡ read_number (2 ^ 64 - 1) (take (stop - at) (drop at s)) → number_in (before tab (drop at s)) ≡ Option.get_or o 0
number_between s at stop o e f = number_read (before tab (drop at s)) o (f ∙ ap (read_number (2 ^ 64 - 1)) (before_at tab s at stop e))

-- in an empty field it is 0
pub number_none : (s : Bytes) → length s ≡ 0 → number_in s ≡ 0
number_none s h = number_read s none (sym (number_empty (2 ^ 64 - 1) s h))

-- ---- values

-- a value: 32 bytes
abbrev pub IsValue : Bytes → Type 0
IsValue v = (length v ≡ digest_length) × AreBytes v

-- what a field has is the value that is read there
pub value_read : (s : Bytes) (o : Option Bytes) → o ≡ read_field (exactly digest_length) s → value_in s ≡ Option.get_or o zeros
unfolding value_in
value_read s o e = rw e refl

-- a field of another length has zeros
pub value_none : (s : Bytes) → (length s ≡ value_digits → ⊥) → value_in s ≡ zeros
value_none s n = value_read s none (sym (digest_long s n))

-- the digits of a value do not stand where too few bytes are left
pub value_short : (s : Bytes) (at : ℕ) → length s < at + value_digits → value_in (take value_digits (drop at s)) ≡ zeros
value_short s at h =
    value_none (take value_digits (drop at s)) (λ e. omega (arith, length-take value_digits (drop at s), length-drop at s))

-- ---- siblings and nodes

-- a line that is there is within a text of n bytes
pub line_room : (n k i d : ℕ) → d < k → i < n / k → k * i + d < n
line_room n k i d l h = omega (arith, mul-suc k i, mul-le-mul_left k h, mul-div-le n k)

-- the value of a number among siblings
pub sibling_some : (s : Bytes) (i : ℕ) → i < length s / value_digits → get_or (values_in s) i zeros ≡ value_in (take value_digits (drop (value_digits * i) s))
unfolding values_in
sibling_some s i h = mapped-run value_in (length s / value_digits) value_digits s i zeros h

-- there are zeros beyond them
pub sibling_none : (s : Bytes) (i : ℕ) → length s / value_digits ≤ i → get_or (values_in s) i zeros ≡ zeros
unfolding values_in
sibling_none s i h = mapped-none value_in (length s / value_digits) value_digits s i zeros h

-- the value of a number among node lines
pub node_some : (s : Bytes) (i : ℕ) → i < length s / node_line → get_or (nodes_in s) i zeros ≡ value_in (take value_digits (drop (node_line * i + node_fields) s))
unfolding nodes_in
node_some s i h =
    let t = drop (node_line * i) s in
    mapped-run (λ (l : Bytes). value_in (take value_digits (drop node_fields l))) (length s / node_line) node_line s i zeros h
    ∙ ap (λ (l : Bytes). value_in (take value_digits l)) (drop-take node_fields (value_digits + 1) t)
    ∙ ap value_in (take-take value_digits (value_digits + 1) (drop node_fields t) (omega arith) ∙ ap (take value_digits) (drop-drop node_fields (node_line * i) s))

-- there are zeros beyond them
pub node_none : (s : Bytes) (i : ℕ) → length s / node_line ≤ i → get_or (nodes_in s) i zeros ≡ zeros
unfolding nodes_in
node_none s i h = mapped-none (λ (l : Bytes). value_in (take value_digits (drop node_fields l))) (length s / node_line) node_line s i zeros h

-- a text holds as many siblings as it has room for their digits
pub length_siblings : (s : Bytes) → length (values_in s) ≡ length s / value_digits
unfolding values_in
length_siblings s = length-map (runs (length s / value_digits) value_digits s) value_in ∙ length_runs (length s / value_digits) value_digits s

-- ---- what is written

-- the digits of a value encode it
pub value_hex : (v : Bytes) → IsValue v → value_in (hex v) ≡ v
unfolding value_in write_field
value_hex v (l, b) =
    let n : 0 < length v = omega arith in
    let r = read_field_lem (exactly digest_length) v (eq-eqb (length v) digest_length l, b) in
    let e : read_field (exactly digest_length) (hex v) ≡ some v = ap (read_field (exactly digest_length)) (sym (hex_field_some v n)) ∙ r in
    rw e refl

-- so they do with more after them
pub value_front : (v rest : Bytes) → IsValue v → value_in (take value_digits (hex v ++ rest)) ≡ v
value_front v rest h =
    ap value_in (take_at (hex v) rest value_digits (omega (arith, length_hex v, h.0))) ∙ value_hex v h

-- a number of 64 bits is written as it reads
pub number_decimal : (n : ℕ) → n ≤ 2 ^ 64 - 1 → number_in (decimal n) ≡ n
number_decimal n h = number_read (decimal n) (some n) (sym (read_decimal (2 ^ 64 - 1) n h))

-- a number has no tab
decimal_lacks : (n : ℕ) → Lacks tab (decimal n)
decimal_lacks n = all_lacks is_plain tab (decimal n) refl (decimal_plain n)

-- position, time and prefix root, parted by tabs, are the entry
pub entry_here : (p t : ℕ) (v rest : Bytes) → p ≤ 2 ^ 64 - 1 → t ≤ 2 ^ 64 - 1 → IsValue v
    → entry_in (decimal p ++ tab ∷ (decimal t ++ tab ∷ (hex v ++ rest))) ≡ record { position = p; timestamp = t; prefix_root = v }
unfolding entry_in
entry_here p t v rest g h i =
    let s = decimal t ++ tab ∷ (hex v ++ rest) in
    let e : number_in (before tab (decimal p ++ tab ∷ s)) ≡ p = ap number_in (before_lacks tab (decimal p) s (decimal_lacks p)) ∙ number_decimal p g in
    let a : after tab (decimal p ++ tab ∷ s) ≡ s = after_lacks tab (decimal p) s (decimal_lacks p) in
    let f : number_in (before tab s) ≡ t = ap number_in (before_lacks tab (decimal t) (hex v ++ rest) (decimal_lacks t)) ∙ number_decimal t h in
    let b : after tab s ≡ hex v ++ rest = after_lacks tab (decimal t) (hex v ++ rest) (decimal_lacks t) in
    rw (e, a, f, b, value_front v rest i) refl

-- so are the fields of an entry line, with more after them
pub entry_written : (p t : ℕ) (v rest : Bytes) → p ≤ 2 ^ 64 - 1 → t ≤ 2 ^ 64 - 1 → IsValue v
    → entry_in (joined tab (decimal p ∷ decimal t ∷ hex_field v ∷ []) ++ rest) ≡ record { position = p; timestamp = t; prefix_root = v }
unfolding joined
entry_written p t v rest g h i =
    let e : hex_field v ≡ hex v = hex_field_some v (omega (arith, i.0)) in
    let a = append_assoc (decimal p) (tab ∷ (decimal t ++ tab ∷ hex v)) rest in
    let b = ap (λ (s : Bytes). decimal p ++ tab ∷ s) (append_assoc (decimal t) (tab ∷ hex v) rest) in
    rw e (ap entry_in (a ∙ b) ∙ entry_here p t v rest g h i)

-- the form of a node line
abbrev pub node_form : Form
node_form = record { words = ascii "node" ∷ []; fields = exactly digest_length ∷ [] }

-- a node line: the word and a tab, the digits, the newline
node_line_lem : (v : Bytes) → IsValue v → write_line node_form (v, tt) ≡ (ascii "node" ++ tab ∷ []) ++ (hex v ++ newline ∷ [])
unfolding write_line write_fields write_field line joined ascii
node_line_lem v h = let e : hex_field v ≡ hex v = hex_field_some v (omega (arith, h.0)) in rw e refl

-- it is as long as a node line is
length_node : (v : Bytes) → IsValue v → length (write_line node_form (v, tt)) ≡ node_line
unfolding ascii
length_node v h = ap length (node_line_lem v h) ∙ omega (arith, length-append (hex v) (newline ∷ []), length_hex v, h.0)

-- and the value in it is its value
value_node : (v : Bytes) → IsValue v → value_in (take value_digits (drop node_fields (write_line node_form (v, tt)))) ≡ v
unfolding ascii
value_node v h = ap (λ (l : Bytes). value_in (take value_digits (drop node_fields l))) (node_line_lem v h) ∙ value_front v (newline ∷ []) h

-- a function that takes back what another does to each element of a list
map_back : {A B : Type 0} (f : A → B) (g : B → A) (xs : List A) → ((x : A) → Memᴰ x xs → g (f x) ≡ x) → map g (map f xs) ≡ xs
map_back f g [] h = refl
map_back f g (x ∷ xs) h = ap₂ ◌∷◌ (h x (Memᴰ.head refl)) (map_back f g xs (λ y m. h y (Memᴰ.tail m)))

-- node lines, one after the other, have the values that they were written for
pub nodes_written : (vs : List Bytes) → ((v : Bytes) → Memᴰ v vs → IsValue v) → nodes_in (flat_map (λ (v : Bytes). write_line node_form (v, tt)) vs) ≡ vs
unfolding nodes_in
nodes_written vs h =
    let write : Bytes → Bytes = λ v. write_line node_form (v, tt) in
    let read : Bytes → Bytes = λ l. value_in (take value_digits (drop node_fields l)) in
    let s = flat_map write vs in
    let long : (v : Bytes) → Memᴰ v vs → length (write v) ≡ node_line = λ v m. length_node v (h v m) in
    let n : length s / node_line ≡ length vs = omega (arith, length-texts node_line write vs long) in
    ap (map read) (ap (λ (k : ℕ). runs k node_line s) n ∙ ap (runs (length vs) node_line) (sym (append-nil s)) ∙ runs-texts node_line write vs [] long)
    ∙ map_back write read vs (λ v m. value_node v (h v m))

-- the digits of the first bytes are the first digits
take_hex : (k : ℕ) (s : Bytes) → take (2 * k) (hex s) ≡ hex (take k s)
unfolding hex
take_hex zero s = refl
take_hex (suc k) [] = take-nil (2 * suc k)
take_hex (suc k) (b ∷ s) =
    let e : 2 * suc k ≡ suc (suc (2 * k)) = omega arith in
    rw e (ap (λ (t : Bytes). hex_digit (b / 16) ∷ hex_digit (b % 16) ∷ t) (take_hex k s))

-- and those of the others are the others
drop_hex : (k : ℕ) (s : Bytes) → drop (2 * k) (hex s) ≡ hex (drop k s)
unfolding hex
drop_hex zero s = refl
drop_hex (suc k) [] = drop-nil (2 * suc k)
drop_hex (suc k) (b ∷ s) =
    let e : 2 * suc k ≡ suc (suc (2 * k)) = omega arith in
    rw e (drop_hex k s)

-- the values of runs of digits are the runs of the bytes
values_runs : (n : ℕ) (s : Bytes) → AreBytes s → n * digest_length ≤ length s → map value_in (runs n value_digits (hex s)) ≡ runs n digest_length s
unfolding runs
values_runs zero s b h = refl
values_runs (suc n) s b h =
    let l : length (take digest_length s) ≡ digest_length = length-take-le digest_length s (omega arith) in
    ap₂ ◌∷◌
    (ap value_in (take_hex digest_length s) ∙ value_hex (take digest_length s) (l, bytes_take digest_length s b))
    (ap (λ (t : Bytes). map value_in (runs n value_digits t)) (drop_hex digest_length s)
    ∙ values_runs n (drop digest_length s) (bytes_drop digest_length s b) (omega (arith, length-drop digest_length s)))

-- siblings as written are the runs of their bytes
pub siblings_written : (s : Bytes) → AreBytes s → values_in (hex_field s) ≡ runs (length s / digest_length) digest_length s
unfolding values_in runs dash ascii hex_field
siblings_written s b = go s b
  where
    go : (s : Bytes) → AreBytes s → map value_in (runs (length (hex_field s) / value_digits) value_digits (hex_field s)) ≡ runs (length s / digest_length) digest_length s
    go [] b = refl
    go (x ∷ s) b =
        let n : length (hex (x ∷ s)) / value_digits ≡ length (x ∷ s) / digest_length = omega (arith, length_hex (x ∷ s)) in
        ap (λ (k : ℕ). map value_in (runs k value_digits (hex (x ∷ s)))) n ∙ values_runs (length (x ∷ s) / digest_length) (x ∷ s) b (omega arith)
