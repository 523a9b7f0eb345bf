-- Laws of commitments: a commitment's text taken in parts, and what a field encodes put into zeros
-- (src/commitment.rt).
use mathlib.Core.Path.{◌≡◌, refl, sym, ◌∙◌, ap}
use mathlib.Core.List.{List, [], ◌∷◌, ◌++◌, append_assoc}
use mathlib.Core.Option.{Option, none, some, get_or}
use Prim.Native.Nat.{ℕ, ◌+◌, ◌%◌, ◌≤◌, ◌<◌}
use native.Mathlib.Omega.{arith}
use lib.ListN.{length, take, replicate, length-replicate}
use Rattle.std.specs.Prelude.{Option as CodeOption, Some, None}
use Rattle.std.specs.Option.{unwrap_or}
use Rattle.lists.specs.Choice.{option_of}
use Rattle.lists.specs.Lists.{Bytes}
use Rattle.hash.specs.Bytes.{big_endian, padded}
use Rattle.hash.specs.declared.hasher.Hasher.{Hasher}
use Rattle.hash.specs.Hasher.{updated}
use Rattle.hash.specs.Hmac.{begun, ended, hmac, inner_key}
use Rattle.hash.proofs.BytesLaws.{padded_nil, length_padded, take_padded}
use Rattle.hash.proofs.HasherLaws.{updated_append}
use Rattle.hash.proofs.HmacLaws.{hmac_parts}
use Rattle.lines.specs.Hex.{read_hex}
use Rattle.lines.specs.Writing.{offset_after_any, put_any}
use Rattle.lines.proofs.WritingLaws.{put_fits, put_some, put_none}
use Rattle.rules.specs.Limits.{label_limit}
use Rattle.rules.specs.Encoding.{opaque}
use Rattle.rules.specs.Commitment.{commitment_key, commitment_value, commitment_to}
use Rattle.inputs.specs.ResponseLines.{decoded}
use Rattle.inputs.proofs.FrontLaws.{put_first}

-- ---- the text in parts

-- a text begun under a key that takes one more part
begun_more : (k s t u : List ℕ) (g h : Hasher) → g ≡ updated (begun k) s → h ≡ updated g t → t ≡ u → h ≡ updated (begun k) (s ++ u)
unfolding begun
begun_more k s t u g h eg eh e =
    rw (
      eh,
      eg,
      e,
      updated_append (inner_key k) s,
      updated_append (inner_key k ++ s) u,
      updated_append (inner_key k) (s ++ u),
      append_assoc (inner_key k) s u,
    )

-- a label's length as a byte
one_byte : (n : ℕ) → n < 256 → n ∷ [] ≡ big_endian 1 n
unfolding big_endian
one_byte n h = let e : n % 256 ≡ n = omega arith in rw e

-- a commitment's code, from its text in five parts
pub commitment_parts : (k opening label value : Bytes) (size : Bytes) (g h i j l m : Hasher) (r : Bytes)
    → k ≡ commitment_key → length label ≤ label_limit → size ≡ big_endian 4 (length value)
    → g ≡ begun k → h ≡ updated g opening → i ≡ updated h (length label ∷ []) → j ≡ updated i label
    → l ≡ updated j size → m ≡ updated l value → r ≡ ended k m → r ≡ commitment_to opening label value
unfolding commitment_to commitment_value opaque
commitment_parts k opening label value size g h i j l m r ek fl es eg eh ei ej el em er =
    let n : Bytes = big_endian 1 (length label) in
    let v : Bytes = big_endian 4 (length value) in
    let a : h ≡ updated (begun k) opening = eh ∙ ap (λ (x : Hasher). updated x opening) eg in
    let b : i ≡ updated (begun k) (opening ++ n) = begun_more k opening (length label ∷ []) n h i a ei (one_byte (length label) (omega arith)) in
    let d : j ≡ updated (begun k) (opening ++ n ++ label) = begun_more k (opening ++ n) label label i j b ej refl in
    let e : l ≡ updated (begun k) (opening ++ n ++ label ++ v) =
    begun_more k (opening ++ n ++ label) size v j l d el es in
    let f : m ≡ updated (begun k) (opening ++ n ++ label ++ v ++ value) = begun_more k (opening ++ n ++ label ++ v) value value l m e em refl in
    er ∙ ap (ended k) f ∙ hmac_parts k (opening ++ n ++ label ++ v ++ value)
    ∙ rw (ek, append_assoc opening n label) (ap (hmac commitment_key) (append_assoc (opening ++ (n ++ label)) v value))

-- ---- what a field encodes, put into zeros

-- the offset after it
offset_first : (n : ℕ) (o : Option Bytes) → length (get_or o []) ≤ n → get_or (offset_after_any (replicate n 0) 0 o) 0 ≡ length (get_or o [])
offset_first n none h = ap (λ (x : Option ℕ). get_or x 0) (put_none (replicate n 0) 0 none refl).0
offset_first n (some b) h =
    let e : 0 + length b ≡ length b = omega arith in
    let f = (put_fits (replicate n 0) 0 b (omega (arith, length-replicate {A = ℕ} n 0))).0 in
    ap (λ (x : Option ℕ). get_or x 0) ((put_some (replicate n 0) 0 (some b) b refl).0 ∙ f) ∙ e

-- the bytes then
bytes_first : (n : ℕ) (o : Option Bytes) → length (get_or o []) ≤ n → put_any (replicate n 0) 0 o ≡ padded n (get_or o [])
bytes_first n none h = (put_none (replicate n 0) 0 none refl).1 ∙ padded_nil n
bytes_first n (some b) h = put_first n (some b) b refl h

-- an answer of the code, or a default
unwrapped : (r : CodeOption ℕ) (d : ℕ) → unwrap_or r d ≡ get_or (option_of r) d
unwrapped (Some x) d = refl
unwrapped None d = refl

module _ (n : ℕ) (f : Bytes) (h : length (decoded f) ≤ n) where
  -- it fills the room with zeros after it
  pub decoded-room : put_any (replicate n 0) 0 (read_hex f) ≡ padded n (decoded f)
  unfolding decoded
  decoded-room = bytes_first n (read_hex f) h

  -- its length is told, and it stands at the front of the room
  pub decoded-front : (room : Bytes) → room ≡ put_any (replicate n 0) 0 (read_hex f) → (r : CodeOption ℕ)
      → option_of r ≡ offset_after_any (replicate n 0) 0 (read_hex f) → (stop : ℕ) → stop ≡ unwrap_or r 0
      → (stop ≡ length (decoded f)) × (length room ≡ n) × (take stop room ≡ decoded f)
  unfolding decoded
  decoded-front room e r q stop is =
      let l : stop ≡ length (decoded f) =
      is ∙ unwrapped r 0 ∙ ap (λ (o : Option ℕ). get_or o 0) q ∙ offset_first n (read_hex f) h in (
        l,
        ap length (e ∙ decoded-room) ∙ length_padded n (decoded f) h,
        ap (take stop) (e ∙ decoded-room) ∙ take_padded n stop (decoded f) (sym l),
      )
