-- Commitments bind (specs/Commitment.antt): one commitment to a label is to one opening and one
-- value, unless SHA-256 is broken. HMAC's outer strings have one value, so they are equal, so
-- HMAC's inner strings have one value too; these are equal, and so are the texts after the key. In
-- a text the opening has a fixed length, the label is the same, and the value's length stands
-- before it.
use mathlib.Core.Path.{◌≡◌, refl, sym, ◌∙◌}
use mathlib.Core.Logic.{◌⊎◌, inl}
use mathlib.Core.List.{List, ◌++◌, Memᴰ}
use Prim.Native.Nat.{ℕ}
use native.Mathlib.Omega.{arith}
use lib.ListN.{length, length-append}
use Rattle.lists.specs.Lists.{Bytes}
use Rattle.hash.specs.Bytes.{big_endian}
use Rattle.hash.specs.Sha256.{sha256}
use Rattle.hash.specs.Hmac.{inner_key, outer_key, inner_string, outer_string, hmac}
use Rattle.hash.proofs.BytesLaws.{length_big_endian}
use Rattle.tree.specs.Collisions.{Broken}
use Rattle.tree.proofs.CollisionLaws.{◌>>=◌, append_cancel, append_split, ByteStrings, Within, same-string}
use Rattle.rules.specs.Encoding.{opaque}
use Rattle.rules.specs.Commitment.{commitment_key, commitment_value, commitment_to, commitment_strings}

-- strings with their length before them that are equal so are equal
opaque_one : (k : ℕ) (s s' : Bytes) → opaque k s ≡ opaque k s' → s ≡ s'
unfolding opaque
opaque_one k s s' e =
    (append_split (big_endian k (length s)) (big_endian k (length s')) s s' (length_big_endian k (length s) ∙ sym (length_big_endian k (length s'))) e).1

-- texts of commitments to one label, their openings of one length, that are equal have equal
-- openings and values
text_one : (o o' l v v' : Bytes) → length o ≡ length o' → commitment_value o l v ≡ commitment_value o' l v' → (o ≡ o') × (v ≡ v')
unfolding commitment_value
text_one o o' l v v' h e =
    let k : length (o ++ opaque 1 l) ≡ length (o' ++ opaque 1 l) = omega (arith, length-append o (opaque 1 l), length-append o' (opaque 1 l)) in
    let (p, q) = append_split (o ++ opaque 1 l) (o' ++ opaque 1 l) (opaque 4 v) (opaque 4 v') k e in
    ((append_split o o' (opaque 1 l) (opaque 1 l) h p).0, opaque_one 4 v v' q)

module _ (S : List Bytes) (bytes : ByteStrings S) where
  -- texts with one code under one key are equal
  code_one : (k m m' : Bytes) → Memᴰ (inner_string k m) S → Memᴰ (outer_string k m) S → Memᴰ (inner_string k m') S
      → Memᴰ (outer_string k m') S → hmac k m ≡ hmac k m' → (m ≡ m') ⊎ Broken S
  unfolding hmac inner_string outer_string
  code_one k m m' i o i' o' e = do
    p ← same-string S bytes (outer_string k m) (outer_string k m') o o' e
    q ← same-string S bytes (inner_string k m) (inner_string k m') i i' (append_cancel (outer_key k) (sha256 (inner_string k m)) (sha256 (inner_string k m')) p)
    inl (append_cancel (inner_key k) m m' q)

  -- one commitment to a label is to one opening and one value
  pub commitment-one : (o o' l v v' : Bytes) → length o ≡ length o' → Within (commitment_strings o l v) S → Within (commitment_strings o' l v') S
      → commitment_to o l v ≡ commitment_to o' l v' → ((o ≡ o') × (v ≡ v')) ⊎ Broken S
  unfolding commitment_to commitment_strings
  commitment-one o o' l v v' h f f' e = do
    q ← code_one commitment_key (commitment_value o l v) (commitment_value o' l v') (f _ (Memᴰ.head refl)) (f _ (Memᴰ.tail (Memᴰ.head refl)))
        (f' _ (Memᴰ.head refl)) (f' _ (Memᴰ.tail (Memᴰ.head refl))) e
    inl (text_one o o' l v v' h q)
