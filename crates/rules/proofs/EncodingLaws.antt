-- Laws of the encodings (specs/Encoding.antt): what is written reads as itself with what follows
-- it, and what reads is what is written.
use mathlib.Core.Path.{◌≡◌, refl, sym, ◌∙◌, ap, ap₂}
use mathlib.Core.List.{[], ◌∷◌, ◌++◌, append_assoc, append-nil}
use mathlib.Core.Option.{none, some, bind, some-injective}
use Prim.Native.Nat.{ℕ, zero, suc, ◌+◌, ◌*◌, ◌/◌, ◌%◌, ◌^◌, ◌≤◌, ◌<◌}
use native.Mathlib.Nat.{pow-succ'}
use native.Mathlib.Omega.{arith}
use lib.Dec.{leb}
use lib.ListN.{length, take, drop, length-append, take-append-drop}
use lib.Seq.{append_snoc, take_at, drop_at, length-take-le}
use borrow.Author.Tests.{le-leb, lt-leb, leb-true}
use Rattle.lists.specs.Choice.{provided}
use Rattle.lists.specs.Lists.{Bytes}
use Rattle.lists.proofs.ChoiceLaws.{provided_true, provided_some, bind_some}
use Rattle.hash.specs.Bytes.{AreBytes, big_endian}
use Rattle.hash.proofs.BytesLaws.{length_big_endian}
use Rattle.rules.specs.Encoding.{opaque, bytes_after, uint, read_bytes, read_uint, read_opaque}

-- ---- bytes in a row

-- of two strings of bytes in a row each is one
pub bytes_split : (s t : Bytes) → AreBytes (s ++ t) → AreBytes s × AreBytes t
bytes_split [] t h = (tt, h)
bytes_split (b ∷ s) t h = let (p, q) = bytes_split s t h.1 in ((h.0, p), q)

-- ---- the number that bytes encode

-- one byte more
pub after_byte : (n b : ℕ) (s : Bytes) → bytes_after n (b ∷ s) ≡ bytes_after (n * 256 + b) s
unfolding bytes_after
after_byte n b s = refl

-- no byte more
pub after_none : (n : ℕ) → bytes_after n [] ≡ n
unfolding bytes_after
after_none n = refl

-- bytes encode what they encode after nothing
pub uint_after : (s : Bytes) → uint s ≡ bytes_after 0 s
unfolding uint
uint_after s = refl

-- a number of k bytes and one byte more are a number of one byte more
pub byte_fits : (k n b : ℕ) → n < 256 ^ k → b < 256 → n * 256 + b < 256 ^ suc k
byte_fits k n b h l = let p : 256 ^ suc k ≡ 256 * 256 ^ k = pow-succ' 256 k in omega arith

-- a last byte is the lowest
after_last : (n b : ℕ) (s : Bytes) → bytes_after n (s ++ b ∷ []) ≡ bytes_after n s * 256 + b
unfolding bytes_after
after_last n b [] = refl
after_last n b (a ∷ s) = after_last (n * 256 + a) b s

-- a number of k bytes and further bytes are a number of so many bytes
after_fits : (k n : ℕ) (s : Bytes) → n < 256 ^ k → AreBytes s → bytes_after n s < 256 ^ (k + length s)
unfolding bytes_after
after_fits k n [] h b = let e : k + 0 ≡ k = omega arith in rw e h
after_fits k n (a ∷ s) h b =
    let e : k + suc (length s) ≡ suc k + length s = omega arith in
    rw e (after_fits (suc k) (n * 256 + a) s (byte_fits k n a h b.0) b.1)

-- the bytes of what bytes encode after a number are that number's and those
after_bytes : (k n : ℕ) (s : Bytes) → AreBytes s → big_endian (k + length s) (bytes_after n s) ≡ big_endian k n ++ s
unfolding bytes_after big_endian
after_bytes k n [] h = let e : k + 0 ≡ k = omega arith in rw e (sym (append-nil (big_endian k n)))
after_bytes k n (a ∷ s) h =
    let l = h.0 in
    let e : k + suc (length s) ≡ suc k + length s = omega arith in
    let q : (n * 256 + a) / 256 ≡ n = omega arith in
    let r : (n * 256 + a) % 256 ≡ a = omega arith in
    let m = n * 256 + a in
    ap (λ (j : ℕ). big_endian j (bytes_after m s)) e
    ∙ after_bytes (suc k) m s h.1
    ∙ ap₂ (λ (x y : ℕ). big_endian k x ++ y ∷ [] ++ s) q r
    ∙ append_snoc (big_endian k n) a s

-- the n bytes of a number encode it
pub uint_big_endian : (n x : ℕ) → x < 256 ^ n → uint (big_endian n x) ≡ x
unfolding uint big_endian bytes_after
uint_big_endian zero x h = omega arith
uint_big_endian (suc n) x h =
    let p : 256 ^ suc n ≡ 256 * 256 ^ n = pow-succ' 256 n in
    let e = uint_big_endian n (x / 256) (omega arith) in
    after_last 0 (x % 256) (big_endian n (x / 256)) ∙ omega arith

-- bytes are those of the number that they encode
pub big_endian_uint : (s : Bytes) → AreBytes s → big_endian (length s) (uint s) ≡ s
unfolding uint big_endian
big_endian_uint s h = let e : 0 + length s ≡ length s = omega arith in rw e at (after_bytes 0 0 s h)

-- which has no more bytes than they are
pub uint_fits : (s : Bytes) → AreBytes s → uint s < 256 ^ length s
unfolding uint
uint_fits s h = let e : 0 + length s ≡ length s = omega arith in rw e at (after_fits 0 0 s (omega arith) h)

-- ---- bytes

-- the first k bytes, where there are so many
pub bytes_front : (k : ℕ) (s : Bytes) → k ≤ length s → read_bytes k s ≡ some (take k s, drop k s)
unfolding read_bytes
bytes_front k s h = provided_true (leb k (length s)) (take k s, drop k s) (le-leb k (length s) h)

-- none where there are fewer
pub bytes_short : (k : ℕ) (s : Bytes) → length s < k → read_bytes k s ≡ none
unfolding read_bytes provided
bytes_short k s h = rw (lt-leb k (length s) h) refl

-- bytes are read, and what follows them is the rest
pub read_bytes_lem : (k : ℕ) (s t : Bytes) → length s ≡ k → read_bytes k (s ++ t) ≡ some (s, t)
read_bytes_lem k s t h =
    bytes_front k (s ++ t) (omega (arith, length-append s t)) ∙ ap₂ (λ (a b : Bytes). some (a, b)) (take_at s t k h) (drop_at s t k h)

-- bytes that are read and their rest are the string
pub bytes_read : (k : ℕ) (s a t : Bytes) → read_bytes k s ≡ some (a, t) → (s ≡ a ++ t) × (length a ≡ k)
unfolding read_bytes
bytes_read k s a t e =
    let (l, p) = provided_some (leb k (length s)) (take k s, drop k s) (a, t) e in
    let x : take k s ≡ a = ap (λ q. q.0) p in
    let y : drop k s ≡ t = ap (λ q. q.1) p in
    (sym (take-append-drop k s) ∙ ap₂ ◌++◌ x y, ap length (sym x) ∙ length-take-le k s (leb-true k (length s) l))

-- ---- numbers

-- the number of the first k bytes, where there are so many
pub uint_front : (k : ℕ) (s : Bytes) → k ≤ length s → read_uint k s ≡ some (uint (take k s), drop k s)
unfolding read_uint bind
uint_front k s h = rw (bytes_front k s h) refl

-- none where there are fewer
pub uint_short : (k : ℕ) (s : Bytes) → length s < k → read_uint k s ≡ none
unfolding read_uint bind
uint_short k s h = rw (bytes_short k s h) refl

-- a number that is written is read
pub read_uint_lem : (k x : ℕ) (t : Bytes) → x < 256 ^ k → read_uint k (big_endian k x ++ t) ≡ some (x, t)
unfolding read_uint bind
read_uint_lem k x t h = rw (read_bytes_lem k (big_endian k x) t (length_big_endian k x), uint_big_endian k x h) refl

-- a number that is read is written so
pub uint_read : (k x : ℕ) (s t : Bytes) → AreBytes s → read_uint k s ≡ some (x, t) → (s ≡ big_endian k x ++ t) × (x < 256 ^ k) × AreBytes t
unfolding read_uint
uint_read k x s t b e =
    let ((a, u), p, q) = bind_some (read_bytes k s) _ (x, t) e in
    let (w, l) = bytes_read k s a u p in
    let v : uint a ≡ x = ap (λ r. r.0) (some-injective _ _ q) in
    let z : u ≡ t = ap (λ r. r.1) (some-injective _ _ q) in
    let (ba, bu) = bytes_split a u (rw w at b) in
    (w ∙ ap₂ ◌++◌ (sym (big_endian_uint a ba) ∙ ap₂ big_endian l v) z, rw (v, l) at (uint_fits a ba), rw z at bu)

-- ---- byte strings with their length

-- a byte string that is written is read
pub read_opaque_lem : (k : ℕ) (v t : Bytes) → length v < 256 ^ k → read_opaque k (opaque k v ++ t) ≡ some (v, t)
unfolding read_opaque opaque bind
read_opaque_lem k v t h = rw (append_assoc (big_endian k (length v)) v t, read_uint_lem k (length v) (v ++ t) h) (read_bytes_lem (length v) v t refl)

-- a byte string that is read is written so
pub opaque_read : (k : ℕ) (v s t : Bytes) → AreBytes s → read_opaque k s ≡ some (v, t)
    → (s ≡ opaque k v ++ t) × (length v < 256 ^ k) × AreBytes v × AreBytes t
unfolding read_opaque opaque
opaque_read k v s t b e =
    let ((n, u), p, q) = bind_some (read_uint k s) _ (v, t) e in
    let (w, h, bu) = uint_read k n s u b p in
    let (z, l) = bytes_read n u v t q in
    let (bv, bt) = bytes_split v t (rw z at bu) in
    (w ∙ ap₂ (λ (m : ℕ) (r : Bytes). big_endian k m ++ r) (sym l) z ∙ sym (append_assoc (big_endian k (length v)) v t), rw l h, bv, bt)

-- ---- how many bytes are read

-- a number of k bytes takes k bytes
pub uint_takes : (k : ℕ) (s : Bytes) (p : ℕ × Bytes) → read_uint k s ≡ some p → length s ≡ k + length p.1
unfolding read_uint
uint_takes k s p e =
    let ((a, u), q, r) = bind_some (read_bytes k s) _ p e in
    let (w, l) = bytes_read k s a u q in
    let z : length u ≡ length p.1 = ap (λ x. length x.1) (some-injective _ _ r) in
    omega (arith, ap length w, length-append a u)

-- a byte string with its length of k bytes takes these at least
pub opaque_takes : (k : ℕ) (s : Bytes) (p : Bytes × Bytes) → read_opaque k s ≡ some p → k + length p.1 ≤ length s
unfolding read_opaque
opaque_takes k s p e =
    let (x, q, r) = bind_some (read_uint k s) _ p e in
    let (w, _) = bytes_read x.0 x.1 p.0 p.1 r in
    omega (arith, uint_takes k s x q, ap length w, length-append p.0 p.1)
