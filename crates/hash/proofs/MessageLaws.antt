-- Laws of a message (specs/Sha256.antt): its blocks, its end, and its digest's length and bytes.
use Rattle.std.proofs.Common.{◌≡◌, ℕ, zero, suc, ◌+◌, ◌-◌, ◌*◌, ◌/◌, ◌%◌, ◌^◌, ◌≤◌, List, [], ◌∷◌, ◌++◌, length, take, drop, replicate, sym, refl, ap, ◌∙◌, append_assoc, add-zero, add-suc, add-one, arith, length-append, length-drop, drop-drop}
use lib.ListN.{length-replicate}
use Rattle.std.specs.Prelude.{fold}
use Rattle.std.specs.Simd.{first_chunks}
use borrow.Rule.Slice.PartMut.{put_mid}
use lib.Seq.{take-append-le, drop-append-le}
use Rattle.hash.specs.declared.block.HashValue.{HashValue}
use Rattle.hash.specs.Bytes.{AreBytes, big_endian, padded}
use Rattle.hash.specs.Block.{compressed}
use Rattle.hash.specs.Sha256.{padding, blocks, initial, digest_of, finished, sha256}
use Rattle.hash.proofs.BytesLaws.{bytes_append, bytes_big_endian, length_big_endian, length_padded, padded_copy, padded_zeros}

-- ---- the blocks

pub blocks_zero : (v : HashValue) (s : List ℕ) → blocks 0 v s ≡ v
unfolding blocks
blocks_zero v s = refl

pub blocks_more : (n : ℕ) (v : HashValue) (s : List ℕ) → blocks (n + 1) v s ≡ compressed (blocks n v s) (take 64 (drop (64 * n) s))
unfolding blocks
blocks_more n v s = rw add-one

-- the blocks n and on, from the value after the first n
pub blocks_add : (n k : ℕ) (v : HashValue) (s : List ℕ) → blocks (n + k) v s ≡ blocks k (blocks n v s) (drop (64 * n) s)
unfolding blocks
blocks_add n zero v s = rw add-zero
blocks_add n (suc k) v s =
    let e : 64 * n + 64 * k ≡ 64 * (n + k) = omega arith in
    rw (add-suc, blocks_add n k v s, drop-drop (64 * k) (64 * n) s, e)

-- the value after the blocks that a list is cut into
fold_blocks : (n : ℕ) (v : HashValue) (s : List ℕ) → fold compressed v (first_chunks 64 n s) ≡ blocks n v s
unfolding blocks
fold_blocks zero v s = refl
fold_blocks (suc n) v s =
    let e : 1 + n ≡ suc n = omega arith in
    fold_blocks n (compressed v (take 64 s)) (drop 64 s) ∙ sym (blocks_add 1 n v s) ∙ rw e

-- the same, as the code cuts a message into its whole blocks and the bytes after them
pub whole_law : (s : List ℕ) (v i x : HashValue) (bs : List (List ℕ)) → bs ≡ first_chunks 64 (length s / 64) s → v ≡ i → x ≡ fold compressed v bs
    → x ≡ blocks (length s / 64) i s
whole_law s v i x bs hb hv hx = hx ∙ rw (hb, hv) (fold_blocks (length s / 64) i s)

pub rest_law : (s rest : List ℕ) → rest ≡ drop (length s / 64 * 64) s → rest ≡ drop (64 * (length s / 64)) s
rest_law s rest h = let e : length s / 64 * 64 ≡ 64 * (length s / 64) = omega arith in h ∙ rw e

-- the first blocks of those that a list is cut into
take_chunks : (k n : ℕ) (s : List ℕ) → k ≤ n → take k (first_chunks 64 n s) ≡ first_chunks 64 k s
take_chunks zero n s h = refl
take_chunks (suc k) zero s h = absurd (omega arith)
take_chunks (suc k) (suc n) s h = rw (take_chunks k n (drop 64 s) (omega arith))

-- what follows the first n blocks changes nothing
pub blocks_front : (n : ℕ) (v : HashValue) (s t : List ℕ) → 64 * n ≤ length s → blocks n v (s ++ t) ≡ blocks n v s
unfolding blocks
blocks_front zero v s t h = refl
blocks_front (suc n) v s t h =
    let l : 64 ≤ length (drop (64 * n) s) = simp length-drop (omega arith) in
    rw (blocks_front n v s t (omega arith), drop-append-le (64 * n) s t (omega arith), take-append-le 64 (drop (64 * n) s) t l)

-- a message's whole blocks may be hashed first
pub finished_split : (n : ℕ) (v : HashValue) (l : ℕ) (s : List ℕ) → 64 * n ≤ length s → finished v l s ≡ finished (blocks n v s) l (drop (64 * n) s)
unfolding finished
finished_split n v l s h =
    let e : length (s ++ padding l) / 64 ≡ n + length (drop (64 * n) s ++ padding l) / 64 =
    omega (arith, length-append s (padding l), length-append (drop (64 * n) s) (padding l), length-drop (64 * n) s) in
    rw (
      e,
      blocks_add n (length (drop (64 * n) s ++ padding l) / 64) v (s ++ padding l),
      blocks_front n v s (padding l) h,
      drop-append-le (64 * n) s (padding l) h,
    )

-- ---- the end of a message

pub length_padding : (l : ℕ) → length (padding l) ≡ 9 + (119 - l % 64) % 64
unfolding padding
length_padding l = let e = length_big_endian 8 (l * 2 ^ 3 % 2 ^ 64) in simp (length-append {A = ℕ}, length-replicate {A = ℕ}) (omega arith)

-- a message and its padding are whole blocks (5.1.1)
pub whole_blocks : (m : List ℕ) → length (m ++ padding (length m)) % 64 ≡ 0
whole_blocks m = omega (arith, length-append m (padding (length m)), length_padding (length m))

-- The bytes `rest`, a byte 128 and, from a place on, the count of bits, put one after the other
-- into 128 zeros, are `rest` and its padding, where the place is right after the padding's zeros.
pub ending_law : (rest b bits : List ℕ) (l at end : ℕ) → length rest + 1 + (119 - l % 64) % 64 ≡ at → end ≡ at + 8 → end ≤ 128
    → b ≡ padded 128 (rest ++ 128 ∷ []) → bits ≡ big_endian 8 (l * 2 ^ 3 % 2 ^ 64) → put_mid at (end - at) b bits ≡ padded 128 (rest ++ padding l)
unfolding padding
ending_law rest b bits l at end ha he h hb hbits =
    let z : ℕ = (119 - l % 64) % 64 in
    let h8 : length bits ≡ 8 = ap length hbits ∙ length_big_endian 8 (l * 2 ^ 3 % 2 ^ 64) in
    let lr : length (rest ++ 128 ∷ []) ≡ length rest + 1 = length-append rest (128 ∷ []) in
    let zeros : b ≡ padded 128 (rest ++ 128 ∷ [] ++ replicate z 0) = hb ∙ padded_zeros 128 z (rest ++ 128 ∷ []) (omega arith) in
    let lz : length (rest ++ 128 ∷ [] ++ replicate z 0) ≡ at = simp (length-append, length-replicate) (omega arith) in
    padded_copy 128 at end (rest ++ 128 ∷ [] ++ replicate z 0) bits b zeros lz (omega arith) h
    ∙ ap (padded 128) (rw (← hbits, append_assoc rest (128 ∷ []) (replicate z 0), append_assoc rest (128 ∷ replicate z 0) bits))

blocks_padded : (k n : ℕ) (v : HashValue) (s : List ℕ) → 64 * k ≤ length s → blocks k v (padded n s) ≡ blocks k v s
unfolding padded
blocks_padded k n v s h = blocks_front k v s (replicate (n - length s) 0) h

-- the last blocks are the first k of those that the buffer is cut into that `ending` fills
pub ending_blocks : (v x : HashValue) (l k : ℕ) (rest e d : List ℕ) (cs bs : List (List ℕ)) → length rest + (9 + (119 - l % 64) % 64) ≡ 64 * k → k ≤ 2
    → e ≡ padded 128 (rest ++ padding l) → cs ≡ first_chunks 64 (length e / 64) e → bs ≡ take k cs → x ≡ fold compressed v bs → d ≡ digest_of x → d ≡ finished v l rest
unfolding finished
ending_blocks v x l k rest e d cs bs hk h2 he hc hb hx hd =
    let s : List ℕ = rest ++ padding l in
    let n : length s ≡ 64 * k = omega (arith, length-append rest (padding l), length_padding l) in
    let q : length s / 64 ≡ k = omega arith in
    let le : length e / 64 ≡ 2 = omega (arith, ap length he, length_padded 128 s (omega arith)) in
    let b : bs ≡ first_chunks 64 k e = hb ∙ ap (take k) (hc ∙ rw le) ∙ take_chunks k 2 e h2 in
    let f : blocks k v (padded 128 s) ≡ blocks k v s = blocks_padded k 128 v s (omega arith) in
    hd ∙ ap digest_of (hx ∙ rw (b, fold_blocks k v e, he, f, q))

-- a message's whole blocks, and then the bytes after them
pub digest_law : (m rest : List ℕ) (v : HashValue) (d : List ℕ) → v ≡ blocks (length m / 64) initial m
    → rest ≡ drop (64 * (length m / 64)) m → d ≡ finished v (length m) rest → d ≡ sha256 m
unfolding sha256
digest_law m rest v d hv hr hd = rw (hd, hv, hr) (sym (finished_split (length m / 64) initial (length m) m (omega arith)))

-- the count of a message's bytes matters modulo 2 ^ 64 only
pub padding_count : (l : ℕ) → padding (l % 2 ^ 64) ≡ padding l
unfolding padding
padding_count l =
    let a : l % 2 ^ 64 % 64 ≡ l % 64 = omega arith in
    let b : l % 2 ^ 64 * 2 ^ 3 % 2 ^ 64 ≡ l * 2 ^ 3 % 2 ^ 64 = omega arith in
    rw (a, b)

pub finished_count : (v : HashValue) (l : ℕ) (s : List ℕ) → finished v (l % 2 ^ 64) s ≡ finished v l s
unfolding finished
finished_count v l s = rw (padding_count l)

-- ---- the digest

length_digest_of : (v : HashValue) → length (digest_of v) ≡ 32
unfolding digest_of big_endian
length_digest_of v = refl

bytes_digest_of : (v : HashValue) → AreBytes (digest_of v)
unfolding digest_of
bytes_digest_of v =
    let more : (s : List ℕ) (x : ℕ) → AreBytes s → AreBytes (s ++ big_endian 4 x) = λ s x h. bytes_append s (big_endian 4 x) h (bytes_big_endian 4 x) in
    let a : List ℕ = big_endian 4 v.a in
    let b : List ℕ = a ++ big_endian 4 v.b in
    let c : List ℕ = b ++ big_endian 4 v.c in
    let d : List ℕ = c ++ big_endian 4 v.d in
    let e : List ℕ = d ++ big_endian 4 v.e in
    let f : List ℕ = e ++ big_endian 4 v.f in
    let g : List ℕ = f ++ big_endian 4 v.g in
    let ha = bytes_big_endian 4 v.a in
    let hb = more a v.b ha in
    let hc = more b v.c hb in
    let hd = more c v.d hc in
    let he = more d v.e hd in
    let hf = more e v.f he in
    let hg = more f v.g hf in
    more g v.h hg

pub length_digest : (m : List ℕ) → length (sha256 m) ≡ 32
unfolding sha256 finished
length_digest m = length_digest_of _

pub bytes_digest : (m : List ℕ) → AreBytes (sha256 m)
unfolding sha256 finished
bytes_digest m = bytes_digest_of _
