-- Laws of a message that comes in parts (specs/Hasher.antt): what a Hasher is does not depend on
-- how the message was cut, and its digest is the message's.
use Rattle.std.proofs.Common.{◌≡◌, ℕ, ◌+◌, ◌-◌, ◌*◌, ◌/◌, ◌%◌, ◌^◌, ◌<◌, ◌≤◌, List, [], ◌++◌, length, take, drop, sym, refl, ap, ◌∙◌, append_assoc, append-nil, zero-add, arith, length-append, length-drop, take-append-drop, length-take-le, drop-drop, take_at, drop_at}
use lib.Seq.{drop-append-le}
use Rattle.hash.specs.declared.block.HashValue.{HashValue}
use Rattle.hash.specs.declared.hasher.Hasher.{Hasher}
use Rattle.hash.specs.Bytes.{padded}
use Rattle.hash.specs.Block.{compressed}
use Rattle.hash.specs.Sha256.{initial, blocks, finished, sha256}
use Rattle.hash.specs.Hasher.{pending, started, taken, updated, closed}
use Rattle.hash.proofs.BytesLaws.{padded_nil, padded_full, take_padded}
use Rattle.hash.proofs.MessageLaws.{blocks_zero, blocks_more, blocks_add, blocks_front, finished_split, finished_count}

-- whole blocks may be taken first
taken_split : (n : ℕ) (v : HashValue) (s : List ℕ) (l : ℕ) → 64 * n ≤ length s → taken v s l ≡ taken (blocks n v s) (drop (64 * n) s) l
unfolding taken
taken_split n v s l h =
    let e : length s / 64 ≡ n + length (drop (64 * n) s) / 64 = omega (arith, length-drop (64 * n) s) in
    let f : 64 * (n + length (drop (64 * n) s) / 64) ≡ 64 * n + 64 * (length (drop (64 * n) s) / 64) = omega arith in
    rw (e, blocks_add n (length (drop (64 * n) s) / 64) v s, f, ← drop-drop (64 * (length (drop (64 * n) s) / 64)) (64 * n) s)

-- only the count's value modulo 2 ^ 64 is kept
taken_count : (v : HashValue) (s : List ℕ) (l k : ℕ) → l % 2 ^ 64 ≡ k % 2 ^ 64 → taken v s l ≡ taken v s k
unfolding taken
taken_count v s l k h = rw h

-- the bytes after the whole blocks are pending, where the count goes with them
pending_taken : (v : HashValue) (s : List ℕ) (l : ℕ) → l % 64 ≡ length s % 64 → pending (taken v s l) ≡ drop (64 * (length s / 64)) s
unfolding pending taken
pending_taken v s l h =
    let e : length (drop (64 * (length s / 64)) s) ≡ l % 2 ^ 64 % 64 = length-drop (64 * (length s / 64)) s ∙ omega arith in
    take_padded 64 (l % 2 ^ 64 % 64) (drop (64 * (length s / 64)) s) e

updated_of_taken : (v : HashValue) (s t : List ℕ) (l : ℕ)
    → updated (taken v s l) t ≡ taken (blocks (length s / 64) v s) (pending (taken v s l) ++ t) (l % 2 ^ 64 + length t)
unfolding updated taken
updated_of_taken v s t l = refl

updated_taken : (v : HashValue) (s t : List ℕ) (l : ℕ) → l % 64 ≡ length s % 64 → updated (taken v s l) t ≡ taken v (s ++ t) (l + length t)
updated_taken v s t l h =
    let q : ℕ = length s / 64 in
    let a : taken v (s ++ t) (l + length t) ≡ taken (blocks q v (s ++ t)) (drop (64 * q) (s ++ t)) (l + length t) =
    taken_split q v (s ++ t) (l + length t) (omega (arith, length-append s t)) in
    let b : blocks q v (s ++ t) ≡ blocks q v s = blocks_front q v s t (omega arith) in
    let d : drop (64 * q) (s ++ t) ≡ drop (64 * q) s ++ t = drop-append-le (64 * q) s t (omega arith) in
    let e : taken (blocks q v s) (drop (64 * q) s ++ t) (l % 2 ^ 64 + length t) ≡ taken (blocks q v s) (drop (64 * q) s ++ t) (l + length t) =
    taken_count (blocks q v s) (drop (64 * q) s ++ t) (l % 2 ^ 64 + length t) (l + length t) (omega arith) in
    updated_of_taken v s t l ∙ rw (pending_taken v s l h) (e ∙ rw (← b, ← d) (sym a))

started_taken : started ≡ taken initial [] 0
unfolding started taken
started_taken = rw (blocks_zero initial [], ← padded_nil 64)

started_updated : (m : List ℕ) → updated started m ≡ taken initial m (length m)
started_updated m = rw started_taken (updated_taken initial [] m 0 refl ∙ rw zero-add)

-- ---- what callers use

-- two parts are one
pub updated_append : (a b : List ℕ) → updated (updated started a) b ≡ updated started (a ++ b)
updated_append a b = rw (started_updated a, started_updated (a ++ b), length-append a b) (updated_taken initial a b (length a) refl)

-- the digest of what has come is that of the message
closed_taken : (v : HashValue) (s : List ℕ) (l : ℕ)
    → closed (taken v s l) ≡ finished (blocks (length s / 64) v s) (l % 2 ^ 64) (pending (taken v s l))
unfolding closed taken
closed_taken v s l = refl

pub closed_updated : (m : List ℕ) → closed (updated started m) ≡ sha256 m
unfolding sha256
closed_updated m =
    rw (
      started_updated m,
      closed_taken initial m (length m),
      pending_taken initial m (length m) refl,
      finished_count (blocks (length m / 64) initial m) (length m) (drop (64 * (length m / 64)) m),
    )
    (sym (finished_split (length m / 64) initial (length m) m (omega arith)))

-- ---- the two ways of `update`

-- a part that does not fill the block
pub updated_short : (h : Hasher) (part c : List ℕ) (count : ℕ) → length h.block ≡ 64 → length part < 64 - h.count % 64
    → c ≡ padded 64 (take (h.count % 64) h.block ++ (part ++ [])) → count ≡ (h.count + length part) % 2 ^ 64
    → ◌≡◌ {A = Hasher} (record { value = h.value; block = c; count = count }) (updated h part)
unfolding updated taken pending
updated_short h part c count hl hp hc hn =
    let old : List ℕ = take (h.count % 64) h.block in
    let lo : length old ≡ h.count % 64 = length-take-le (h.count % 64) h.block (omega arith) in
    let z : length (old ++ part) / 64 ≡ 0 = omega (arith, length-append old part) in
    let s : c ≡ padded 64 (old ++ part) = rw (append-nil part) at hc in
    rw (z, blocks_zero h.value (old ++ part), ← s, ← hn)

blocks_one : (v : HashValue) (s : List ℕ) → blocks 1 v s ≡ compressed v (take 64 s)
blocks_one v s = blocks_more 0 v s ∙ rw (blocks_zero v s)

-- a part that fills the block, and what is left of it
pub updated_long : (h : Hasher) (part first rest c : List ℕ) (v : HashValue) (count : ℕ) → length h.block ≡ 64 → 64 - h.count % 64 ≤ length part
    → first ≡ take (64 - h.count % 64) part → rest ≡ drop (64 - h.count % 64) part → c ≡ padded 64 (take (h.count % 64) h.block ++ (first ++ []))
    → v ≡ compressed h.value c → count ≡ (h.count + length part) % 2 ^ 64 → taken v rest count ≡ updated h part
unfolding updated pending
updated_long h part first rest c v count hl hp hf hr hc hv hn =
    let old : List ℕ = take (h.count % 64) h.block in
    let lo : length old ≡ h.count % 64 = length-take-le (h.count % 64) h.block (omega arith) in
    let lf : length first ≡ 64 - h.count % 64 = ap length hf ∙ length-take-le (64 - h.count % 64) part hp in
    let l64 : length (old ++ first) ≡ 64 = length-append old first ∙ omega arith in
    let s : c ≡ old ++ first = rw (append-nil first) at hc ∙ padded_full 64 (old ++ first) l64 in
    let p : old ++ part ≡ (old ++ first) ++ rest = rw (append_assoc old first rest, hf, hr, take-append-drop (64 - h.count % 64) part) in
    let one : blocks 1 h.value (old ++ part) ≡ v = rw (p, blocks_one h.value ((old ++ first) ++ rest), take_at (old ++ first) rest 64 l64, hv, s) in
    let left : drop 64 (old ++ part) ≡ rest = rw p (drop_at (old ++ first) rest 64 l64) in
    let e = taken_split 1 h.value (old ++ part) (h.count + length part) (omega (arith, length-append old part)) in
    taken_count v rest count (h.count + length part) (omega arith) ∙ sym (e ∙ rw (one, left))

-- what is left after the whole blocks is kept, with zeros after it
pub taken_law : (v x : HashValue) (s rest c : List ℕ) (count : ℕ) → x ≡ blocks (length s / 64) v s → rest ≡ drop (64 * (length s / 64)) s
    → c ≡ padded 64 (rest ++ []) → count < 2 ^ 64 → ◌≡◌ {A = Hasher} (record { value = x; block = c; count = count }) (taken v s count)
unfolding taken
taken_law v x s rest c count hx hr hc hn =
    let e : c ≡ padded 64 rest = rw (append-nil rest) at hc in
    let m : count % 2 ^ 64 ≡ count = omega arith in
    rw (← hx, ← hr, ← e, m)
