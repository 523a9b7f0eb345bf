-- Laws of what the exported functions leave in lent bytes (specs/Exports.antt).
use mathlib.Core.Path.{◌≡◌, refl, sym, ap, ap₂, ◌∙◌}
use mathlib.Core.List.{List, [], ◌∷◌, ◌++◌, append_assoc, append-nil, flat_map}
use Prim.Native.Nat.{ℕ, ◌+◌, ◌*◌, ◌≤◌, ◌<◌}
use native.Mathlib.Numerals.{add-one}
use native.Mathlib.Omega.{arith}
use borrow.Author.Tests.{le-leb, lt-leb}
use lib.ListN.{length, get_or, take, drop, length-append, length-drop}
use lib.Seq.{sets, sets-eq, take-suc, take_at, take_all, take-length, length-take-le, drop-append-add}
use lib.Seq.{drop-drop}
use Rattle.hash.specs.Bytes.{big_endian}
use Rattle.hash.proofs.BytesLaws.{length_big_endian}
use Rattle.hash.specs.Sha256.{digest_length, sha256}
use Rattle.hash.proofs.MessageLaws.{length_digest}
use Rattle.kt.specs.Exports.{sha256_answer, sha256_output, version_length, ladder_bytes, ladder_answer}
use Rattle.kt.specs.Exports.{ladder_output}
use Rattle.tree.specs.Ladder.{ladder_within}

-- ---- a digest

pub digest_refused : (m d : List ℕ) → length d < digest_length → (0 ≡ sha256_answer d) × (d ≡ sha256_output m d)
unfolding sha256_answer sha256_output
digest_refused m d h = (rw (lt-leb digest_length (length d) h), rw (lt-leb digest_length (length d) h))

-- the digest x, copied whole
pub digest_written : (m d x e : List ℕ) → digest_length ≤ length d → x ≡ sha256 m → e ≡ take (length x) x ++ drop (length x) d
    → (digest_length ≡ sha256_answer d) × (e ≡ sha256_output m d)
unfolding sha256_answer sha256_output
digest_written m d x e h hx he =
    let l : length x ≡ digest_length = ap length hx ∙ length_digest m in
    (rw (le-leb digest_length (length d) h), rw (le-leb digest_length (length d) h, he, take-length x, l, hx))

-- the digest x, copied over the first bytes
pub digest_copied : (m d x e : List ℕ) → digest_length ≤ length d → x ≡ sha256 m → e ≡ x
    → (digest_length ≡ sha256_answer d) × (e ++ drop digest_length d ≡ sha256_output m d)
unfolding sha256_answer sha256_output
digest_copied m d x e h hx he = (rw (le-leb digest_length (length d) h), rw (le-leb digest_length (length d) h, he, hx))

-- ---- a ladder

-- versions as bytes
abbrev version_bytes : List ℕ → List ℕ
version_bytes versions = flat_map (big_endian version_length) versions

-- Each version is as long as the others.
length_versions : (versions : List ℕ) → length (version_bytes versions) ≡ version_length * length versions
unfolding flat_map
length_versions [] = refl
length_versions (v ∷ vs) = omega (arith, length-append (big_endian version_length v) (version_bytes vs), length_big_endian version_length v, length_versions vs)

-- Versions one after the other are their bytes one after the other.
versions_append : (us vs : List ℕ) → version_bytes (us ++ vs) ≡ version_bytes us ++ version_bytes vs
unfolding flat_map
versions_append [] vs = refl
versions_append (u ∷ us) vs = rw (versions_append us vs) (sym (append_assoc (big_endian version_length u) (version_bytes us) (version_bytes vs)))

-- A version alone is its bytes.
version_alone : (v : ℕ) → version_bytes (v ∷ []) ≡ big_endian version_length v
unfolding flat_map
version_alone v = append-nil (big_endian version_length v)

-- the bytes d with the first i of some versions written to their front
abbrev pub written : List ℕ → List ℕ → ℕ → List ℕ
written versions d i = version_bytes (take i versions) ++ drop (version_length * i) d

-- At first nothing is written.
pub written_none : (versions d : List ℕ) → d ≡ written versions d 0
unfolding flat_map
written_none versions d = refl

-- The first i versions are i times as long as one.
length_front : (versions : List ℕ) (i : ℕ) → i ≤ length versions → length (version_bytes (take i versions)) ≡ version_length * i
length_front versions i h = omega (arith, length_versions (take i versions), length-take-le i versions h)

-- Writing leaves as many bytes as there were.
pub length_written : (versions d : List ℕ) (i : ℕ) → i ≤ length versions → version_length * i ≤ length d → length (written versions d i) ≡ length d
length_written versions d i h k =
    omega (arith, length_front versions i h, length-append (version_bytes (take i versions)) (drop (version_length * i) d), length-drop (version_length * i) d)

-- One version more is written.
pub written_next : (versions d e : List ℕ) (i : ℕ) → i < length versions → version_length * length versions ≤ length d → e ≡ written versions d i
    → sets e (version_length * i) (big_endian version_length (get_or versions i 0)) ≡ written versions d (i + 1)
written_next versions d e i h k w =
    let n : ℕ = version_length * i in
    let front : List ℕ = version_bytes (take i versions) in
    let v : List ℕ = big_endian version_length (get_or versions i 0) in
    let lf : length front ≡ n = length_front versions i (omega arith) in
    let lv : length v ≡ version_length = length_big_endian version_length (get_or versions i 0) in
    let le : length e ≡ length d = ap length w ∙ length_written versions d i (omega arith) (omega arith) in
    let before : take n e ≡ front = ap (take n) w ∙ take_at front (drop n d) n lf in
    let m : n + length v ≡ version_length * (i + 1) = omega arith in
    let behind : drop (n + length v) e ≡ drop (version_length * (i + 1)) d =
    ap (drop (n + length v)) w ∙ ap (λ (k : ℕ). drop (k + length v) (front ++ drop n d)) (sym lf) ∙ drop-append-add front (drop n d) (length v)
    ∙ drop-drop (length v) n d ∙ ap (λ (k : ℕ). drop k d) m in
    let both : version_bytes (take (i + 1) versions) ≡ front ++ v =
    rw (add-one i, take-suc versions i 0 h) (versions_append (take i versions) (get_or versions i 0 ∷ []) ∙ ap (λ (b : List ℕ). front ++ b) (version_alone (get_or versions i 0))) in
    sets-eq v e n (omega arith) ∙ ap₂ (λ (a b : List ℕ). a ++ v ++ b) before behind ∙ ap (λ (a : List ℕ). a ++ drop (version_length * (i + 1)) d) (sym both)

-- With too little room nothing is written.
pub ladder_refused : (t count : ℕ) (d : List ℕ) → count ≡ length (ladder_within t) → length d < version_length * count → (0 ≡ ladder_answer t d) × (d ≡ ladder_output t d)
unfolding ladder_answer ladder_output ladder_bytes
ladder_refused t count d e h =
    let r = lt-leb (length (version_bytes (ladder_within t))) (length d) (omega (arith, length_versions (ladder_within t))) in
    (rw r, rw r)

-- Else all versions are.
pub ladder_written : (t count : ℕ) (d : List ℕ) → count ≡ length (ladder_within t) → version_length * count ≤ length d
    → (count ≡ ladder_answer t d) × (written (ladder_within t) d count ≡ ladder_output t d)
unfolding ladder_answer ladder_output ladder_bytes
ladder_written t count d e h =
    let l = length_versions (ladder_within t) in
    let r = le-leb (length (version_bytes (ladder_within t))) (length d) (omega arith) in
    let z : version_length * count ≡ length (version_bytes (ladder_within t)) = omega arith in
    (rw r e, rw (r, take_all count (ladder_within t) (omega arith), z))
