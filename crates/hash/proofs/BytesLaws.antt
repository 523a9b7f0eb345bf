-- Laws of numbers as bytes and of lists filled up with zeros (specs/Bytes.antt). A buffer that
-- starts all zero and is filled from its front is a `padded` list at each step.
use Rattle.std.proofs.Common.{◌≡◌, ℕ, zero, suc, ◌+◌, ◌-◌, ◌*◌, ◌/◌, ◌%◌, ◌<◌, ◌≤◌, List, [], ◌∷◌, ◌++◌, map, length, get_or, take, drop, set, replicate, sym, refl, ap, ◌∙◌, append_assoc, append-nil, le_of_eq, arith, length-append, length-drop, length-take, length-take-le, take_all, take_at, drop_at, Bor, add-one, take-suc, ◌^◌}
use Rattle.std.specs.Simd.{first_chunks}
use Rattle.std.proofs.lemmas.List.{get_or-take, get_or-drop}
use lib.ListN.{length-replicate, length-map, replicate-append-replicate}
use lib.Seq.{paste, drop-append-add, set_at, take-length}
use Rattle.std.proofs.lemmas.Slice.{put_mid-paste}
use Rattle.std.proofs.lemmas.List.Concat.{flat_map-append}
use Rattle.std.proofs.lemmas.List.Folds.{length-flat_map-take}
use borrow.Rule.Slice.PartMut.{put_mid}
use Rattle.std.proofs.Math.Nat.{div-div-eq-div-mul, pow-succ'}
use Rattle.std.specs.Int.{byte_at as byte_from_end, bytes_high_first}
use Rattle.hash.specs.Bytes.{AreBytes, big_endian, joined, padded}

-- ---- bytes

pub bytes_append : (s t : List ℕ) → AreBytes s → AreBytes t → AreBytes (s ++ t)
bytes_append [] t hs ht = ht
bytes_append (x ∷ s) t hs ht = (hs.0, bytes_append s t hs.1 ht)

pub byte_at : (s : List ℕ) (i : ℕ) → AreBytes s → get_or s i 0 < 256
byte_at [] i h = omega arith
byte_at (x ∷ s) zero h = h.0
byte_at (x ∷ s) (suc i) h = byte_at s i h.1

-- zeros are bytes
pub bytes_zeros : (n : ℕ) → AreBytes (replicate n 0)
bytes_zeros zero = tt
bytes_zeros (suc n) = (omega arith, bytes_zeros n)

-- so is the front of bytes
pub bytes_take : (k : ℕ) (s : List ℕ) → AreBytes s → AreBytes (take k s)
bytes_take zero s h = tt
bytes_take (suc k) [] h = tt
bytes_take (suc k) (b ∷ s) h = (h.0, bytes_take k s h.1)

-- and what follows it
pub bytes_drop : (k : ℕ) (s : List ℕ) → AreBytes s → AreBytes (drop k s)
bytes_drop zero s h = h
bytes_drop (suc k) [] h = tt
bytes_drop (suc k) (b ∷ s) h = bytes_drop k s h.1

-- ---- numbers

pub bytes_big_endian : (n x : ℕ) → AreBytes (big_endian n x)
unfolding big_endian
bytes_big_endian zero x = tt
bytes_big_endian (suc n) x = bytes_append (big_endian n (x / 256)) (x % 256 ∷ []) (bytes_big_endian n (x / 256)) (omega arith, tt)

pub length_big_endian : (n x : ℕ) → length (big_endian n x) ≡ n
unfolding big_endian
length_big_endian zero x = refl
length_big_endian (suc n) x = let e = length_big_endian n (x / 256) in simp length-append (omega arith)

-- std's bytes of a number are these
byte_higher : (k x : ℕ) → byte_from_end (suc k) x ≡ byte_from_end k (x / 256)
byte_higher zero x = refl
byte_higher (suc k) x = rw (pow-succ' 256 (suc k), ← div-div-eq-div-mul x 256 (256 ^ suc k))

be_bytes_last : (k x : ℕ) → bytes_high_first (suc k) x ≡ bytes_high_first k (x / 256) ++ x % 256 ∷ []
be_bytes_last zero x = refl
be_bytes_last (suc k) x = rw (byte_higher k x, be_bytes_last k x)

pub be_bytes : (n x : ℕ) → bytes_high_first n x ≡ big_endian n x
unfolding big_endian
be_bytes zero x = refl
be_bytes (suc n) x = be_bytes_last n x ∙ rw (be_bytes n (x / 256))

-- ---- buffers

pub length_padded : (n : ℕ) (s : List ℕ) → length s ≤ n → length (padded n s) ≡ n
unfolding padded
length_padded n s h = simp (length-append, length-replicate) (omega arith)

pub padded_nil : (n : ℕ) → ◌≡◌ {A = List ℕ} (replicate n 0) (padded n [])
unfolding padded
padded_nil n = let z : n - 0 ≡ n = omega arith in rw z

pub padded_full : (n : ℕ) (s : List ℕ) → length s ≡ n → padded n s ≡ s
unfolding padded
padded_full n s h = let z : n - length s ≡ 0 = omega arith in rw z (append-nil s)

pub take_padded : (n k : ℕ) (s : List ℕ) → length s ≡ k → take k (padded n s) ≡ s
unfolding padded
take_padded n k s h = take_at s (replicate (n - length s) 0) k h

-- the list at the front of an array that was filled with it
pub filled_front : (n count : ℕ) (vs ws : List ℕ) → (vs ≡ padded n ws) × (count ≡ length ws)
    → (take count vs ≡ ws) × (count ≤ length vs) × (count ≡ length (take count vs))
filled_front n count vs ws (e, f) =
    let k : take count vs ≡ ws = ap (take count) e ∙ take_padded n count ws (sym f) in
    (k, omega (arith, f, ap length k, length-take count vs), f ∙ ap length (sym k))

-- zeros after the list are there already
pub padded_zeros : (n z : ℕ) (s : List ℕ) → length s + z ≤ n → padded n s ≡ padded n (s ++ replicate z 0)
unfolding padded
padded_zeros n z s h =
    let e : n - length s ≡ z + (n - length (s ++ replicate z 0)) = omega (arith, length-append {A = ℕ} s (replicate z 0), length-replicate {A = ℕ} z 0) in
    rw (e, ← replicate-append-replicate {A = ℕ} z (n - length (s ++ replicate z 0)) 0) (sym (append_assoc s (replicate z 0) (replicate (n - length (s ++ replicate z 0)) 0)))

-- a byte stored right after the list
pub padded_set : (n at x : ℕ) (s d : List ℕ) → d ≡ padded n s → length s ≡ at → at < n → set d at x ≡ padded n (s ++ x ∷ [])
unfolding padded
padded_set n at x s d hd hs h =
    let e : n - length s ≡ suc (n - length (s ++ x ∷ [])) = omega (arith, length-append s (x ∷ [])) in
    rw (hd, e, set_at s 0 (replicate (n - length (s ++ x ∷ [])) 0) x at hs) (sym (append_assoc s (x ∷ []) (replicate (n - length (s ++ x ∷ [])) 0)))

-- bytes copied right after the list
pub padded_paste : (n at : ℕ) (s t d e : List ℕ) → d ≡ padded n s → length s ≡ at → at + length t ≤ n → e ≡ paste d at t (length t) → e ≡ padded n (s ++ t)
unfolding padded
padded_paste n at s t d e hd hs h he =
    let z : n - length s ≡ length t + (n - length (s ++ t)) = omega (arith, length-append s t) in
    let r : List ℕ = replicate (n - length (s ++ t)) 0 in
    let d' : d ≡ s ++ (replicate (length t) 0 ++ r) = rw (hd, z, replicate-append-replicate {A = ℕ} (length t) (n - length (s ++ t)) 0) in
    let f : drop (at + length t) (s ++ (replicate (length t) 0 ++ r)) ≡ r =
    rw (← hs, drop-append-add s (replicate (length t) 0 ++ r) (length t)) (drop_at (replicate (length t) 0) r (length t) (length-replicate (length t) 0)) in
    rw (he, d', take_at s (replicate (length t) 0 ++ r) at hs, f, take-length t)

-- the same as the library's copy leaves it: `end` is where the copy ends
pub padded_copy : (n at end : ℕ) (s t d : List ℕ) → d ≡ padded n s → length s ≡ at → end ≡ at + length t → end ≤ n
    → put_mid at (end - at) d t ≡ padded n (s ++ t)
padded_copy n at end s t d hd hs he h =
    put_mid-paste at (end - at) d t t (length t) refl (omega arith) refl
    ∙ padded_paste n at s t d (paste d at t (length t)) hd hs (omega arith) refl

-- a struct's array field has the length that its type says
pub field_length : (b : List ℕ) (n : ℕ) → length (map (λ x. x) b) ≡ n → length b ≡ n
field_length b n e = sym (length-map b (λ (x : ℕ). x)) ∙ e

-- ---- parts copied one after the other

joined_more : (ps : List (Bor (List ℕ))) (i : ℕ) (d : Bor (List ℕ)) → i < length ps → joined (take (i + 1) ps) ≡ joined (take i ps) ++ (get_or ps i d).now
joined_more ps i d h =
    rw (add-one i, take-suc ps i d h, flat_map-append (λ (p : Bor (List ℕ)). p.now) (take i ps) (get_or ps i d ∷ []), append-nil ((get_or ps i d).now))

-- a part finds room after the parts before it
pub part_room : (ps : List (Bor (List ℕ))) (n i : ℕ) (d : Bor (List ℕ)) → i < length ps → length (joined ps) ≤ n
    → length (joined (take i ps)) + length (get_or ps i d).now ≤ n
part_room ps n i d h k = omega (arith, length-flat_map-take (λ (p : Bor (List ℕ)). p.now) ps i d h)

-- and stands after them
pub padded_part : (ps : List (Bor (List ℕ))) (n i at end : ℕ) (d : Bor (List ℕ)) (b c : List ℕ) → i < length ps → length (joined ps) ≤ n
    → at ≡ length (joined (take i ps)) → b ≡ padded n (joined (take i ps)) → c ≡ (get_or ps i d).now → end ≡ at + length c
    → (end ≡ length (joined (take (i + 1) ps))) × (put_mid at (end - at) b c ≡ padded n (joined (take (i + 1) ps)))
padded_part ps n i at end d b c h k ha hb hc he =
    let room = part_room ps n i d h k in
    let more : joined (take (i + 1) ps) ≡ joined (take i ps) ++ c = joined_more ps i d h ∙ rw (← hc) in
    let lc : length c ≡ length (get_or ps i d).now = ap length hc in (
      he ∙ rw (more, length-append (joined (take i ps)) c, ha),
      padded_copy n at end (joined (take i ps)) c b hb (sym ha) he (omega arith) ∙ rw (← more),
    )

-- ---- parts of a slice, as the code lends them

pub part_count : (n : ℕ) (s : List ℕ) → n ≤ length s → n ≡ length (take n s)
part_count n s h = sym (length-take-le n s h)

pub tail_part : (n : ℕ) (s : List ℕ) → take (length s - n) (drop n s) ≡ drop n s
tail_part n s = take_all (length s - n) (drop n s) (le_of_eq (length-drop n s))

-- ---- chunks

-- a byte of a chunk, by where it stands in the list that is cut
pub chunk_byte : (n k : ℕ) (s : List ℕ) (i j : ℕ) (d : List ℕ) → i < k → j < n
    → get_or (get_or (first_chunks n k s) i d) j 0 ≡ get_or s (n * i + j) 0
chunk_byte n zero s i j d h q = absurd (omega arith)
chunk_byte n (suc k) s zero j d h q = let e : n * 0 + j ≡ j = omega arith in get_or-take n s j 0 q ∙ rw e refl
chunk_byte n (suc k) s (suc i) j d h q =
    let e : n + (n * i + j) ≡ n * suc i + j = omega arith in
    chunk_byte n k (drop n s) i j d (omega arith) q ∙ get_or-drop n s (n * i + j) 0 ∙ rw e refl
