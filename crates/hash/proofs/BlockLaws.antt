-- Laws of one block (specs/Block.antt): the words of a block, the schedule by sixteen words, and
-- the rounds by sixteen.
use Rattle.std.proofs.Common.{◌≡◌, ℕ, zero, suc, ◌+◌, ◌-◌, ◌*◌, ◌/◌, ◌%◌, ◌<◌, ◌≤◌, List, [], ◌∷◌, ◌++◌, length, get_or, take, drop, set, sym, refl, ap, ◌∙◌, append_assoc, append-nil, add-zero, add-suc, add-one, arith, length-append, length-drop, take-append-drop, drop_of_length-le, get_or-drop, take_all, drop-cons, take-suc, get_or-take, get_or-append-add, ◌^◌}
use native.Mathlib.Decide.{dec_lt}
use Rattle.std.specs.Simd.{first_chunks}
use Rattle.hash.proofs.BytesLaws.{chunk_byte}
use Rattle.std.proofs.lemmas.List.{get_or-set_same, get_or-set_other}
use lib.ListN.{get_or-append}
use lib.Seq.{set_at, drop-append-le, take-append-le}
use Rattle.hash.specs.declared.block.HashValue.{HashValue}
use Rattle.hash.specs.Words.{word, constants}
use Rattle.hash.specs.Block.{words, mixed, next, extended, schedule, round, rounds, added, compressed}

-- ---- the words of a block

-- the first words of a list that has each word of a block in its place
pub words_of : (n : ℕ) (w b : List ℕ) → n ≤ length w → ((t : ℕ) → t < n → get_or w t 0 ≡ word b (4 * t)) → take n w ≡ words n b
unfolding words
words_of zero w b h at = refl
words_of (suc n) w b h at = rw (take-suc w n 0 (omega arith), words_of n w b (omega arith) (λ t k. at t (omega arith)), at n (omega arith))

-- the word in a chunk of four bytes
pub word_chunk : (b : List ℕ) (cs : List (List ℕ)) (t : ℕ) (d : List ℕ) → cs ≡ first_chunks 4 (length b / 4) b → t < length b / 4
    → ((get_or (get_or cs t d) 0 0 * 256 + get_or (get_or cs t d) 1 0) * 256 + get_or (get_or cs t d) 2 0) * 256 + get_or (get_or cs t d) 3 0 ≡ word b (4 * t)
word_chunk b cs t d e h =
    let k = length b / 4 in
    let z : 4 * t + 0 ≡ 4 * t = omega arith in
    let at = λ (j : ℕ) (q : j < 4). chunk_byte 4 k b t j d h q in
    rw (e, at 0 (omega arith), at 1 (omega arith), at 2 (omega arith), at 3 (omega arith), z) refl

-- one word more in its place
pub words_more : (w b : List ℕ) (t r : ℕ) → t < length w → ((k : ℕ) → k < t → get_or w k 0 ≡ word b (4 * k)) → r ≡ word b (4 * t)
    → (k : ℕ) → k < t + 1 → get_or (set w t r) k 0 ≡ word b (4 * k)
words_more w b t r h at e k q = go (dec_lt k t)
  where
    go : Dec (k < t) → get_or (set w t r) k 0 ≡ word b (4 * k)
    go (yes l) = get_or-set_other w t k r 0 (λ p. absurd (omega (arith, p, l))) ∙ at k l
    go (no n) = let p : k ≡ t = omega (arith, n) in rw p (get_or-set_same w t r 0 h ∙ e)

-- ---- sums modulo 2 ^ 32, made two at a time

pub sum_4 : (a b c d : ℕ) → (((a + b) % 2 ^ 32 + c) % 2 ^ 32 + d) % 2 ^ 32 ≡ (a + b + c + d) % 2 ^ 32
sum_4 a b c d = omega arith

pub sum_5 : (a b c d e : ℕ) → ((((a + b) % 2 ^ 32 + c) % 2 ^ 32 + d) % 2 ^ 32 + e) % 2 ^ 32 ≡ (a + b + c + d + e) % 2 ^ 32
sum_5 a b c d e = omega arith

-- ---- the schedule, sixteen words at a time

-- the next word depends on the last sixteen only
next_tail : (p q : List ℕ) → 16 ≤ length q → next (p ++ q) ≡ next q
unfolding next
next_tail p q h =
    let at : (k : ℕ) → k ≤ 16 → get_or (p ++ q) (length (p ++ q) - k) 0 ≡ get_or q (length q - k) 0 =
    λ k hk. let e : length (p ++ q) - k ≡ length p + (length q - k) = omega (arith, length-append p q) in rw e (get_or-append-add p q (length q - k) 0) in
    rw (at 2 (omega arith), at 7 (omega arith), at 15 (omega arith), at 16 (omega arith))

extended_length : (n : ℕ) (w : List ℕ) → length (extended n w) ≡ length w + n
unfolding extended
extended_length zero w = rw add-zero
extended_length (suc n) w = let e = extended_length n w in simp length-append (omega arith)

-- words before the last sixteen stay in front
extended_tail : (n : ℕ) (p q : List ℕ) → 16 ≤ length q → extended n (p ++ q) ≡ p ++ extended n q
unfolding extended
extended_tail zero p q h = refl
extended_tail (suc n) p q h =
    let l : 16 ≤ length (extended n q) = omega (arith, extended_length n q) in
    rw (extended_tail n p q h, next_tail p (extended n q) l) (append_assoc p (extended n q) (next (extended n q) ∷ []))

extended_add : (n k : ℕ) (w : List ℕ) → extended (n + k) w ≡ extended k (extended n w)
unfolding extended
extended_add n zero w = rw add-zero
extended_add n (suc k) w = rw (add-suc, extended_add n k w)

extended_zero : (w : List ℕ) → extended 0 w ≡ w
unfolding extended
extended_zero w = refl

extended_front : (n : ℕ) (w : List ℕ) → length w ≡ 16 → take 16 (extended n w) ≡ w
unfolding extended
extended_front zero w h = take_all 16 w (omega arith)
extended_front (suc n) w h = take-append-le 16 (extended n w) (next (extended n w) ∷ []) (omega (arith, extended_length n w)) ∙ extended_front n w h

-- the words that come after the first sixteen
new_length : (n : ℕ) (w : List ℕ) → length w ≡ 16 → length (drop 16 (extended n w)) ≡ n
new_length n w h = length-drop 16 (extended n w) ∙ omega (arith, extended_length n w)

-- The window: sixteen words in which each new word takes the place of the oldest. After t words it
-- has these t, and then the old ones that are left.
pub window : ℕ → List ℕ → List ℕ
window t w = drop 16 (extended t w) ++ drop t w

pub window_zero : (w : List ℕ) → length w ≡ 16 → w ≡ window 0 w
unfolding window extended
window_zero w h = rw (drop_of_length-le w {i = 16} (omega arith))

window_full : (w : List ℕ) → length w ≡ 16 → window 16 w ≡ drop 16 (extended 16 w)
unfolding window
window_full w h = rw (drop_of_length-le w {i = 16} (omega arith)) (append-nil (drop 16 (extended 16 w)))

-- after sixteen words all are new
pub next_sixteen : (w u : List ℕ) → length w ≡ 16 → u ≡ window 16 w → u ≡ drop 16 (extended 16 w)
next_sixteen w u h hu = hu ∙ window_full w h

-- a word of the schedule stands in the window at its number modulo 16: among the old words where it
-- is one of the first sixteen, else among the new
window_at : (t j : ℕ) (w : List ℕ) → length w ≡ 16 → t < 16 → j < 16 → get_or (window t w) ((t + j) % 16) 0 ≡ get_or (extended t w) (t + j) 0
unfolding window
window_at t j w h ht hj = go (dec_lt (t + j) 16)
  where
    l : length (drop 16 (extended t w)) ≡ t
    l = new_length t w h

    go : Dec (t + j < 16) → get_or (drop 16 (extended t w) ++ drop t w) ((t + j) % 16) 0 ≡ get_or (extended t w) (t + j) 0
    go (yes b) =
        let e : (t + j) % 16 ≡ length (drop 16 (extended t w)) + j = omega (arith, l) in
        let f : get_or (take 16 (extended t w)) (t + j) 0 ≡ get_or w (t + j) 0 = ap (λ (x : List ℕ). get_or x (t + j) 0) (extended_front t w h) in
        ap (λ (n : ℕ). get_or (drop 16 (extended t w) ++ drop t w) n 0) e
        ∙ get_or-append-add (drop 16 (extended t w)) (drop t w) j 0
        ∙ get_or-drop t w j 0
        ∙ sym f
        ∙ get_or-take 16 (extended t w) (t + j) 0 b
    go (no b) =
        let e : 16 + (t + j) % 16 ≡ t + j = omega arith in
        get_or-append (drop 16 (extended t w)) (drop t w) 0 ((t + j) % 16) (omega (arith, l))
        ∙ get_or-drop 16 (extended t w) ((t + j) % 16) 0
        ∙ ap (λ (n : ℕ). get_or (extended t w) n 0) e

-- the word stored is the next of the schedule
window_next : (t : ℕ) (w : List ℕ) → length w ≡ 16 → t < 16
    → mixed (get_or (window t w) ((t + 14) % 16) 0) (get_or (window t w) ((t + 9) % 16) 0) (get_or (window t w) ((t + 1) % 16) 0) (get_or (window t w) t 0)
    ≡ next (extended t w)
unfolding next
window_next t w h ht =
    let n = extended_length t w in
    let a14 : length (extended t w) - 2 ≡ t + 14 = omega arith in
    let a9 : length (extended t w) - 7 ≡ t + 9 = omega arith in
    let a1 : length (extended t w) - 15 ≡ t + 1 = omega arith in
    let a0 : length (extended t w) - 16 ≡ t = omega arith in
    let z : (t + 0) % 16 ≡ t = omega arith in
    rw (
      window_at t 14 w h ht (omega arith),
      window_at t 9 w h ht (omega arith),
      window_at t 1 w h ht (omega arith),
      rw (z, add-zero) at (window_at t 0 w h ht (omega arith)),
      a14,
      a9,
      a1,
      a0,
    )

-- a store of the next word: the window one word later
window_store : (t : ℕ) (w : List ℕ) → length w ≡ 16 → t < 16 → set (window t w) t (next (extended t w)) ≡ window (suc t) w
unfolding window extended
window_store t w h ht =
    let d : drop 16 (extended t w ++ next (extended t w) ∷ []) ≡ drop 16 (extended t w) ++ next (extended t w) ∷ [] =
    drop-append-le 16 (extended t w) (next (extended t w) ∷ []) (omega (arith, extended_length t w)) in
    rw (drop-cons w t 0 (omega arith), set_at (drop 16 (extended t w)) (get_or w t 0) (drop (suc t) w) (next (extended t w)) t (new_length t w h), d)
    (sym (append_assoc (drop 16 (extended t w)) (next (extended t w) ∷ []) (drop (suc t) w)))

pub window_step : (t : ℕ) (w u : List ℕ) (x : ℕ) → length w ≡ 16 → t < 16 → u ≡ window t w
    → x ≡ mixed (get_or u ((t + 14) % 16) 0) (get_or u ((t + 9) % 16) 0) (get_or u ((t + 1) % 16) 0) (get_or u t 0) → set u t x ≡ window (t + 1) w
window_step t w u x h ht hu hx = rw (hx, hu, window_next t w h ht, add-one t) (window_store t w h ht)

-- the words w, the sixteen after them, and n more after those
extended_sixteen : (n : ℕ) (w : List ℕ) → length w ≡ 16 → extended (16 + n) w ≡ w ++ extended n (drop 16 (extended 16 w))
extended_sixteen n w h =
    let l : length (drop 16 (extended 16 w)) ≡ 16 = new_length 16 w h in
    let front : take 16 (extended 16 w) ≡ w = extended_front 16 w h in
    let e : extended 16 w ≡ w ++ drop 16 (extended 16 w) = sym (take-append-drop 16 (extended 16 w)) ∙ ap (λ (x : List ℕ). x ++ drop 16 (extended 16 w)) front in
    extended_add 16 n w ∙ ap (extended n) e ∙ extended_tail n w (drop 16 (extended 16 w)) (omega arith)

-- ---- the rounds, sixteen at a time

-- one round more, by its values
pub rounds_zero : (v : HashValue) (k w : List ℕ) → v ≡ rounds 0 v k w
unfolding rounds
rounds_zero v k w = refl

pub rounds_step : (n : ℕ) (v r s : HashValue) (k w : List ℕ) → r ≡ rounds n v k w → s ≡ round r (get_or k n 0) (get_or w n 0) → s ≡ rounds (suc n) v k w
unfolding rounds
rounds_step n v r s k w e f = f ∙ rw e

rounds_front : (n : ℕ) (v : HashValue) (c d x y : List ℕ) → n ≤ length c → n ≤ length x → rounds n v (c ++ d) (x ++ y) ≡ rounds n v c x
unfolding rounds
rounds_front zero v c d x y hc hx = refl
rounds_front (suc n) v c d x y hc hx =
    rw (rounds_front n v c d x y (omega arith) (omega arith), get_or-append c d 0 n (omega arith), get_or-append x y 0 n (omega arith))

rounds_append : (n : ℕ) (v : HashValue) (c d x y : List ℕ) → length c ≡ length x
    → rounds (length x + n) v (c ++ d) (x ++ y) ≡ rounds n (rounds (length x) v c x) d y
unfolding rounds
rounds_append zero v c d x y h = rw add-zero (rounds_front (length x) v c d x y (omega arith) (omega arith))
rounds_append (suc n) v c d x y h =
    let e : get_or (c ++ d) (length x + n) 0 ≡ get_or d n 0 = rw (← h) (get_or-append-add c d n 0) in
    rw (add-suc, rounds_append n v c d x y h, e, get_or-append-add x y n 0)

rounds_sixteen : (n : ℕ) (v : HashValue) (c d x y : List ℕ) → length c ≡ 16 → length x ≡ 16
    → rounds (16 + n) v (c ++ d) (x ++ y) ≡ rounds n (rounds 16 v c x) d y
rounds_sixteen n v c d x y hc hx = rw hx at (rounds_append n v c d x y (hc ∙ sym hx))

words_length : (n : ℕ) (b : List ℕ) → length (words n b) ≡ n
unfolding words
words_length zero b = refl
words_length (suc n) b = let e = words_length n b in simp length-append (omega arith)

-- Four times sixteen rounds, each with its constants and the words that follow the last ones, are
-- the sixty-four of a block: the schedule is the four sixteens of words one after the other, and
-- rounds over an appended list are rounds after rounds.
pub four_sixteens : (v v0 v1 v2 v3 : HashValue) (k0 k1 k2 k3 b w0 w1 w2 w3 : List ℕ) → w0 ≡ words 16 b → w1 ≡ drop 16 (extended 16 w0)
    → w2 ≡ drop 16 (extended 16 w1) → w3 ≡ drop 16 (extended 16 w2) → v0 ≡ rounds 16 v k0 w0 → v1 ≡ rounds 16 v0 k1 w1
    → v2 ≡ rounds 16 v1 k2 w2 → v3 ≡ rounds 16 v2 k3 w3 → k0 ++ (k1 ++ (k2 ++ k3)) ≡ constants → length k0 ≡ 16 → length k1 ≡ 16
    → length k2 ≡ 16 → added v v3 ≡ compressed v b
unfolding compressed schedule
four_sixteens v v0 v1 v2 v3 k0 k1 k2 k3 b w0 w1 w2 w3 e0 e1 e2 e3 r0 r1 r2 r3 hk l0 l1 l2 =
    let h0 : length w0 ≡ 16 = ap length e0 ∙ words_length 16 b in
    let h1 : length w1 ≡ 16 = ap length e1 ∙ new_length 16 w0 h0 in
    let h2 : length w2 ≡ 16 = ap length e2 ∙ new_length 16 w1 h1 in
    let s2 : extended 16 w2 ≡ w2 ++ w3 = extended_sixteen 0 w2 h2 ∙ rw (← e3, extended_zero w3) in
    let s1 : extended 32 w1 ≡ w1 ++ (w2 ++ w3) = extended_sixteen 16 w1 h1 ∙ rw (← e2, s2) in
    let s0 : extended 48 (words 16 b) ≡ w0 ++ (w1 ++ (w2 ++ w3)) = rw (← e0) (extended_sixteen 32 w0 h0 ∙ rw (← e1, s1)) in
    let t2 : rounds 32 v1 (k2 ++ k3) (w2 ++ w3) ≡ v3 = rounds_sixteen 16 v1 k2 k3 w2 w3 l2 h2 ∙ rw (← r2, ← r3) in
    let t1 : rounds 48 v0 (k1 ++ (k2 ++ k3)) (w1 ++ (w2 ++ w3)) ≡ v3 = rounds_sixteen 32 v0 k1 (k2 ++ k3) w1 (w2 ++ w3) l1 h1 ∙ rw (← r1, t2) in
    let t0 : rounds 64 v (k0 ++ (k1 ++ (k2 ++ k3))) (w0 ++ (w1 ++ (w2 ++ w3))) ≡ v3 =
    rounds_sixteen 48 v k0 (k1 ++ (k2 ++ k3)) w0 (w1 ++ (w2 ++ w3)) l0 h0 ∙ rw (← r0, t1) in
    rw (s0, ← hk, t0)
