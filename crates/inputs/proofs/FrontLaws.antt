-- Laws of bytes that are put at the front of others, and of arrays of zeros that are filled from
-- their front: with bytes that fit, or with the first elements of a list, as far as there is room
-- (specs/StateReader.antt).
use mathlib.Core.Path.{◌≡◌, refl, sym, ◌∙◌, ap}
use mathlib.Core.Logic.{◌⊎◌, inl, inr}
use mathlib.Core.List.{List, [], ◌∷◌, ◌++◌}
use mathlib.Core.Option.{Option, none, some}
use Prim.Native.Nat.{ℕ, ◌+◌, ◌≤◌, ◌<◌}
use native.Mathlib.Decide.{dec_lt}
use native.Mathlib.Omega.{arith}
use lib.Dec.{leb}
use lib.ListN.{length, take, set, replicate, length-append, length-take}
use lib.Seq.{take-nil, take_all, take-length, take-append-le, set_out}
use borrow.Author.Tests.{leb-true, leb-false}
use Rattle.lists.specs.Lists.{Bytes, written}
use Rattle.lists.proofs.ChoiceLaws.{provided_some, provided_none}
use Rattle.hash.specs.Bytes.{padded}
use Rattle.hash.proofs.BytesLaws.{length_padded, padded_nil, padded_set, padded_paste}
use Rattle.lines.specs.Writing.{offset_after, put_at, put_any}
use Rattle.lines.proofs.WritingLaws.{put_fits, put_over, put_some}
use Rattle.inputs.specs.StateReader.{front}

-- ---- bytes put into zeros

-- bytes put after a list that zeros fill up
put_behind : (n at : ℕ) (s t d : List ℕ) → d ≡ padded n s → length s ≡ at → at + length t ≤ n → put_at d at t ≡ padded n (s ++ t)
unfolding written
put_behind n at s t d e l h =
    let w : at + length t ≤ length d = rw (e, length_padded n s (omega arith)) h in
    (put_fits d at t w).1 ∙ padded_paste n at s t d (written d at t) e l h (rw (take-length t) refl)

-- a byte string put into zeros
pub put_first : (n : ℕ) (o : Option Bytes) (b : Bytes) → o ≡ some b → length b ≤ n → put_any (replicate n 0) 0 o ≡ padded n b
put_first n o b e h = (put_some (replicate n 0) 0 o b e).1 ∙ put_behind n 0 [] b (replicate n 0) (padded_nil n) refl (omega arith)

-- ---- bytes put at the front of others

module _ (s t : Bytes) where
  -- where there is an offset after them, they fit, and it is their length
  pub offset-fits : (n : ℕ) → offset_after s 0 t ≡ some n → (length t ≤ length s) × (length t ≡ n)
  unfolding offset_after
  offset-fits n e =
      let (h, l) = provided_some (leb (0 + length t) (length s)) (0 + length t) n e in
      (omega (arith, leb-true (0 + length t) (length s) h), omega (arith, l))

  -- where there is none, they are longer
  pub offset-over : offset_after s 0 t ≡ none → length s < length t
  unfolding offset_after
  offset-over e = omega (arith, leb-false (0 + length t) (length s) (provided_none (leb (0 + length t) (length s)) (0 + length t) e))

-- ---- the first elements of a list

module _ (n : ℕ) where
  -- of no elements, zeros
  pub front-nil : replicate n 0 ≡ front n []
  unfolding front
  front-nil = rw (take-nil {A = ℕ} n) (padded_nil n)

  -- of few enough, all
  pub front-whole : (s : List ℕ) → length s ≤ n → front n s ≡ padded n s
  unfolding front
  front-whole s h = ap (padded n) (take_all n s h)

  -- of enough, what comes after them does not count
  front-full : (s t : List ℕ) → n ≤ length s → front n (s ++ t) ≡ front n s
  unfolding front
  front-full s t h = ap (padded n) (take-append-le n s t h)

  -- they fill the room
  pub length_front : (s : List ℕ) → length (front n s) ≡ n
  unfolding front
  length_front s = length_padded n (take n s) (omega (arith, length-take n s))

  -- one more element
  pub front-set : (s d : List ℕ) (i x : ℕ) → d ≡ front n s → length s ≡ i → set d i x ≡ front n (s ++ x ∷ [])
  front-set s d i x e l = go (dec_lt i n)
    where
      go : Dec (i < n) → set d i x ≡ front n (s ++ x ∷ [])
      go (yes h) =
          padded_set n i x s d (e ∙ front-whole s (omega arith)) l h ∙ sym (front-whole (s ++ x ∷ []) (omega (arith, length-append s (x ∷ []))))
      go (no h) = set_out d i x (rw (e, length_front s) (omega arith)) ∙ e ∙ sym (front-full s (x ∷ []) (omega arith))

  -- more elements, where they fit or there is no room at all
  pub front-put : (s t d : List ℕ) (at : ℕ) → d ≡ front n s → length s ≡ at → (at + length t ≤ n) ⊎ ((n ≤ at) × (0 < length t)) → put_at d at t ≡ front n (s ++ t)
  front-put s t d at e l (inl h) =
      put_behind n at s t d (e ∙ front-whole s (omega arith)) l h ∙ sym (front-whole (s ++ t) (omega (arith, length-append s t)))
  front-put s t d at e l (inr (h, k)) =
      let w : length d < at + length t = rw (e, length_front s) (omega arith) in
      (put_over d at t w).1 ∙ e ∙ sym (front-full s t (omega arith))
