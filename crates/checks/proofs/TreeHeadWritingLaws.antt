-- Laws of the text that a log signs: it is written part by part, into bytes from an offset on
-- (src/tree_head.rt).
use mathlib.Core.Path.{◌≡◌, refl, sym, ◌∙◌, ap}
use mathlib.Core.Bool.{true, false}
use mathlib.Core.List.{[], ◌++◌, append_assoc, append-nil}
use Prim.Native.Nat.{ℕ, ◌+◌, ◌-◌, ◌≤◌, ◌<◌}
use native.Mathlib.Nat.{zero-add}
use native.Mathlib.Omega.{arith}
use lib.Dec.{leb}
use lib.ListN.{length, take, drop, length-append, length-drop, drop_of_length-le}
use lib.Seq.{drop-drop}
use borrow.Author.Tests.{le-leb, lt-leb}
use Rattle.lists.specs.Choice.{choose}
use Rattle.lists.specs.Lists.{Bytes, written}
use Rattle.hash.specs.Bytes.{big_endian}
use Rattle.hash.proofs.BytesLaws.{length_big_endian, tail_part}
use Rattle.lines.specs.Writing.{offset_after, put_at}
use Rattle.lines.proofs.WritingLaws.{put_fits}
use Rattle.rules.specs.Configuration.{tree_head}
use Rattle.rules.specs.Calls.{placed}
use Rattle.inputs.specs.StateWriter.{Wrote}
use Rattle.inputs.proofs.StateWriterLaws.{then-put}

-- ---- part by part

-- a text put after another that was written is both written as one
put_behind : (s t u : Bytes) (at : ℕ) {s' s'' : Bytes} → length t ≡ at → length (t ++ u) ≤ length s → s' ≡ written s 0 t → s'' ≡ put_at s' at u
    → s'' ≡ written s 0 (t ++ u)
put_behind s t u at {s'} {s''} e h w p =
    let l = length-append t u in
    let front : Wrote s 0 t at s' = record { room = omega arith; offset = omega arith; bytes = w } in
    (then-put u front (offset_after s' at u) (omega arith) (refl, p) refl).bytes

-- the configuration, the size and the root, put one after the other
pub head_put : (s a : Bytes) (n : ℕ) (r : Bytes) → length (tree_head a n r) ≤ length s → {b s1 s2 s3 : Bytes} → b ≡ big_endian 8 n
    → s1 ≡ put_at s 0 a → s2 ≡ put_at s1 (length a) b → s3 ≡ put_at s2 (length a + 8) r → s3 ≡ written s 0 (tree_head a n r)
unfolding tree_head
head_put s a n r h {b} {s1} {s2} {s3} e p q t =
    let l = length-append a (big_endian 8 n) in
    let m = length-append (a ++ big_endian 8 n) r in
    let k = length_big_endian 8 n in
    let w1 : s1 ≡ written s 0 a = p ∙ (put_fits s 0 a (omega arith)).1 in
    let w2 : s2 ≡ written s 0 (a ++ big_endian 8 n) = put_behind s a (big_endian 8 n) (length a) refl (omega arith) w1 (q ∙ ap (put_at s1 (length a)) e) in
    put_behind s (a ++ big_endian 8 n) r (length a + 8) (omega arith) h w2 t

-- ---- from an offset on

module _ (s : Bytes) (at : ℕ) (t : Bytes) where
  -- a text for which there is too little room
  pub placed-over : length s < at + length t
      → (16 ≡ (placed s at t).0) × (false ≡ leb (at + length t) (length s)) × (s ≡ (placed s at t).1)
  unfolding placed choose
  placed-over h = let e = lt-leb (at + length t) (length s) h in (rw e refl, sym e, rw e refl)

  -- a text written to the first of the bytes from an offset on, which were lent and are put back
  written_behind : {y : Bytes} → y ≡ written (take (length s - at) (drop at s)) 0 t → take at s ++ (y ++ drop (length s - at) (drop at s)) ≡ written s at t
  unfolding written
  written_behind {y} e =
      let f : y ≡ t ++ drop (at + length t) s = e ∙ rw (tail_part at s, zero-add (length t), drop-drop (length t) at s) refl in
      let g : drop (length s - at) (drop at s) ≡ [] = drop_of_length-le (drop at s) {i = length s - at} (omega (arith, length-drop at s)) in
      rw (g, append-nil y, f) (sym (append_assoc (take at s) t (drop (at + length t) s)))

  -- a text for which there is room
  pub placed-fits : at + length t ≤ length s → {y : Bytes} → y ≡ written (take (length s - at) (drop at s)) 0 t
      → (length t ≡ (placed s at t).0) × (true ≡ leb (at + length t) (length s))
      × (take at s ++ (y ++ drop (length s - at) (drop at s)) ≡ (placed s at t).1)
  unfolding placed choose
  placed-fits h w =
      let e = le-leb (at + length t) (length s) h in
      (rw e refl, sym e, rw e (written_behind w))
