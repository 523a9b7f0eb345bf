-- Laws of a part of a text (specs/Readings.antt).
use mathlib.Core.Path.{◌≡◌, refl, sym, ◌∙◌}
use mathlib.Core.List.{[]}
use Prim.Native.Nat.{ℕ, min, ◌-◌, ◌≤◌, ◌<◌}
use native.Mathlib.Decide.{dec_lt}
use native.Mathlib.Omega.{arith}
use lib.ListN.{length, take, drop, length-drop}
use lib.Seq.{take_all}
use Rattle.lists.specs.Lists.{Bytes}
use Rattle.lines.specs.declared.part.Part.{Part}
use Rattle.lines.specs.Readings.{part_of}
use Rattle.lines.proofs.OffsetLaws.{at_end}

module _ (s : Bytes) (p : Part) where
  -- a part that starts beyond the end is empty
  part-beyond : length s < p.start → [] ≡ part_of s p
  unfolding part_of
  part-beyond h = rw (at_end s p.start (omega arith)) (sym (take_all (p.stop - p.start) [] (omega arith)))

  -- so is one that stops before its start
  part-back : p.stop < p.start → [] ≡ part_of s p
  unfolding part_of
  part-back h = let e : p.stop - p.start ≡ 0 = omega arith in rw e refl

  -- one that stops beyond the end reaches to the end
  part-rest : length s ≤ p.stop → take (length s - p.start) (drop p.start s) ≡ part_of s p
  unfolding part_of
  part-rest h =
      let n = length-drop p.start s in
      take_all (length s - p.start) (drop p.start s) (omega arith)
      ∙ sym (take_all (p.stop - p.start) (drop p.start s) (omega arith))

  -- offsets taken back to the end, and the start to the stop, are those of the same part
  pub part_within : (a b : ℕ) → b ≡ min p.stop (length s) → a ≡ min p.start b → take (b - a) (drop a s) ≡ part_of s p
  unfolding part_of
  part_within a b f g = go (dec_lt p.stop p.start) (dec_lt (length s) p.start) (dec_lt (length s) p.stop)
    where
      none_there : a ≡ b → [] ≡ part_of s p → take (b - a) (drop a s) ≡ part_of s p
      none_there e h = let z : b - a ≡ 0 = omega arith in rw z h

      go : Dec (p.stop < p.start) → Dec (length s < p.start) → Dec (length s < p.stop)
          → take (b - a) (drop a s) ≡ part_of s p
      go (yes h) k l = none_there (omega arith) (part-back h)
      go (no h) (yes k) l = none_there (omega arith) (part-beyond k)
      go (no h) (no k) (yes l) =
          let e : a ≡ p.start = omega arith in
          let q : b ≡ length s = omega arith in
          rw (e, q) (part-rest (omega arith))
      go (no h) (no k) (no l) =
          let e : a ≡ p.start = omega arith in
          let q : b ≡ p.stop = omega arith in
          rw (e, q) refl
