-- What reading the sheet of VRF outputs yields (specs/VrfOutputs.antt): outputs of their length, of
-- bytes if the sheet is.
use mathlib.Core.Path.{◌≡◌, refl}
use mathlib.Core.Bool.{true}
use mathlib.Core.List.{List, [], Memᴰ}
use mathlib.Core.Option.{Option, none, some, Option-elim}
use Prim.Native.Nat.{ℕ, ◌/◌}
use native.Mathlib.Omega.{arith}
use lib.Dec.{eqb}
use lib.ListN.{length, drop, length-drop}
use Rattle.lists.specs.Lists.{Bytes, first, runs}
use Rattle.lists.proofs.ChoiceLaws.{provided_some, given_some, given_first}
use Rattle.lists.proofs.ListLaws.{first_listed}
use Rattle.lists.proofs.MemberLaws.{at-mapped}
use Rattle.hash.specs.Bytes.{AreBytes}
use Rattle.hash.proofs.BytesLaws.{bytes_drop}
use Rattle.tree.proofs.RunLaws.{runs-sized, runs_bytes}
use Rattle.rules.specs.Limits.{vrf_output_length}
use Rattle.rules.specs.VrfOutputs.{VrfOutput, record_length, read_record, read_records, read_outputs}
use Rattle.rules.specs.VrfOutputs.{has_output, output_of}

-- what holds of the output of each record of a sheet that reads holds of each output
outputs_by : (P : Bytes → Type 0) (s : Bytes) (xs : List VrfOutput) → read_outputs s ≡ some xs
    → ((r : Bytes) → Memᴰ r (runs (length s / record_length) record_length s) → P (drop 4 r)) → (x : VrfOutput) → Memᴰ x xs → P x.output
unfolding read_outputs read_records read_record
outputs_by P s xs e h x m =
    let q : read_records s ≡ xs = (provided_some _ (read_records s) xs e).1 in
    let (r, i, z) = at-mapped read_record (runs (length s / record_length) record_length s) x (rw (← q) at m) in
    rw z (h r i)

-- each output has its length
pub outputs_sized : (s : Bytes) (xs : List VrfOutput) → read_outputs s ≡ some xs → (x : VrfOutput) → Memᴰ x xs → length x.output ≡ vrf_output_length
outputs_sized s xs e = outputs_by (λ (o : Bytes). length o ≡ vrf_output_length) s xs e (λ r m.
    let l = runs-sized (length s / record_length) record_length s (omega arith) r m in
    omega (arith, length-drop 4 r))

-- and bytes, if the sheet has
pub outputs_bytes : (s : Bytes) (xs : List VrfOutput) → AreBytes s → read_outputs s ≡ some xs → (x : VrfOutput) → Memᴰ x xs → AreBytes x.output
outputs_bytes s xs b e = outputs_by AreBytes s xs e (λ r m. bytes_drop 4 r (runs_bytes (length s / record_length) record_length s b r m))

-- ---- the output of a version

module _ (P : Bytes → Type 0) (xs : List VrfOutput) (v : ℕ) (h : (x : VrfOutput) → Memᴰ x xs → P x.output) where
  -- what holds of each output holds of that of a version on the sheet
  pub output-of : has_output xs v ≡ true → P (output_of xs v)
  unfolding has_output output_of Option-elim
  output-of e =
      let (x, q) = given_some (first (λ (y : VrfOutput). eqb y.version v) xs) (rw (given_first (λ (y : VrfOutput). eqb y.version v) xs) e) in
      rw q (h x (first_listed (λ (y : VrfOutput). eqb y.version v) xs x q))

  -- and of that of any version, if it holds of the empty string
  pub output-by : P [] → P (output_of xs v)
  unfolding output_of Option-elim
  output-by z = go (first (λ (y : VrfOutput). eqb y.version v) xs) (first_listed (λ (y : VrfOutput). eqb y.version v) xs)
    where
      go : (o : Option VrfOutput) → ((x : VrfOutput) → o ≡ some x → Memᴰ x xs) → P (Option-elim o [] (λ x. x.output))
      go none f = z
      go (some x) f = h x (f x refl)
