-- `tree::log_spine::put_value` meets its contract: the bytes that are put are pasted.
use mathlib.Core.Path.{◌≡◌, refl}
use Prim.Native.Nat.{◌+◌, ◌-◌, ◌*◌}
use native.Mathlib.Omega.{arith}
use lib.ListN.{length}
use Rattle.std.proofs.lemmas.Slice.{put_mid-paste}
use Rattle.hash.specs.Sha256.{digest_length}
use Rattle.hash.proofs.BytesLaws.{padded_paste}
use Rattle.tree.specs.LogHead.{block_length}
use Rattle.tree.proofs.log_spine.put_value.Goals as goal

pub returns : goal.returns
returns c =
    let a = c.args in
    let v = a.value in
    let l : length v ≡ digest_length = c.well_formed.1.1.0.1.0.1 in (
      l,
      λ s e h. padded_paste block_length (digest_length * a.i) s v a.block.now _ e h (omega (arith, l, c.requires))
          (put_mid-paste (32 * a.i) (32 * a.i + 32 - 32 * a.i) a.block.now c.copy_from_slice.new.self v (length v) c.copy_from_slice.ensures.after (omega (arith, l)) refl),
    )
