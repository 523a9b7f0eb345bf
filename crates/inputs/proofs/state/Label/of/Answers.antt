-- `inputs::state::Label::of` meets its contract: zeros stand after the bytes of the label.
use mathlib.Core.Path.{ap}
use Prim.Native.Nat.{ℕ}
use mathlib.Core.List.{List}
use lib.ListN.{length}
use Rattle.rules.specs.Limits.{label_limit}
use Rattle.inputs.specs.declared.state.Label.{Label}
use Rattle.inputs.specs.State.{label_block}
use Rattle.inputs.proofs.RoomLaws.{padded_front}
use Rattle.inputs.proofs.state.Label.of.Goals as goal

pub returns : goal.returns
unfolding label_block
returns c =
    let s = c.args.s.now in
    let with_bytes : List ℕ → Label = λ b. record { bytes = b; length = length s } in
    rw c.copy_from_slice.ensures.after (ap with_bytes (padded_front label_limit s))
