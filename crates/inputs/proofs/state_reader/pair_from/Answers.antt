-- `inputs::state_reader::pair_from` meets its contract: the line at the offset is read as a `pair` line.
use mathlib.Core.Path.{refl}
use Prim.Native.Nat.{ℕ}
use borrow.Author.Rules.{rules}
use Rattle.rules.specs.State.{MapEntry}
use Rattle.rules.specs.StateText.{read_pair}
use Rattle.inputs.specs.StateReader.{pair_of, pair_from_of}
use Rattle.inputs.proofs.TextLineLaws.{from-given}
use Rattle.inputs.proofs.state_reader.pair_from.Goals as goal

pub returns : goal.returns
returns c =
    let f : ℕ × ℕ → MapEntry = λ (p, v). record { position = p; version = v } in
    from-given read_pair _ _ _ c.read_from.result c.read_from.ensures f pair_of pair_from_of (λ l o k. search rules) refl (λ v. refl) refl (λ v n. refl)
