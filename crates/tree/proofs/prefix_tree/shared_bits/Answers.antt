-- `tree::prefix_tree::shared_bits` meets its contract: what is found is where the bits part.
use mathlib.Core.Path.{refl}
use borrow.Author.Rules.{rules}
use lib.ListN.{get_or}
use Rattle.std.specs.Prelude.{◌≡◌}
use Rattle.std.proofs.lemmas.Iterator.{YieldsList-from_range, IsFirst-from_position}
use Rattle.tree.specs.PrefixTree.{bits}
use Rattle.tree.proofs.TerminalLaws.{bytes_held, parting_found}
use Rattle.tree.proofs.prefix_tree.shared_bits.Goals as goal

pub returns : goal.returns
returns c =
    let held = c.well_formed in
    let a = c.args.a in
    let b = c.args.b in
    parting_found a b (bytes_held a held.0.0 held.0.1.1) (bytes_held b held.1.0.0 held.1.0.1.1)
    held.0.1.0.1 held.1.0.1.0.1 c.position.result
    (IsFirst-from_position _ _ c.position.result (λ n. get_or (bits a) n 0 ≡ get_or (bits b) n 0 → ⊥)
    (λ n. get_or (bits a) n 0 ≡ get_or (bits b) n 0)
    c.position.ensures.ran (YieldsList-from_range 0 256 256 refl refl) (λ x q k. search rules) (λ x q k. search rules))
