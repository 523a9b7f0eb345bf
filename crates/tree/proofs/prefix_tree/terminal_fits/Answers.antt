-- `tree::prefix_tree::terminal_fits` meets its contract: by what stands at the place, and by where
-- the bits of two outputs part.
use mathlib.Core.Logic.{⊎_elim}
use borrow.Author.Rules.{rules}
use Rattle.tree.proofs.TerminalLaws.{own_fits, empty_fits, shared_fits}
use Rattle.tree.proofs.prefix_tree.terminal_fits.Goals as goal

pub returns-in-OtherLeaf : goal.returns-in-OtherLeaf
returns-in-OtherLeaf c =
    let s = c.args in
    shared_fits s.output _ _ s.terminal s.depth c.in-OtherLeaf.is _ _ _ c.shared_bits.ensures c.is_some_and.ensures
    (λ n k. search rules)

pub returns-in-SearchedLeaf : goal.returns-in-SearchedLeaf
returns-in-SearchedLeaf c =
    let s = c.args in
    ⊎_elim (λ p. own_fits s.output p.0 s.terminal s.depth p.1) (λ e. empty_fits s.output s.terminal s.depth e) c.in-SearchedLeaf.is
