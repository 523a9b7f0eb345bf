-- `tree::prefix_tree::terminal_value` meets its contract: by what stands at the place.
use mathlib.Core.Path.{◌∙◌}
use Rattle.tree.specs.LogTree.{zeros}
use Rattle.tree.proofs.TerminalLaws.{own_value, empty_value, other_value}
use Rattle.tree.proofs.prefix_tree.terminal_value.Goals as goal

pub returns-in-SearchedLeaf : goal.returns-in-SearchedLeaf
returns-in-SearchedLeaf c =
    let s = c.args in
    c.digest_65.ensures ∙ own_value s.output _ s.terminal c.in-SearchedLeaf.is

pub returns-in-Empty : goal.returns-in-Empty
unfolding zeros
returns-in-Empty c = let s = c.args in empty_value s.output s.terminal c.in-Empty.is

pub returns-in-OtherLeaf : goal.returns-in-OtherLeaf
returns-in-OtherLeaf c =
    let s = c.args in
    c.digest_65-in-OtherLeaf.ensures ∙ other_value s.output _ _ s.terminal c.in-OtherLeaf.is
