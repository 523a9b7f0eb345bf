-- The worked examples of paper 01 hold: antt computes each one.
use mathlib.Core.Path.{refl}
use Rattle.lists.proofs.Computing.{list_definitions}
use Rattle.tree.specs.Examples.{WorkedExamples}
use Rattle.tree.proofs.Computing.{tree_definitions}

pub worked_examples : WorkedExamples
unfolding list_definitions tree_definitions
worked_examples = record { ladders = refl; frontiers = refl; right_ancestor_lists = refl; nodes = refl }
