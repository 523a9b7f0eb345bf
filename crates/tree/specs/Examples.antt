-- Paper 01's worked examples that are to be proved, as one claim. The proof is in
-- proofs/ExampleLaws.antt.
use Rattle.std.specs.Prelude.{◌≡◌, [], ◌∷◌, map, ℕ}
use Rattle.tree.specs.Ladder.{ladder}
use Rattle.tree.specs.SearchTree.{frontier, right_ancestors}
use Rattle.tree.specs.LogTree.{walk_of, node_count}

pub record WorkedExamples : Type 0 where
  pub ladders : map ladder (0 ∷ 1 ∷ 3 ∷ 5 ∷ [])
      ≡ (0 ∷ 1 ∷ []) ∷ (0 ∷ 1 ∷ 3 ∷ 2 ∷ []) ∷ (0 ∷ 1 ∷ 3 ∷ 7 ∷ 5 ∷ 4 ∷ []) ∷ (0 ∷ 1 ∷ 3 ∷ 7 ∷ 5 ∷ 6 ∷ [])
      ∷ []
  pub frontiers : map frontier (1 ∷ 13 ∷ 14 ∷ 60 ∷ [])
      ≡ (0 ∷ []) ∷ (7 ∷ 11 ∷ 12 ∷ []) ∷ (7 ∷ 11 ∷ 13 ∷ []) ∷ (31 ∷ 47 ∷ 55 ∷ 59 ∷ []) ∷ []
  pub right_ancestor_lists : map (right_ancestors 14) (4 ∷ 8 ∷ 13 ∷ []) ≡ (5 ∷ 7 ∷ []) ∷ (9 ∷ 11 ∷ []) ∷ [] ∷ []
  pub nodes : map (λ (m : ℕ). node_count (walk_of 14 m (frontier 14))) (0 ∷ 10 ∷ []) ≡ 6 ∷ 5 ∷ []
