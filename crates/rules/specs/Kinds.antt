-- What a kind of call asks of a response, and what comes of it (paper 01, Ladder, search,
-- monitoring). Each kind has a file of its own, with its value of the record KindRules
-- (Search.antt, Monitoring.antt); the rules of Refusals.antt are said over that record, once for
-- all kinds.
use Rattle.std.specs.Prelude.{Bool, List, [], ◌∷◌, map, ℕ, eqb, ltb}
use Rattle.lists.specs.Choice.{choose}
use Rattle.rules.specs.State.{MapEntry}
use Rattle.rules.specs.Response.{Lookup}

-- an entry that a response must show, and the versions to be looked up in it
pub record Asked : Type 0 where
  pub position : ℕ
  pub versions : List ℕ

-- the entries at some positions, with the versions to be looked up in each
unfoldable pub asked_at : (ℕ → List ℕ) → List ℕ → List Asked
asked_at wanted ps = map (λ (p : ℕ). record { position = p; versions = wanted p }) ps

pub record KindRules : Type 0 where
  -- 8: t is no version to be searched for
  pub target_wrong : Bool
  -- 9: the entries, and whether versions looked up in one are as asked, from those to be looked up
  pub entries : List Asked
  pub versions_fit : List ℕ → List ℕ → Bool
  -- 9: the versions of the steps, and which of them have a commitment
  pub steps : List ℕ
  pub is_committed : ℕ → Bool
  -- 12: there is no commitment with which a lookup could be tried
  pub untried : Lookup → Bool
  -- 13: the results are as they must be
  pub results_fit : Bool
  -- the new map
  pub map_after : List MapEntry

-- a pair put into the map by its position; where one stands there already, `pick` chooses from the
-- new version and the old one
unfoldable pub put_entry : (ℕ → ℕ → ℕ) → MapEntry → List MapEntry → List MapEntry
put_entry pick e [] = e ∷ []
put_entry pick e (x ∷ xs) =
    choose (ltb e.position x.position) (λ _. e ∷ x ∷ xs)
    (λ _. choose (eqb e.position x.position)
    (λ _. record { position = e.position; version = pick e.version x.version } ∷ xs)
    (λ _. x ∷ put_entry pick e xs))
