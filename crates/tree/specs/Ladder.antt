-- The binary ladder of a version (paper 01, Ladder; 001, 5). In a recursion that is not over the
-- parts of its argument, here and in the other modules, the first number bounds the number of steps
-- (laws call it fuel); it is enough wherever the definition is used.
use Rattle.std.specs.Prelude.{cond, List, [], ◌∷◌, ℕ, zero, suc, ◌+◌, ◌-◌, ◌*◌, ◌/◌, ◌^◌, leb, ltb}
use Rattle.lists.specs.Choice.{choose}

-- halving, rounded down, between a version lo not above t and a version hi above t, until they are
-- neighbours
unfoldable pub halve : ℕ → ℕ → ℕ → ℕ → List ℕ
halve zero t lo hi = []
halve (suc k) t lo hi =
    choose (leb hi (lo + 1)) (λ _. [])
    (λ _. (lo + hi) / 2 ∷ halve k t (cond (leb ((lo + hi) / 2) t) ((lo + hi) / 2) lo)
    (cond (leb ((lo + hi) / 2) t) hi ((lo + hi) / 2)))

-- v, 2 v + 1 and so on until one is above t, then halving between that one and the one before it,
-- lo
unfoldable pub climb : ℕ → ℕ → ℕ → ℕ → List ℕ
climb zero t lo v = []
climb (suc k) t lo v = v ∷ choose (ltb t v) (λ _. halve v t lo v) (λ _. climb k t v (2 * v + 1))

-- the ladder of t: climbing from 0, then halving
unfoldable pub ladder : ℕ → List ℕ
ladder t = climb (t + 2) t 0 0

-- the ladders whose versions are all numbers of 32 bits: those of the versions up to 2 ^ 32 - 2
-- (paper 01, What a call is given)
unfoldable pub ladder_within : ℕ → List ℕ
ladder_within t = choose (ltb t (2 ^ 32 - 1)) (λ _. ladder t) (λ _. [])

-- the most versions that such a ladder has
abbrev pub ladder_capacity : ℕ
ladder_capacity = 64
