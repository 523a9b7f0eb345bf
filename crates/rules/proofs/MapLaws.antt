-- Laws of the monitoring map (specs/Search.antt, specs/Monitoring.antt).
use mathlib.Core.Path.{◌≡◌, refl, sym, subst}
use mathlib.Core.Logic.{◌⊎◌, inl, inr}
use mathlib.Core.Bool.{Bool, true, false}
use mathlib.Core.List.Memᴰ
use mathlib.Core.List.{List, [], ◌∷◌, Memᴰ}
use Prim.Native.Nat.{ℕ, ◌<◌, max}
use lib.Dec.{eqb, ltb}
use Rattle.lists.specs.Choice.{choose}
use Rattle.lists.specs.Lists.{last_or}
use Rattle.tree.specs.SearchTree.{frontier, right_ancestors}
use Rattle.tree.proofs.AncestorLaws.{right_ancestors_end}
use Rattle.rules.specs.State.{MapEntry}
use Rattle.rules.specs.Kinds.{put_entry}
use Rattle.rules.specs.Monitoring.{map_after_monitoring}

-- a property of positions
module _ (P : ℕ → Type 0) where
  -- every pair of a map stands where the property holds
  abbrev pub Stand : List MapEntry → Type 0
  Stand es = (e : MapEntry) → Memᴰ e es → P e.position

  stand-cons : (x : MapEntry) (es : List MapEntry) → P x.position → Stand es → Stand (x ∷ es)
  stand-cons x es p h e m = go (Memᴰ.cases_cons m)
    where
      go : (e ≡ x) ⊎ Memᴰ e es → P e.position
      go (inl q) = subst (λ (y : MapEntry). P y.position) (sym q) p
      go (inr k) = h e k

  -- a pair that stands there is put into a map of such pairs: all pairs stand there
  pub put-stands : (pick : ℕ → ℕ → ℕ) (e : MapEntry) (es : List MapEntry) → P e.position → Stand es → Stand (put_entry pick e es)
  unfolding put_entry choose
  put-stands pick e [] p h = stand-cons e [] p h
  put-stands pick e (x ∷ xs) p h = go (ltb e.position x.position) (eqb e.position x.position) (put-stands pick e xs p (λ y m. h y (Memᴰ.tail m)))
    where
      rest : Stand xs
      rest y m = h y (Memᴰ.tail m)

      here : P x.position
      here = h x (Memᴰ.head refl)

      go : (a b : Bool) → Stand (put_entry pick e xs)
          → Stand (choose a (λ _. e ∷ x ∷ xs)
          (λ _. choose b (λ _. record { position = e.position; version = pick e.version x.version } ∷ xs) (λ _. x ∷ put_entry pick e xs)))
      go true b k = stand-cons e (x ∷ xs) p h
      go false true k = stand-cons (record { position = e.position; version = pick e.version x.version }) xs p rest
      go false false k = stand-cons x (put_entry pick e xs) here k

-- after monitoring every pair stands on the frontier
pub monitored_on_frontier : (n : ℕ) (es : List MapEntry) → Stand (λ (p : ℕ). p < n) es → Stand (λ (p : ℕ). Memᴰ p (frontier n)) (map_after_monitoring n es)
unfolding map_after_monitoring
monitored_on_frontier n [] h = λ e m. absurd (Memᴰ.not-nil m)
monitored_on_frontier n (x ∷ xs) h =
    put-stands (λ (p : ℕ). Memᴰ p (frontier n)) max (record { position = last_or x.position (right_ancestors n x.position); version = x.version })
    (map_after_monitoring n xs) (right_ancestors_end n x.position (h x (Memᴰ.head refl))) (monitored_on_frontier n xs (λ y m. h y (Memᴰ.tail m)))
