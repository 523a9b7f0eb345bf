-- The versions that monitoring looks up, from the pairs of the map, and what each kind wants of an
-- entry: for contracts of private functions alone.
use Rattle.std.specs.Prelude.{◌≡◌, ◌⊎◌, Bool, true, cond, ℕ, min, ◌≤◌, ◌<◌, eqb, leb, ltb, length, get_or, replicate, set}
use Rattle.std.specs.Prelude.{Some, None, Option as CodeOption}
use mathlib.Core.List.{List, [], ◌∷◌, Memᴰ}
use Rattle.lists.specs.Choice.{choose}
use Rattle.lists.specs.Lists.{all, select, insert_all, same}
use Rattle.tree.specs.Ladder.{ladder}
use Rattle.tree.specs.SearchTree.{next_from}
use Rattle.rules.specs.Limits.{greatest_version, map_limit, version_bound}
use Rattle.rules.specs.Search.{is_beginning}
use Rattle.rules.specs.Monitoring.{versions_reaching, versions_shown, asked_by_monitoring}
use Rattle.rules.specs.Monitoring.{versions_of as versions_asked}
use Rattle.inputs.specs.State.{map_of}
use Rattle.inputs.specs.declared.response_lines.Kind.{Kind}
use Rattle.inputs.specs.declared.response_lines.Kind.TheVariants.{Search, Monitor}

-- the versions of a version's ladder that are not above it
unfoldable pub not_above : ℕ → List ℕ
not_above v = select (λ (u : ℕ). leb u v) (ladder v)

-- the versions looked up in an entry, of pairs that are given by their positions and their versions
abbrev pub shown_at : ℕ → List ℕ → List ℕ → ℕ → List ℕ
shown_at n ps vs x = versions_shown (versions_reaching n (map_of ps vs) x)

-- the pair whose version is looked up in an entry, if one is
abbrev pub IsLargest : ℕ → List ℕ → List ℕ → ℕ → CodeOption ℕ → Type 0
IsLargest n ps vs x (Some i) = (i < length vs) × (shown_at n ps vs x ≡ not_above (get_or vs i 0))
IsLargest n ps vs x None = shown_at n ps vs x ≡ []

-- ---- versions together

-- of a pair that counts, marked by 0, the versions looked up for its version; of others none
unfoldable pub counted_of : ℕ → ℕ → List ℕ
counted_of mark v = choose (eqb mark 0) (λ _. not_above v) (λ _. [])

-- the versions looked up for all pairs that count, rising, each once
unfoldable pub counted : List ℕ → List ℕ → List ℕ
counted [] vs = []
counted (m ∷ ms) [] = []
counted (m ∷ ms) (v ∷ vs) = insert_all (counted_of m v) (counted ms vs)

-- ---- one version after the other

-- the smallest of some versions, or the bound of all
unfoldable pub smallest : List ℕ → ℕ
smallest [] = version_bound
smallest (x ∷ xs) = min x (smallest xs)

-- next versions of pairs: those below a version are moved to the first from it on
unfoldable pub stepped_on : List ℕ → List ℕ → ℕ → List ℕ
stepped_on [] xs from = []
stepped_on (v ∷ vs) [] from = []
stepped_on (v ∷ vs) (x ∷ xs) from =
    cond (ltb x from) (next_from version_bound (not_above v) from) x ∷ stepped_on vs xs from

-- ---- the pairs that count

-- the pairs of a valid state, by their positions and their versions
pub record ArePairs (positions versions' : List ℕ) : Type 0 where
  pub alike : length positions ≡ length versions'
  pub few : length positions ≤ map_limit
  pub versions : all (λ (v : ℕ). leb v greatest_version) versions' ≡ true

-- and none of them is marked
abbrev pub ArePairsAsked : List ℕ → List ℕ → List ℕ → Type 0
ArePairsAsked ps vs marks = ArePairs ps vs × (marks ≡ replicate (length vs) version_bound)

-- each mark is 0 or the bound of versions
pub record AreMarks (marks' versions' : List ℕ) : Type 0 where
  pub alike : length marks' ≡ length versions'
  pub versions : all (λ (v : ℕ). leb v greatest_version) versions' ≡ true
  pub marks : (m : ℕ) → Memᴰ m marks' → (m ≡ 0) ⊎ (m ≡ version_bound)

-- the mark of the pair whose version is looked up in an entry becomes 0
abbrev pub IsMarkedFor : ℕ → List ℕ → List ℕ → ℕ → List ℕ → List ℕ → Type 0
IsMarkedFor n ps vs x marks marks' =
    ((i : ℕ) × (i < length vs) × (shown_at n ps vs x ≡ not_above (get_or vs i 0)) × (marks' ≡ set marks i 0))
    ⊎ ((shown_at n ps vs x ≡ []) × (marks' ≡ marks))

-- a search marks none
abbrev pub IsMarkedBy : Kind → ℕ → List ℕ → List ℕ → ℕ → List ℕ → List ℕ → Type 0
IsMarkedBy Search n ps vs x marks marks' = marks' ≡ marks
IsMarkedBy Monitor n ps vs x marks marks' = IsMarkedFor n ps vs x marks marks'

-- where the entries of monitoring are as asked, the pairs that count are marked by 0: the versions
-- looked up for them are those of all entries
abbrev pub AreMarkedBy : Kind → ℕ → List ℕ → List ℕ → Bool → List ℕ → Type 0
AreMarkedBy Search n ps vs asked marks = Unit {0}
AreMarkedBy Monitor n ps vs asked marks =
    AreMarks marks vs × (asked ≡ true → counted marks vs ≡ versions_asked (asked_by_monitoring n (map_of ps vs)))

-- ---- what is wanted of an entry

-- the ladder of a search; the versions of the pair that counts there
unfoldable pub wanted_by : Kind → List ℕ → ℕ → List ℕ → List ℕ → ℕ → List ℕ
wanted_by Search ladder n ps vs x = ladder
wanted_by Monitor ladder n ps vs x = shown_at n ps vs x

-- versions looked up are as asked, from those wanted
unfoldable pub fit_by : Kind → List ℕ → List ℕ → Bool
fit_by Search wanted shown = is_beginning wanted shown
fit_by Monitor wanted shown = same shown wanted
