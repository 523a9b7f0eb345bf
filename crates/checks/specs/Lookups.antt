-- What is known of the lookups of a response, from what they are tried with: for contracts of
-- private functions alone.
use Rattle.std.specs.Prelude.{◌≡◌, Bool, true, false, ◌&&◌, ℕ, ◌+◌, leb, length, take, drop}
use Rattle.std.specs.Prelude.{Some, None, Option as CodeOption, is_some as is_found, Ok, Err, Result as CodeResult}
use mathlib.Core.List.{List, [], ◌∷◌, ◌++◌, Memᴰ}
use Rattle.std.proofs.Math.Option.{some}
use Rattle.lists.specs.Choice.{choose}
use Rattle.lists.specs.Lists.{Bytes, all, any, first, same, begins}
use Rattle.lines.specs.Layout.{value_digits}
use Rattle.tree.specs.LogText.{value_in, values_in}
use Rattle.tree.specs.PrefixTree.{Terminal, searched_leaf, empty_place, foreign_leaf, lookup_root, terminal_fits}
use Rattle.rules.specs.VrfOutputs.{read_outputs, has_output}
use Rattle.rules.specs.Response.{Target, searched, monitored, Result, included, absent, other_leaf, Lookup}
use Rattle.rules.specs.Response.{Entry, is_included, step_versions}
use Rattle.rules.specs.Commitment.{commitment_to}
use Rattle.rules.specs.Search.{result_fits, is_complete, ends_early, early_then_complete}
use Rattle.rules.specs.Monitoring.{all_included}
use Rattle.rules.specs.Refusals.{Call, kind_rules, commitment_asked, lookup_passes, lookups_hold}
use Rattle.inputs.specs.declared.response_lines.Kind.{Kind}
use Rattle.inputs.specs.declared.response_lines.Kind.TheVariants.{Search, Monitor}
use Rattle.inputs.specs.declared.refusal.Refusal.{Refusal}
use Rattle.inputs.specs.declared.refusal.Refusal.TheVariants.{Lookup as LookupFails, Ladder as LadderFails}
use Rattle.checks.specs.declared.sought.Sought.{Sought}
use Rattle.checks.specs.declared.lookups.Summary.{Summary}
use Rattle.checks.specs.declared.lookups.Results.{Results}
use Rattle.checks.specs.Sections.{read_lookup}
use Rattle.checks.specs.Steps.{CommitmentsBy}
use Rattle.checks.specs.Entries.{versions_of}

-- ---- one lookup

-- whether what stands at its place fits its siblings, given by their digits, and leads to a prefix
-- root
unfoldable pub leads_to : Bytes → Terminal → Bytes → Bytes → Bool
leads_to output t root siblings =
    terminal_fits output t (length (values_in siblings))
    && same (lookup_root output t (values_in siblings)) root

-- the offset of the second of two values with a tab between them, and of what follows the tab after
-- it
abbrev pub second_value : ℕ
second_value = value_digits + 1

abbrev pub after_values : ℕ
after_values = second_value + value_digits + 1

-- the same of what follows the version in an `nl` line: output and commitment of the other leaf,
-- and the siblings
unfoldable pub leaf_reaches : Bytes → Bytes → Bytes → Bool
leaf_reaches output root s =
    choose (leb after_values (length s))
    (λ _.
    leads_to output
    (foreign_leaf (value_in (take value_digits s)) (value_in (take value_digits (drop second_value s)))) root
    (drop after_values s))
    (λ _. false)

-- what stands at its place, with the commitment of its version
unfoldable pub terminal_with : Bytes → Result → Terminal
terminal_with commitment included = searched_leaf commitment
terminal_with commitment absent = empty_place
terminal_with commitment (other_leaf output other) = foreign_leaf output other

-- whether it reaches a prefix root, from an output and a commitment of its version
unfoldable pub reaches : Bytes → Bytes → Bytes → Lookup → Bool
reaches output commitment root l =
    terminal_fits output (terminal_with commitment l.result) (length l.siblings)
    && same (lookup_root output (terminal_with commitment l.result) l.siblings) root

-- ---- what lookups are tried with

-- the kind of a call's response; of a search the version and its commitment
abbrev pub IsSoughtOf : Kind → Call → ℕ → Bytes → Type 0
IsSoughtOf Search c t committed =
    (target : Target) × (c.parts.finding ≡ searched target) × (target.version ≡ t)
    × (committed ≡ commitment_to target.opening c.parts.label target.value)
IsSoughtOf Monitor c t committed = c.parts.finding ≡ monitored

-- what lookups are tried with is that of a call
pub record TriedWith (c : Call) (s : Sought) : Type 0 where
  pub sought : IsSoughtOf s.kind c s.version s.commitment
  pub outputs : read_outputs s.outputs.now ≡ some c.outputs
  pub asked : all (commitment_asked (kind_rules c).is_committed) c.parts.steps ≡ true
  pub there : all (has_output c.outputs) (step_versions c.parts) ≡ true
  pub stand : CommitmentsBy s.steps.now c.outputs s.offsets.now c.parts.steps

-- the version looked up is one of the steps
abbrev pub IsStep : Call → Lookup → Type 0
IsStep c l = Memᴰ l.version (step_versions c.parts)

-- and so are all of some lookups
abbrev pub EachIsStep : Call → List Lookup → Type 0
EachIsStep c ls = (l : Lookup) → Memᴰ l ls → IsStep c l

-- whether a lookup line passes (rule 12)
abbrev pub Passes : Sought → Bytes → Bytes → Bool → Type 0
Passes s line root r =
    (c : Call) (l : Lookup) → TriedWith c s → read_lookup line ≡ some l → IsStep c l → r ≡ lookup_passes c root l

-- ---- the lookups of an entry

-- none so far, of an entry with a prefix root
unfoldable pub no_lookups : Bytes → Summary
no_lookups root =
    record {
      root = root;
      reached = true;
      count = 0;
      begin = true;
      fits = true;
      early = false;
      included = true;
    }

-- what is known of some
pub record IsSummary (s : Sought) (root' : Bytes) (ls : List Lookup) (x : Summary) : Type 0 where
  pub root : x.root ≡ root'
  pub reached : (c : Call) → TriedWith c s → EachIsStep c ls → x.reached ≡ all (lookup_passes c root') ls
  pub count : x.count ≡ length ls
  pub begin : x.begin ≡ begins (versions_of ls) s.ladder.now
  pub fits : x.fits ≡ all (result_fits s.version) ls
  pub early : x.early ≡ ends_early s.version ls
  pub included : x.included ≡ all (λ (l : Lookup). is_included l.result) ls

-- the same with one more, that a line says
abbrev pub IsNextSummary : Sought → Bytes → Summary → Summary → Type 0
IsNextSummary s line x y =
    (root : Bytes) (ls : List Lookup) (l : Lookup) → IsSummary s root ls x → read_lookup line ≡ some l
    → IsSummary s root (ls ++ l ∷ []) y

-- ---- the entries

-- none so far
unfoldable pub no_entries : Results
no_entries = record { reached = true; first = None; fits = true; included = true }

-- whether they are as a search asks so far, once there is a complete one, and before
unfoldable pub fit_so_far : List ℕ → ℕ → Bool → List Entry → Bool
fit_so_far ladder t true es = early_then_complete ladder t es
fit_so_far ladder t false es = all (λ (e : Entry). ends_early t e.lookups) es

-- all versions looked up in them are those of steps
abbrev pub AllSteps : Call → List Entry → Type 0
AllSteps c es = (e : Entry) → Memᴰ e es → EachIsStep c e.lookups

-- what is known of some
pub record AreResults (s : Sought) (es : List Entry) (x : Results) : Type 0 where
  pub reached : (c : Call) → TriedWith c s → AllSteps c es → x.reached ≡ all (lookups_hold c) es
  pub found : is_found x.first ≡ any (is_complete s.ladder.now s.version) es
  pub fits : x.fits ≡ fit_so_far s.ladder.now s.version (is_found x.first) es
  pub position : (p : ℕ) → x.first ≡ Some p
      → (e : Entry) × (first (is_complete s.ladder.now s.version) es ≡ some e) × (p ≡ e.position)
  pub included : x.included ≡ all_included es

-- the same with one more at a position, whose lookups are summed up, of whose ladder so many
-- versions are wanted
abbrev pub AreNextResults : ℕ → Summary → ℕ → Results → Results → Type 0
AreNextResults position entry wanted x y =
    (s : Sought) (es : List Entry) (e : Entry) → AreResults s es x → wanted ≡ length s.ladder.now
    → position ≡ e.position → IsSummary s e.prefix_root e.lookups entry → AreResults s (es ++ e ∷ []) y

-- ---- 12 and 13

-- from whether the lookups reach their roots, and the position that they show, if they show what
-- they must
unfoldable pub judged_by : Bool → CodeOption ℕ → CodeResult ℕ Refusal
judged_by false shown = Err LookupFails
judged_by true None = Err LadderFails
judged_by true (Some position) = Ok position
