-- `inputs::response_lines::is_step` meets its contract: the line is its word, a version and a hash
-- or nothing.
use mathlib.Core.Path.{sym, ◌∙◌, ap}
use mathlib.Core.Bool.{◌||◌}
use mathlib.Core.List.{[], ◌∷◌}
use Prim.Native.Nat.{ℕ}
use lib.Dec.{eqb}
use borrow.Author.Rules.{rules}
use Rattle.std.proofs.lemmas.Option.{MatchOption-at_none}
use Rattle.lists.proofs.ChoiceLaws.{none_given}
use Rattle.lines.specs.Number.{ascii}
use Rattle.lines.specs.Readings.{read_of}
use Rattle.rules.specs.Limits.{hash_length}
use Rattle.rules.specs.ResponseText.{commitment_field}
use Rattle.inputs.proofs.MatchLaws.{matched}
use Rattle.inputs.proofs.ResponseLineLaws.{number-off, number-given, last-judged, step_given}
use Rattle.inputs.proofs.response_lines.is_step.Goals as goal

pub returns : goal.returns
unfolding ascii
returns c =
    let l = c.args.l.now in
    let e = sym c.number_after.ensures in
    matched _ _ _ _ c.and_then.ensures
    (λ i n. MatchOption-at_none _ _ n c.is_some_and.ensures ∙ sym (step_given l ∙ none_given _ (number-off l _ _ (commitment_field ∷ []) (e ∙ ap read_of i))))
    (λ (v, next) i k.
    last-judged l (λ (n : ℕ). eqb n 0 || eqb n hash_length) next.at c.and_then.result (search rules) _ _ c.is_some_and.ensures (λ n p q. search rules)
    ∙ sym (step_given l ∙ number-given l _ _ (commitment_field ∷ []) v next.at (e ∙ ap read_of i)))
