-- `inputs::response_lines::is_node` meets its contract: the line is its word and a hash.
use mathlib.Core.Path.{sym, ◌∙◌, ap}
use mathlib.Core.List.{[], ◌∷◌}
use Prim.Native.Nat.{ℕ}
use lib.Dec.{eqb}
use borrow.Author.Rules.{rules}
use Rattle.std.proofs.lemmas.Option.{MatchOption-at_none}
use Rattle.lists.specs.Choice.{is_some}
use Rattle.lists.proofs.ChoiceLaws.{none_given}
use Rattle.lines.specs.Number.{ascii}
use Rattle.lines.specs.Field.{exactly}
use Rattle.lines.specs.Readings.{next_of}
use Rattle.lines.proofs.FormLaws.{line_on, line-off}
use Rattle.rules.specs.Limits.{hash_length}
use Rattle.inputs.proofs.MatchLaws.{matched}
use Rattle.inputs.proofs.ResponseLineLaws.{last-judged, node_given}
use Rattle.inputs.proofs.response_lines.is_node.Goals as goal

pub returns : goal.returns
unfolding ascii
returns c =
    let l = c.args.l.now in
    matched _ _ _ _ c.and_then.ensures
    (λ i n. MatchOption-at_none _ _ n c.is_some_and.ensures ∙ sym (node_given l ∙ none_given _ (line-off l _ (exactly hash_length ∷ []) (sym c.after_word.ensures ∙ ap next_of i))))
    (λ next i k.
    last-judged l (λ (n : ℕ). eqb n hash_length) next.at c.and_then.result (search rules) _ _ c.is_some_and.ensures (λ n p q. search rules)
    ∙ sym (node_given l ∙ ap is_some (line_on l _ (exactly hash_length ∷ []) next.at (sym c.after_word.ensures ∙ ap next_of i))))
