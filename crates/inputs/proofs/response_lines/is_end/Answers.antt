-- `inputs::response_lines::is_end` meets its contract: the line is its word.
use mathlib.Core.Path.{◌≡◌, sym, ◌∙◌, ap}
use mathlib.Core.List.{[]}
use borrow.Author.Rules.{rules}
use lib.Dec.{ltb}
use lib.ListN.{length}
use Rattle.lists.specs.Choice.{is_some}
use Rattle.lists.proofs.ChoiceLaws.{given_provided, none_given}
use Rattle.lines.specs.Number.{ascii}
use Rattle.lines.specs.Readings.{next_of}
use Rattle.lines.proofs.FormLaws.{read-ended, line_on, line-off}
use Rattle.inputs.proofs.MatchLaws.{matched}
use Rattle.inputs.proofs.response_lines.is_end.Goals as goal

pub returns : goal.returns
unfolding ascii
returns c =
    let l = c.args.l.now in
    matched _ _ _ _ c.is_some_and.ensures
    (λ i n. n ∙ sym (none_given _ (line-off l _ [] (sym c.after_word.ensures ∙ ap next_of i))))
    (λ next i k.
    let q : c.is_some_and.result ≡ ltb (length l) next.at = search rules in
    q ∙ sym (ap is_some (line_on l _ [] next.at (sym c.after_word.ensures ∙ ap next_of i) ∙ read-ended l next.at) ∙ given_provided _ _))
