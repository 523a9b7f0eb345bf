-- `inputs::response_lines::is_plain_lookup` meets its contract: the line is the word, a version and
-- siblings.
use mathlib.Core.Path.{◌≡◌, sym, ◌∙◌, ap}
use mathlib.Core.List.{[], ◌∷◌}
use borrow.Author.Rules.{rules}
use Rattle.lists.specs.Choice.{is_some}
use Rattle.lists.proofs.ChoiceLaws.{none_given}
use Rattle.lines.specs.Field.{read_fields}
use Rattle.lines.specs.Cursor.{fields_from}
use Rattle.lines.specs.Readings.{read_of}
use Rattle.rules.specs.ResponseText.{siblings_field}
use Rattle.inputs.proofs.MatchLaws.{matched}
use Rattle.inputs.proofs.ResponseLineLaws.{number-off, number-given}
use Rattle.inputs.proofs.response_lines.is_plain_lookup.Goals as goal

pub returns : goal.returns
returns c =
    let l = c.args.l.now in
    let e = sym c.number_after.ensures in
    matched _ _ _ _ c.is_some_and.ensures
    (λ i n. n ∙ sym (none_given _ (number-off l _ _ (siblings_field ∷ []) (e ∙ ap read_of i))))
    (λ (v, next) i k.
    let q : c.is_some_and.result ≡ is_some (read_fields (siblings_field ∷ []) (fields_from l next.at)) = search rules in
    q ∙ sym (number-given l _ _ (siblings_field ∷ []) v next.at (e ∙ ap read_of i)))
