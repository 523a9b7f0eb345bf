-- `inputs::response_lines::is_leaf_lookup` meets its contract: the line is its word, a version, a
-- VRF output, a commitment and siblings.
use mathlib.Core.Path.{◌≡◌, sym, ◌∙◌, ap}
use mathlib.Core.List.{[], ◌∷◌}
use borrow.Author.Rules.{rules}
use Rattle.std.proofs.lemmas.Option.{MatchOption-at_none}
use Rattle.lists.specs.Choice.{is_some}
use Rattle.lists.proofs.ChoiceLaws.{none_given}
use Rattle.lines.specs.Number.{ascii}
use Rattle.lines.specs.Field.{exactly, read_field, read_fields}
use Rattle.lines.specs.Line.{read_line}
use Rattle.lines.specs.Cursor.{fields_from, read_at}
use Rattle.lines.specs.Readings.{read_of}
use Rattle.lines.proofs.FormLaws.{field_off, field-given}
use Rattle.rules.specs.Limits.{vrf_output_length, hash_length}
use Rattle.rules.specs.ResponseText.{siblings_field, nl_form}
use Rattle.inputs.specs.ResponseLines.{next_part_of}
use Rattle.inputs.proofs.MatchLaws.{matched}
use Rattle.inputs.proofs.ResponseLineLaws.{number-off, number-given}
use Rattle.inputs.proofs.response_lines.is_leaf_lookup.Goals as goal

pub returns : goal.returns
unfolding ascii
returns c =
    let l = c.args.l.now in
    let e = sym c.number_after.ensures in
    let rest = siblings_field ∷ [] in
    let more = exactly hash_length ∷ rest in
    matched _ _ _ _ c.and_then.ensures
    (λ i n.
    MatchOption-at_none _ _ (MatchOption-at_none _ _ n c.and_then-2.ensures) c.is_some_and.ensures
    ∙ sym (none_given _ (number-off l _ _ (exactly vrf_output_length ∷ more) (e ∙ ap read_of i))))
    (λ (v, next) i k.
    let f : next_part_of l c.and_then.result ≡ read_at (read_field (exactly vrf_output_length)) l next.at = search rules in
    let g : is_some (read_line nl_form l) ≡ is_some (read_fields (exactly vrf_output_length ∷ more) (fields_from l next.at)) =
    number-given l _ _ (exactly vrf_output_length ∷ more) v next.at (e ∙ ap read_of i) in
    matched _ _ _ _ c.and_then-2.ensures
    (λ j n.
    MatchOption-at_none _ _ n c.is_some_and.ensures
    ∙ sym (g ∙ none_given _ (field_off l (exactly vrf_output_length) more next.at (sym f ∙ ap (next_part_of l) j))))
    (λ (o, after) j p.
    let h : next_part_of l c.and_then-2.result ≡ read_at (read_field (exactly hash_length)) l after.at = search rules in
    let d : is_some (read_line nl_form l) ≡ is_some (read_fields more (fields_from l after.at)) =
    g ∙ field-given l (exactly vrf_output_length) more next.at _ after.at (sym f ∙ ap (next_part_of l) j) in
    matched _ _ _ _ c.is_some_and.ensures
    (λ b n. n ∙ sym (d ∙ none_given _ (field_off l (exactly hash_length) rest after.at (sym h ∙ ap (next_part_of l) b))))
    (λ (s, last) b q.
    let r : c.is_some_and.result ≡ is_some (read_fields rest (fields_from l last.at)) = search rules in
    r ∙ sym (d ∙ field-given l (exactly hash_length) rest after.at _ last.at (sym h ∙ ap (next_part_of l) b)))))
