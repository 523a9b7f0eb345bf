-- `inputs::response_lines::is_entry` meets its contract: the line is its word, two numbers and a
-- hash.
use mathlib.Core.Path.{◌≡◌, sym, ◌∙◌, ap}
use mathlib.Core.List.{[], ◌∷◌}
use Prim.Native.Nat.{ℕ}
use lib.Dec.{eqb}
use borrow.Author.Rules.{rules}
use Rattle.std.proofs.lemmas.Option.{MatchOption-at_none}
use Rattle.lists.specs.Choice.{is_some}
use Rattle.lists.proofs.ChoiceLaws.{none_given}
use Rattle.lines.specs.Number.{ascii, read_number}
use Rattle.lines.specs.Field.{number, exactly, read_fields}
use Rattle.lines.specs.Cursor.{fields_from, read_at}
use Rattle.lines.specs.Readings.{read_of}
use Rattle.lines.proofs.FormLaws.{read-number-on, field_off, field-given}
use Rattle.rules.specs.Limits.{number_bound, hash_length}
use Rattle.rules.specs.ResponseText.{read_entry_line}
use Rattle.inputs.proofs.MatchLaws.{matched}
use Rattle.inputs.proofs.ResponseLineLaws.{number-off, number-given, last-judged, entry_given}
use Rattle.inputs.proofs.response_lines.is_entry.Goals as goal

pub returns : goal.returns
unfolding ascii
returns c =
    let l = c.args.l.now in
    let e = sym c.number_after.ensures in
    let rest = exactly hash_length ∷ [] in
    matched _ _ _ _ c.and_then.ensures
    (λ i n.
    MatchOption-at_none _ _ (MatchOption-at_none _ _ n c.and_then-2.ensures) c.is_some_and.ensures
    ∙ sym (entry_given l ∙ none_given _ (number-off l _ _ (number number_bound ∷ rest) (e ∙ ap read_of i))))
    (λ (v, next) i k.
    let f : read_of c.and_then.result ≡ read_at (read_number number_bound) l next.at = search rules in
    let g : is_some (read_entry_line l) ≡ is_some (read_fields (number number_bound ∷ rest) (fields_from l next.at)) =
    entry_given l ∙ number-given l _ _ (number number_bound ∷ rest) v next.at (e ∙ ap read_of i) in
    matched _ _ _ _ c.and_then-2.ensures
    (λ j n.
    MatchOption-at_none _ _ n c.is_some_and.ensures
    ∙ sym (g ∙ none_given _ (field_off l (number number_bound) rest next.at (read-number-on l _ _ ∙ sym f ∙ ap read_of j))))
    (λ (t, after) j p.
    last-judged l (λ (n : ℕ). eqb n hash_length) after.at c.and_then-2.result (search rules) _ _ c.is_some_and.ensures (λ n q h. search rules)
    ∙ sym (g ∙ field-given l (number number_bound) rest next.at t after.at (read-number-on l _ _ ∙ sym f ∙ ap read_of j))))
