-- `inputs::response_lines::is_lookup` meets its contract: the three forms are tried one after the
-- other.
use mathlib.Core.Path.{◌≡◌, refl, sym, ◌∙◌}
use mathlib.Core.Bool.{false≢true, true, false}
use Rattle.lists.specs.Choice.{is_some}
use Rattle.lines.specs.Number.{ascii}
use Rattle.lines.specs.Line.{read_line}
use Rattle.rules.specs.ResponseText.{in_form, no_form}
use Rattle.inputs.proofs.ResponseLineLaws.{lookup_given}
use Rattle.inputs.proofs.response_lines.is_lookup.Goals as goal
use Rattle.inputs.proofs.response_lines.is_lookup.Goals.{then-is_plain_lookup, else-is_plain_lookup}

pub returns-then-is_plain_lookup-2 : goal.returns-then-is_plain_lookup-2
unfolding ascii
returns-then-is_plain_lookup-2 c =
    let l = c.args.l.now in
    let t = c.if-is_plain_lookup-2.true in
    elim c.if-is_plain_lookup.branch [
      | then-is_plain_lookup w ↦
          let e : is_some (read_line in_form l) ≡ true = sym c.is_plain_lookup.ensures ∙ w.if-is_plain_lookup.true in
          t ∙ sym (lookup_given l ∙ rw e refl)
      | else-is_plain_lookup w ↦
          let e : is_some (read_line in_form l) ≡ false = sym c.is_plain_lookup.ensures ∙ w.if-is_plain_lookup.false in
          let f : is_some (read_line no_form l) ≡ true = sym w.is_plain_lookup-else-is_plain_lookup.ensures ∙ sym w.value-is ∙ t in
          t ∙ sym (lookup_given l ∙ rw (e, f) refl)
    ]

pub returns-else-is_plain_lookup-2 : goal.returns-else-is_plain_lookup-2
unfolding ascii
returns-else-is_plain_lookup-2 c =
    let l = c.args.l.now in
    let t = c.if-is_plain_lookup-2.false in
    elim c.if-is_plain_lookup.branch [
      | then-is_plain_lookup w ↦ absurd (false≢true (sym t ∙ w.value-is ∙ w.if-is_plain_lookup.true))
      | else-is_plain_lookup w ↦
          let e : is_some (read_line in_form l) ≡ false = sym c.is_plain_lookup.ensures ∙ w.if-is_plain_lookup.false in
          let f : is_some (read_line no_form l) ≡ false = sym w.is_plain_lookup-else-is_plain_lookup.ensures ∙ sym w.value-is ∙ t in
          c.is_leaf_lookup.ensures ∙ sym (lookup_given l ∙ rw (e, f) refl)
    ]
