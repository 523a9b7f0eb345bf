-- `inputs::state_reader::size_line` meets its contract: the word, the size and the time are read
-- one after the other, and then the label.
use mathlib.Core.Path.{sym, ◌∙◌, ap}
use mathlib.Core.Option.{map}
use Rattle.lines.specs.Number.{ascii}
use Rattle.inputs.specs.StateReader.{size_read}
use Rattle.inputs.proofs.StateLineLaws.{size-no-word, size-no-size, size-no-timestamp, size-labelled}
use Rattle.inputs.proofs.StateLineLaws.{size-unlabelled, size-whole}
use Rattle.inputs.proofs.state_reader.size_line.Goals as goal

pub returns-in_err-at_size : goal.returns-in_err-at_size
unfolding ascii
returns-in_err-at_size c = rw c.from_residual.ensures (sym (ap (map size_read) (size-no-word _ (sym c.in_err-at_size.ensures))))

pub returns-in_err-size : goal.returns-in_err-size
unfolding ascii
returns-in_err-size c =
    rw c.from_residual-in_err-size.ensures (sym (ap (map size_read) (size-no-size _ _ (sym c.in_ok-at_size.ensures) (sym c.in_err-size.ensures))))

pub returns-in_err-timestamp : goal.returns-in_err-timestamp
unfolding ascii
returns-in_err-timestamp c =
    let e = sym c.in_ok-at_size.ensures in
    rw c.from_residual-in_err-timestamp.ensures
    (sym (ap (map size_read) (size-no-timestamp _ _ e _ _ (sym c.in_ok-size.ensures) (sym c.in_err-timestamp.ensures))))

pub returns-in_err-label : goal.returns-in_err-label
unfolding ascii
returns-in_err-label c =
    let e = size-labelled _ _ (sym c.in_ok-at_size.ensures) _ _ (sym c.in_ok-size.ensures) _ _ (sym c.in_ok-timestamp.ensures) in
    rw c.from_residual-in_err-label.ensures (size-unlabelled _ _ _ c.in_err-label.ensures ∙ sym (ap (map size_read) e))

pub returns : goal.returns
unfolding ascii
returns c =
    let e = size-labelled _ _ (sym c.in_ok-at_size.ensures) _ _ (sym c.in_ok-size.ensures) _ _ (sym c.in_ok-timestamp.ensures) in
    size-whole _ _ _ _ c.in_ok-label.ensures ∙ sym (ap (map size_read) e)
