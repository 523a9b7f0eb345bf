-- `tree::log_text::value_at` meets its contract: the digits are there, or zeros are the value.
use mathlib.Core.Path.{◌≡◌, sym, ◌∙◌, ap}
use mathlib.Core.Logic.{⊎_elim}
use Prim.Native.Nat.{◌+◌, ◌<◌}
use native.Mathlib.Omega.{arith}
use lib.ListN.{length, take, drop}
use Rattle.std.proofs.lemmas.Slice.{between_to_end, between_from_start}
use Rattle.lists.specs.Choice.{option_of}
use Rattle.lines.specs.Layout.{value_digits}
use Rattle.tree.specs.LogTree.{zeros}
use Rattle.tree.specs.LogText.{value_in}
use Rattle.tree.proofs.LogTextLaws.{unwrapped, value_read, value_short}
use Rattle.tree.proofs.log_text.value_at.Goals as goal

pub returns-in_default : goal.returns-in_default
unfolding zeros
returns-in_default c =
    let a = c.args in
    let h : length a.s.now < a.at + value_digits = ⊎_elim (λ l. omega arith) (λ l. omega arith) c.in_default.ensures.lookup.0 in
    sym (value_short a.s.now a.at h)

pub returns-in_default-get : goal.returns-in_default-get
unfolding zeros
returns-in_default-get c =
    let a = c.args in
    let (_, _, _, n) = c.in-Some.ensures.lookup.0 in
    let h : length a.s.now < a.at + value_digits = ⊎_elim (λ l. omega arith) (λ l. omega (arith, n)) c.in_default-get.ensures.lookup.0 in
    sym (value_short a.s.now a.at h)

pub returns : goal.returns
unfolding zeros
returns c =
    let a = c.args in
    let (_, _, e, _) = c.in-Some.ensures.lookup.0 in
    let (_, _, f, _) = c.in-Some-get.ensures.lookup.0 in
    let d : c.in-Some-get.digits.now ≡ take value_digits (drop a.at a.s.now) =
    f ∙ between_from_start c.in-Some.rest.now value_digits
    ∙ ap (take value_digits) (e ∙ between_to_end a.s.now a.at (length a.s.now) (omega arith)) in
    c.unwrap_or.ensures ∙ unwrapped c.read_digest.result zeros
    ∙ sym (value_read c.in-Some-get.digits.now (option_of c.read_digest.result) c.read_digest.ensures) ∙ ap value_in d
