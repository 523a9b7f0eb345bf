-- `inputs::response::is_loose` meets its contract: a lookup follows no entry where the first line
-- of the entries is one.
use mathlib.Core.Path.{◌≡◌, sym, ◌∙◌, ap}
use mathlib.Core.Bool.{not}
use borrow.Author.Rules.{rules}
use Rattle.inputs.specs.ResponseSections.{begins, role_from_of}
use Rattle.inputs.proofs.MatchLaws.{matched}
use Rattle.inputs.proofs.ResponseSectionLaws.{loose-line, loose_none}
use Rattle.inputs.proofs.response.is_loose.Goals as goal

pub returns : goal.returns
returns c =
    let e = sym c.role_from.ensures in
    matched _ _ _ _ c.is_some_and.ensures
    (λ i n. n ∙ sym (loose_none _ _ (e ∙ ap role_from_of i)))
    (λ (role, next) i k.
    let q : c.is_some_and.result ≡ not (begins role) = search rules in
    q ∙ sym (loose-line _ _ (begins role) next (e ∙ ap role_from_of i)))
