-- `inputs::response::role_from` meets its contract: the line at the offset has a role, or there is
-- no line.
use mathlib.Core.Path.{refl}
use borrow.Author.Rules.{rules}
use Rattle.inputs.specs.ResponseSections.{read_role, begins, role_of, role_from_of}
use Rattle.inputs.proofs.TextLineLaws.{from-given}
use Rattle.inputs.proofs.response.role_from.Goals as goal

pub returns : goal.returns
returns c =
    from-given (read_role c.args.sort) _ _ _ c.read_from.result c.read_from.ensures begins role_of role_from_of (λ l o k. search rules) refl (λ v. refl) refl
    (λ v n. refl)
