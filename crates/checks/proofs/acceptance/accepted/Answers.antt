-- `checks::acceptance::accepted` meets its contract: 16 where the map or the output bytes lack
-- room, and else the new state and the value.
use mathlib.Core.Path.{◌≡◌}
use Rattle.std.specs.Prelude.{Err}
use Rattle.checks.proofs.StateStructLaws.{valid_struct}
use Rattle.checks.proofs.AcceptLaws.{map-full, output-full, both-fit}
use borrow.Author.Rules.{rules}
use Rattle.checks.proofs.acceptance.accepted.Goals as goal

pub new_map-requires : goal.new_map-requires
new_map-requires c =
    (valid_struct c.args.state.now c.requires.sized c.requires.valid).is_map

pub returns-in_default : goal.returns-in_default
returns-in_default c =
    let it = map-full _ _ _ _ _ (valid_struct c.args.state.now c.requires.sized c.requires.valid) _ c.in_default.ensures in
    record { answer = it.0; bytes = it.1 }

pub returns-in_err-found : goal.returns-in_err-found
returns-in_err-found c =
    let e : c.from_residual.result ≡ Err c.in_err-found.field-0.0 = search rules in
    let p = c.in_err-found.ensures in
    let it =
    output-full _ _ _ _ _ (valid_struct c.args.state.now c.requires.sized c.requires.valid) _ _ p.bytes _ p.found in
    rw e (record { answer = it.0; bytes = it.1 })

pub returns : goal.returns
returns c =
    let p = c.in_ok-found.ensures in
    let it =
    both-fit _ _ _ _ _ (valid_struct c.args.state.now c.requires.sized c.requires.valid) _ _ p.bytes
    _ c.in-Some.ensures _ p.found in
    record { answer = it.0; bytes = it.1 }
