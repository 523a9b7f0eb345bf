-- `inputs::response::section_from` meets its contract: the lines passed so far all belong to the
-- section, and are counted.
use mathlib.Core.Path.{◌≡◌, sym, ◌∙◌, ap}
use mathlib.Core.Bool.{Bool, true, false}
use mathlib.Core.Option.{some}
use native.Mathlib.Omega.{arith}
use borrow.Author.Rules.{rules}
use Rattle.inputs.specs.ResponseSections.{begins}
use Rattle.inputs.proofs.TextLineLaws.{from-was}
use Rattle.inputs.proofs.ResponseSectionLaws.{running-start, running-begins, running-continues, running-ends}
use Rattle.inputs.proofs.response.section_from.Goals as goal

pub loop-role-init : goal.loop-role-init
loop-role-init c = let a = c.args in record { within = omega arith; few = omega arith; running = running-start a.sort a.text.now a.from c.requires }

pub loop-role-smaller-then-eq : goal.loop-role-smaller-then-eq
loop-role-smaller-then-eq c = let h = (from-was _ _ _ _ _ (sym c.in-Some.ensures)).here in omega arith

pub loop-role-preserved-then-eq : goal.loop-role-preserved-then-eq
loop-role-preserved-then-eq c =
    let h = (from-was _ _ _ _ _ (sym c.in-Some.ensures)).here in
    let b : begins c.in-Some.role ≡ true = search rules in
    record {
      within = omega arith;
      few = omega arith;
      running = running-begins _ _ _ _ _ c.loop-role.invariant.running _ (sym c.in-Some.ensures ∙ ap (λ (t : Bool). some (t, c.in-Some.next)) b);
    }

pub loop-role-smaller : goal.loop-role-smaller
loop-role-smaller c = let h = (from-was _ _ _ _ _ (sym c.in-Some.ensures)).here in omega arith

pub loop-role-preserved : goal.loop-role-preserved
loop-role-preserved c =
    let h = (from-was _ _ _ _ _ (sym c.in-Some.ensures)).here in
    let b : begins c.in-Some.role ≡ false = search rules in
    record {
      within = omega arith;
      few = omega arith;
      running = running-continues _ _ _ _ _ c.loop-role.invariant.running _ (sym c.in-Some.ensures ∙ ap (λ (t : Bool). some (t, c.in-Some.next)) b);
    }

pub returns : goal.returns
returns c = running-ends _ _ _ _ _ c.loop-role.invariant.running (sym c.in_default.ensures)
