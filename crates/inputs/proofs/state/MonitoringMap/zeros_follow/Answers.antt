-- `inputs::state::MonitoringMap::zeros_follow` meets its contract: the positions decide, and else
-- the versions.
use mathlib.Core.Path.{refl, sym, ◌∙◌}
use Prim.Native.Nat.{ℕ}
use lib.Dec.{eqb}
use Rattle.std.proofs.Common.{rules}
use Rattle.std.proofs.lemmas.Iterator.{YieldsList-from_slice}
use Rattle.std.proofs.lemmas.Iterator.Adapters.{YieldsList-from_skip}
use Rattle.std.proofs.lemmas.Iterator.Search.{all_from_yields_List}
use borrow.Author.Tests.{tests}
use Rattle.inputs.proofs.RoomLaws.{zeros_tested}
use Rattle.inputs.proofs.state.MonitoringMap.zeros_follow.Goals as goal

pub returns-then-not-all : goal.returns-then-not-all
returns-then-not-all c =
    let m = c.args.self in
    let p =
    zeros_tested m.count m.positions c.all.result
    (all_from_yields_List (λ (x : ℕ). eqb x 0) _ _ c.all.result c.all.ensures.ran
    (YieldsList-from_skip _ (YieldsList-from_slice m.positions cc) cc) (λ x b q k. search (rules, tests))) in
    rw (sym p ∙ c.if-not-all.true) refl

pub returns : goal.returns
returns c =
    let m = c.args.self in
    let p =
    zeros_tested m.count m.positions c.all.result
    (all_from_yields_List (λ (x : ℕ). eqb x 0) _ _ c.all.result c.all.ensures.ran
    (YieldsList-from_skip _ (YieldsList-from_slice m.positions cc) cc) (λ x b q k. search (rules, tests))) in
    rw (sym p ∙ c.if-not-all.false)
    (zeros_tested m.count m.versions c.all-2.result
    (all_from_yields_List (λ (x : ℕ). eqb x 0) _ _ c.all-2.result c.all-2.ensures.ran
    (YieldsList-from_skip _ (YieldsList-from_slice m.versions cc) cc) (λ x b q k. search (rules, tests))))
