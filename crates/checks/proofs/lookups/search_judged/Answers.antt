-- `checks::lookups::search_judged` meets its contract: the lookups are tried with what is known of
-- the call, and the entries must be short ones, then whole ones.
use mathlib.Core.Path.{◌≡◌, refl}
use mathlib.Core.Logic.{inl, inr}
use native.Mathlib.Omega.{arith}
use lib.ListN.{length}
use borrow.Author.Rules.{rules}
use Rattle.checks.proofs.JudgedCallLaws.{entries_ready, target_ready, HoldsLadder, ladder_held}
use Rattle.checks.proofs.JudgedCallLaws.{search-judged}
use Rattle.checks.proofs.lookups.search_judged.Goals as goal
use Rattle.checks.proofs.lookups.search_judged.Goals.{then-results, else-results}

pub commitment-requires : goal.commitment-requires
commitment-requires c =
    let (_, opening, value) =
    target_ready c.args.text.now c.args.call c.args.outputs.now c.requires.possible _ c.requires.finding in
    record { opening = rw c.of-opening.ensures opening; label = c.requires.label; value = rw c.of-value.ensures value }

pub shared_ref_as_front-sought : goal.shared_ref_as_front-sought
shared_ref_as_front-sought c =
    let held : HoldsLadder c.args.target.version c.of-whole.result.length c.of-whole.result.versions =
    ladder_held _ _ _ c.of-whole.ensures
    (target_ready c.args.text.now c.args.call c.args.outputs.now c.requires.possible _ c.requires.finding).0 in
    let l : length c.of-whole.result.versions ≡ 64 = search rules in
    omega (arith, held.1, l)

pub entries_judged-results-requires : goal.entries_judged-results-requires
entries_judged-results-requires c =
    let a = c.args in
    let (lines, loose, short) = entries_ready a.text.now a.call a.outputs.now c.requires.possible _ c.of-2.ensures in
    record { lines = lines; loose = loose; short = short }

pub returns : goal.returns
returns c =
    let a = c.args in
    let held : HoldsLadder a.target.version c.of-whole.result.length c.of-whole.result.versions =
    ladder_held _ _ _ c.of-whole.ensures
    (target_ready a.text.now a.call a.outputs.now c.requires.possible _ c.requires.finding).0 in
    search-judged a.text.now a.call a.label.now _ _ c.of-2.ensures c.of.ensures _ c.entries_judged-results.ensures
    _ c.requires.finding refl refl held.0 _ _ c.of-opening.ensures c.of-value.ensures c.commitment.ensures _
    (elim c.if-results.branch [
      | then-results w ↦ inl (w.if-results.true, w.first-is)
      | else-results w ↦ inr (w.if-results.false, w.first-is)
    ])
    _ c.first_refusal.ensures
