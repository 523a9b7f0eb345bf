-- `checks::search::search_asked` meets its contract: what is asked of a search, section by section.
use mathlib.Core.Path.{◌≡◌, refl, ◌∙◌}
use native.Mathlib.Omega.{arith}
use lib.ListN.{take}
use Rattle.hash.proofs.BytesLaws.{filled_front, part_count}
use Rattle.tree.specs.Ladder.{ladder}
use Rattle.tree.proofs.LadderFillLaws.{within_some}
use Rattle.checks.proofs.ShapeLaws.{part_short, target_version, no_pairs, search-not, search-unasked, search-shape}
use Rattle.checks.proofs.search.search_asked.Goals as goal

pub slice_bounds-ladder-end : goal.slice_bounds-ladder-end
slice_bounds-ladder-end c = (filled_front _ _ _ _ c.of-whole.ensures).1

pub slice_bounds-entries_asked-end : goal.slice_bounds-entries_asked-end
slice_bounds-entries_asked-end c = part_count _ _ (filled_front _ _ _ _ c.of-whole.ensures).1

pub entries_asked-requires-clause-short : goal.entries_asked-requires-clause-short
entries_asked-requires-clause-short c =
    rw c.of.ensures
    (part_short c.args.text.now c.args.call.response.entries.part _ c.requires.possible.triable.short)

pub entries_asked-requires-clause-pairs : goal.entries_asked-requires-clause-pairs
entries_asked-requires-clause-pairs c = (no_pairs, refl)

pub returns-in_err-timestamps : goal.returns-in_err-timestamps
returns-in_err-timestamps c =
    let wanted : take c.of-whole.result.length c.of-whole.result.versions ≡ ladder c.args.target.version =
    let v0 = target_version _ _ _ c.requires.finding c.requires.possible.triable.target in
    (filled_front _ _ _ _ c.of-whole.ensures).0 ∙ within_some c.args.target.version (omega (arith, v0)) in
    rw c.from_residual.ensures
    (λ call i m. search-not i _ c.requires.finding refl c.of.ensures c.args.commitments.now _ wanted
    c.in_err-timestamps.ensures.asked refl)

pub slice_bounds-ladder-end-2 : goal.slice_bounds-ladder-end-2
slice_bounds-ladder-end-2 c = (filled_front _ _ _ _ c.of-whole.ensures).1

pub slice_bounds-search_steps-end : goal.slice_bounds-search_steps-end
slice_bounds-search_steps-end c = part_count _ _ (filled_front _ _ _ _ c.of-whole.ensures).1

pub search_steps-requires-clause-short : goal.search_steps-requires-clause-short
search_steps-requires-clause-short c =
    rw c.of-2.ensures
    (part_short c.args.text.now c.args.call.response.steps.part _ c.requires.possible.triable.short)

pub search_steps-requires-clause-ladder : goal.search_steps-requires-clause-ladder
search_steps-requires-clause-ladder c =
    let v0 = target_version _ _ _ c.requires.finding c.requires.possible.triable.target in
    (filled_front _ _ _ _ c.of-whole.ensures).0 ∙ within_some c.args.target.version (omega (arith, v0))

pub returns-in_err-outputs : goal.returns-in_err-outputs
returns-in_err-outputs c =
    let wanted : take c.of-whole.result.length c.of-whole.result.versions ≡ ladder c.args.target.version =
    let v0 = target_version _ _ _ c.requires.finding c.requires.possible.triable.target in
    (filled_front _ _ _ _ c.of-whole.ensures).0 ∙ within_some c.args.target.version (omega (arith, v0)) in
    rw c.from_residual-in_err-outputs.ensures
    (λ call i m.
    search-unasked i _ c.requires.finding c.of-2.ensures c.of.ensures c.args.commitments.now _ wanted
    c.in_ok-timestamps.ensures.asked refl c.in_err-outputs.ensures)

pub returns : goal.returns
returns c =
    let wanted : take c.of-whole.result.length c.of-whole.result.versions ≡ ladder c.args.target.version =
    let v0 = target_version _ _ _ c.requires.finding c.requires.possible.triable.target in
    (filled_front _ _ _ _ c.of-whole.ensures).0 ∙ within_some c.args.target.version (omega (arith, v0)) in
    λ call i m.
    search-shape i _ c.requires.finding c.of-2.ensures c.of.ensures _ _ wanted c.in_ok-timestamps.ensures.asked refl
    (record { outputs = c.in_ok-outputs.outputs; timestamps = c.in_ok-timestamps.timestamps })
    c.in_ok-outputs.ensures c.in_ok-timestamps.ensures.timestamps
