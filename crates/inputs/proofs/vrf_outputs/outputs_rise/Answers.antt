-- `inputs::vrf_outputs::outputs_rise` meets its contract: whole records are read where each version
-- is below the next.
use mathlib.Core.Path.{sym, ◌∙◌}
use lib.Dec.{ltb}
use Rattle.std.proofs.Common.{rules}
use Rattle.std.proofs.lemmas.List.Sorted.{answers_always}
use Rattle.inputs.proofs.VrfOutputLaws.{chunk_version, given_rises, given_broken, rise_by_pairs}
use Rattle.inputs.proofs.vrf_outputs.outputs_rise.Goals as goal

pub returns-then-rest-ne0 : goal.returns-then-rest-ne0
returns-then-rest-ne0 c =
    sym (given_broken c.args.outputs.now (λ e. c.if-rest-ne0.true (c.as_chunks.ensures.back_len ∙ e)))

pub returns : goal.returns
returns c =
    let s = c.args.outputs.now in
    let pairs = c.is_sorted_by.ensures.cases (λ x y. ltb (chunk_version x) (chunk_version y))
    (answers_always _ _ _ (λ f a r g called. search rules)) in
    rise_by_pairs s _ c.as_chunks.ensures.front c.as_chunks.ensures.front_len _ pairs
    ∙ sym (given_rises s (sym c.as_chunks.ensures.back_len ∙ c.if-rest-ne0.false))
