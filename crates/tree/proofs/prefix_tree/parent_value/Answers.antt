-- `tree::prefix_tree::parent_value` meets its contract: by the bit.
use mathlib.Core.Path.{ap, sym, ◌∙◌}
use native.Mathlib.Omega.{arith}
use Rattle.hash.specs.Sha256.{sha256}
use Rattle.tree.proofs.ClimbLaws.{parent_left, parent_right}
use Rattle.tree.proofs.prefix_tree.parent_value.Goals as goal

pub returns-then-bit-eq0 : goal.returns-then-bit-eq0
returns-then-bit-eq0 c =
    let s = c.args in
    c.digest_65.ensures ∙ ap sha256 (sym (parent_left s.bit s.value s.sibling (omega arith)))

pub returns-else-bit-eq0 : goal.returns-else-bit-eq0
returns-else-bit-eq0 c =
    let s = c.args in
    c.digest_65-else-bit-eq0.ensures ∙ ap sha256 (sym (parent_right s.bit s.value s.sibling (omega arith)))
