-- `checks::tree_head::is_tree_head` meets its contract: the configuration and the size are taken
-- off the front, and the root is left.
use Rattle.std.proofs.Common.{◌∙◌}
use Rattle.hash.proofs.BytesLaws.{be_bytes}
use Rattle.checks.proofs.TreeHeadLaws.{configuration-other, root-left, size-other}
use Rattle.checks.proofs.tree_head.is_tree_head.Goals as goal

pub returns-in_default : goal.returns-in_default
returns-in_default c = let a = c.args in configuration-other a.signed.now a.configuration.now a.tree_size a.root c.in_default.ensures.cases

pub returns-in-None : goal.returns-in-None
returns-in-None c =
    let a = c.args in
    let h = c.in-Some.ensures.cases in
    size-other a.signed.now a.configuration.now a.tree_size a.root h.0 h.1 (c.to_be_bytes.ensures ∙ be_bytes 8 a.tree_size) c.in-None.ensures.cases

pub returns-in-Some-strip_prefix : goal.returns-in-Some-strip_prefix
returns-in-Some-strip_prefix c =
    let a = c.args in
    let h = c.in-Some.ensures.cases in
    let k = c.in-Some-strip_prefix.ensures.cases in
    c.eq.ensures
    ∙ rw c.as_slice.ensures (root-left a.signed.now a.configuration.now a.tree_size a.root h.0 h.1 (c.to_be_bytes.ensures ∙ be_bytes 8 a.tree_size) k.1 k.0)
