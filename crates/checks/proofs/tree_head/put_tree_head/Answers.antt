-- `checks::tree_head::put_tree_head` meets its contract: the three parts of the text are put one
-- after the other.
use Rattle.std.proofs.Common.{◌∙◌}
use Rattle.hash.proofs.BytesLaws.{be_bytes}
use Rattle.checks.proofs.TreeHeadWritingLaws.{head_put}
use Rattle.checks.proofs.tree_head.put_tree_head.Goals as goal

pub returns : goal.returns
returns c =
    head_put _ _ _ _ c.requires (c.to_be_bytes-number.ensures ∙ be_bytes 8 c.args.tree_size) c.put_bytes.ensures.bytes c.put_bytes-2.ensures.bytes
    c.put_bytes-3.ensures.bytes
