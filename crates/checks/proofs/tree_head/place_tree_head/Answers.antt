-- `checks::tree_head::place_tree_head` meets its contract: where there is room from the offset on,
-- the text is written there.
use mathlib.Core.Path.{◌≡◌, sym, ◌∙◌}
use native.Mathlib.Omega.{arith}
use lib.ListN.{length, length-drop}
use Rattle.rules.specs.Configuration.{tree_head}
use Rattle.rules.specs.Limits.{hash_length}
use Rattle.rules.proofs.ConfigurationLaws.{head_length}
use Rattle.checks.specs.Calls.{length_in}
use Rattle.checks.proofs.TreeHeadWritingLaws.{placed-over, placed-fits}
use borrow.Author.Rules.{rules}
use Rattle.checks.proofs.tree_head.place_tree_head.Goals as goal

pub returns-then-buffer-offset : goal.returns-then-buffer-offset
unfolding length_in
returns-then-buffer-offset c =
    let a = c.args in
    let l : length a.root ≡ hash_length = search rules in
    let (n, o, w) =
    placed-over a.buffer.now a.offset (tree_head a.configuration.now a.tree_size a.root)
    (omega (arith, c.if-buffer-offset.true)) in
    record { answer = n; ok = o; bytes = w }

pub returns-then-room-length : goal.returns-then-room-length
unfolding length_in
returns-then-room-length c =
    let a = c.args in
    let l : length a.root ≡ hash_length = search rules in
    let (n, o, w) =
    placed-over a.buffer.now a.offset (tree_head a.configuration.now a.tree_size a.root)
    (omega (arith, head_length a.configuration.now a.tree_size a.root, l, c.if-room-length.true, c.if-buffer-offset.false, length-drop a.offset a.buffer.now)) in
    record { answer = n; ok = o; bytes = w }

pub put_tree_head-requires : goal.put_tree_head-requires
put_tree_head-requires c =
    let a = c.args in
    let l : length a.root ≡ hash_length = search rules in
    let r = c.if-room-length.false in
    omega (arith, head_length a.configuration.now a.tree_size a.root)

pub returns : goal.returns
unfolding length_in
returns c =
    let a = c.args in
    let l : length a.root ≡ hash_length = search rules in
    let h = head_length a.configuration.now a.tree_size a.root in
    let r = c.if-room-length.false in
    let (n, o, w) =
    placed-fits a.buffer.now a.offset (tree_head a.configuration.now a.tree_size a.root)
    (omega (arith, h, r, l, c.if-buffer-offset.false, length-drop a.offset a.buffer.now)) c.put_tree_head.ensures in
    record { answer = sym (omega (arith, h, l)) ∙ n; ok = o; bytes = w }
