-- `checks::signed_text::signed_text` meets its contract: what is given is tried, and the text is
-- placed.
use mathlib.Core.Path.{◌≡◌}
use mathlib.Core.List.{[]}
use borrow.Author.Rules.{rules}
use Rattle.std.specs.Prelude.{Err}
use Rattle.checks.proofs.SignedTextLaws.{text-refused, text-placed}
use Rattle.checks.proofs.signed_text.signed_text.Goals as goal

pub try_1_to_14-requires : goal.try_1_to_14-requires
try_1_to_14-requires c =
    record {
      label_room = search rules;
      values_room = search rules;
      positions_room = search rules;
      versions_room = search rules;
    }

pub returns-in_err-passed : goal.returns-in_err-passed
returns-in_err-passed c =
    let a = c.args in
    let e : c.from_residual.result ≡ Err c.in_err-passed.field-0.0 = search rules in
    let (n, o, w) =
    text-refused a.asked a.response.now a.configuration.now a.state a.identifier.now a.clock a.outputs.now
    a.buffer.now a.offset [] _ c.in_err-passed.ensures in
    rw e (record { answer = n; ok = o; bytes = w })

pub returns : goal.returns
returns c =
    let a = c.args in
    let p = c.place_tree_head.ensures in
    let (n, o, w) =
    text-placed a.asked a.response.now a.configuration.now a.state a.identifier.now a.clock a.outputs.now
    a.buffer.now a.offset _ _ c.in_ok-passed.ensures _ _ p.answer p.ok p.bytes in
    record { answer = n; ok = o; bytes = w }
