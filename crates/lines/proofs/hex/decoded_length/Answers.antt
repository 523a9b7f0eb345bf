-- `lines::hex::decoded_length` meets its contract: what was tested is whether all bytes are digits.
use mathlib.Core.Path.{◌≡◌, sym, ◌∙◌}
use mathlib.Core.Bool.{true, false}
use Rattle.lists.specs.Lists.{all}
use Rattle.std.proofs.Common.{rules}
use Rattle.std.proofs.lemmas.Iterator.{YieldsList-from_slice}
use Rattle.std.proofs.lemmas.Iterator.Search.{all_from_yields_List}
use Rattle.lines.specs.Hex.{is_hex_digit}
use Rattle.lines.proofs.HexLengthLaws.{all_listed, length_rules}
use Rattle.lines.proofs.hex.decoded_length.Goals as goal

pub returns-then-not-all : goal.returns-then-not-all
returns-then-not-all c =
    let s = c.args.s.now in
    let it = all_from_yields_List is_hex_digit _ _ _ c.all.ensures.ran (YieldsList-from_slice s cc)
    (λ x b q k. search rules) in
    let no : all is_hex_digit s ≡ false = sym (all_listed is_hex_digit s) ∙ sym it ∙ c.if-not-all.true in
    search (rules, length_rules)

pub returns : goal.returns
returns c =
    let s = c.args.s.now in
    let it = all_from_yields_List is_hex_digit _ _ _ c.all.ensures.ran (YieldsList-from_slice s cc)
    (λ x b q k. search rules) in
    let yes : all is_hex_digit s ≡ true = sym (all_listed is_hex_digit s) ∙ sym it ∙ c.if-not-all.false in
    search (rules, length_rules)
