-- `inputs::state_reader::read_state` meets its contract: a text that is not too long is read.
use mathlib.Core.Path.{◌≡◌, sym, ◌∙◌, ap}
use borrow.Author.Rules.{rules}
use Rattle.lists.specs.Choice.{option_of}
use Rattle.inputs.specs.State.{numbered_block, numbered_of}
use Rattle.inputs.specs.StateReader.{refused_by}
use Rattle.inputs.proofs.MatchLaws.{matched}
use Rattle.inputs.proofs.StateReaderLaws.{text_long, text_read, state_given, state_missing}
use Rattle.inputs.proofs.state_reader.read_state.Goals as goal

pub returns-then-text-gt-TEXT : goal.returns-then-text-gt-TEXT
unfolding numbered_block
returns-then-text-gt-TEXT c = rw c.with_empty_state.ensures (ap numbered_block (text_long _ c.if-text-gt-TEXT.true))

pub returns : goal.returns
unfolding numbered_block
returns c =
    let s = c.args.text.now in
    let t = sym (ap numbered_block (text_read s c.if-text-gt-TEXT.false)) in
    matched c.read_valid_state.result _ _ _ c.ok_or_else.ensures.cases
    (λ i n.
    let q : numbered_of c.ok_or_else.result ≡ numbered_block (refused_by 3) = search rules in
    q ∙ state_missing _ (ap option_of (sym i) ∙ c.read_valid_state.ensures) ∙ t)
    (λ state i k. ap numbered_of k ∙ state_given _ state (ap option_of (sym i) ∙ c.read_valid_state.ensures) ∙ t)
