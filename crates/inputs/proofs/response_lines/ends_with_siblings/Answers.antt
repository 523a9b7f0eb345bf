-- `inputs::response_lines::ends_with_siblings` meets its contract: the last field encodes whole
-- siblings, and not too many.
use borrow.Author.Rules.{rules}
use Rattle.inputs.proofs.ResponseLineLaws.{last-judged}
use Rattle.inputs.proofs.response_lines.ends_with_siblings.Goals as goal

pub returns : goal.returns
returns c = last-judged _ _ _ _ c.last_bytes.ensures.read _ _ c.is_some_and.ensures (λ n p k. search rules)
