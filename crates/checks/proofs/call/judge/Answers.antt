-- `checks::call::judge` meets its contract: a refusal gives the state back.
use mathlib.Core.Path.{◌∙◌}
use borrow.Author.Rules.{rules}
use Rattle.checks.proofs.CallLaws.{given_back}
use Rattle.checks.proofs.call.judge.Goals as goal

pub answered-requires : goal.answered-requires
answered-requires c =
    record {
      label_room = search rules;
      values_room = search rules;
      positions_room = search rules;
      versions_room = search rules;
    }

pub returns : goal.returns
returns c =
    let p = c.answered.ensures in
    record {
      answer = given_back c.args.state _ _ _ (λ e x l. search rules) c.map_err.ensures.cases ∙ p.answer;
      bytes = p.bytes;
    }
