-- `inputs::response_lines::kt_line` meets its contract: the line is read as one of a search, else
-- as one of monitoring.
use mathlib.Core.Path.{◌≡◌, refl}
use borrow.Author.Rules.{rules}
use Rattle.lists.specs.Choice.{or_else}
use Rattle.rules.specs.Response.{search as searched_kind, monitor}
use Rattle.rules.specs.ResponseText.{read_kind_line}
use Rattle.inputs.specs.ResponseLines.{kt_of}
use Rattle.inputs.proofs.MatchLaws.{matched}
use Rattle.inputs.proofs.response_lines.kt_line.Goals as goal

pub returns-clause-read : goal.returns-clause-read
unfolding or_else
returns-clause-read c =
    let l = c.args.l.now in
    matched c.kind_line.result _ _ (kt_of l c.or_else.result ≡ or_else (read_kind_line searched_kind l) (read_kind_line monitor l)) c.or_else.ensures
    (λ i n. let q : kt_of l c.or_else.result ≡ read_kind_line monitor l = search rules in rw (← c.kind_line.ensures.read, i) q)
    (λ k i m. rw (m, ← c.kind_line.ensures.read, i) refl)
