-- `checks::sections::lookup_version` meets its contract: the number after the word of a lookup line
-- is its version.
use mathlib.Core.Path.{sym}
use Rattle.rules.specs.Limits.{version_bound}
use Rattle.inputs.proofs.StateLineLaws.{number_within}
use Rattle.checks.proofs.LookupLineLaws.{version-told, version-misses}
use borrow.Author.Rules.{rules}
use Rattle.checks.proofs.sections.lookup_version.Goals as goal

pub overflow_cast-result : goal.overflow_cast-result
overflow_cast-result c = let b = number_within version_bound _ _ _ _ (sym c.in-Some.ensures) in search rules

pub returns-in-Some : goal.returns-in-Some
returns-in-Some c = version-told _ _ _ (sym c.in-Some.ensures)

pub returns-in-None : goal.returns-in-None
returns-in-None c x h = absurd (version-misses _ x h (sym c.in-None.ensures))
