-- `checks::lookup_line::lookup_reaches` meets its contract: the letters of the line tell its result,
-- and what follows its version the rest.
use mathlib.Core.Path.{sym, ◌∙◌}
use native.Mathlib.Omega.{arith}
use Rattle.lines.proofs.FormLaws.{here-read}
use Rattle.tree.specs.Lookups.{terminal_of}
use Rattle.checks.proofs.LookupLineLaws.{version-misses, rest-misses, in-reaches, no-reaches}
use Rattle.checks.proofs.LookupLineLaws.{nl-reaches}
use Rattle.checks.proofs.lookup_line.lookup_reaches.Goals as goal

pub returns-in_default : goal.returns-in_default
returns-in_default c l h = absurd (version-misses _ l h (sym c.in_default.ensures))

pub returns-then-line-at : goal.returns-then-line-at
returns-then-line-at c l h = absurd (rest-misses _ l h _ _ (sym c.in-Some.ensures) c.if-line-at.true)

pub bounds-line-0 : goal.bounds-line-0
bounds-line-0 c = let b = (here-read _ _ _ _ _ (sym c.in-Some.ensures)).0.begins in omega arith

pub returns-then-line-eq-IN_LETTER : goal.returns-then-line-eq-IN_LETTER
unfolding terminal_of
returns-then-line-eq-IN_LETTER c l h = c.leads_to.ensures ∙ in-reaches _ l h _ _ (sym c.in-Some.ensures) _ _ _ c.if-line-eq-IN_LETTER.true

pub bounds-line-1 : goal.bounds-line-1
bounds-line-1 c = let b = (here-read _ _ _ _ _ (sym c.in-Some.ensures)).0.begins in omega arith

pub returns-then-line-eq-NO_LETTER : goal.returns-then-line-eq-NO_LETTER
unfolding terminal_of
returns-then-line-eq-NO_LETTER c l h = c.leads_to-then-line-eq-NO_LETTER.ensures ∙ no-reaches _ l h _ _ (sym c.in-Some.ensures) _ _ _ c.if-line-eq-IN_LETTER.false c.if-line-eq-NO_LETTER.true

pub returns : goal.returns
returns c l h = c.leaf_reaches.ensures ∙ nl-reaches _ l h _ _ (sym c.in-Some.ensures) _ _ _ c.if-line-eq-IN_LETTER.false c.if-line-eq-NO_LETTER.false
