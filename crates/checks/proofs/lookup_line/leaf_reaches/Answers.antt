-- `checks::lookup_line::leaf_reaches` meets its contract: the two values and the siblings stand at
-- their offsets.
use mathlib.Core.Path.{sym, ◌∙◌}
use Rattle.tree.specs.Lookups.{terminal_of}
use Rattle.checks.proofs.LookupLineLaws.{leaf-short, leaf-leads}
use Rattle.checks.proofs.lookup_line.leaf_reaches.Goals as goal

pub returns-then-rest : goal.returns-then-rest
returns-then-rest c = sym (leaf-short _ _ _ c.if-rest.true)

pub returns : goal.returns
unfolding terminal_of
returns c = c.leads_to.ensures ∙ leaf-leads _ _ _ c.if-rest.false _ _ c.value_at.ensures c.value_at-2.ensures
