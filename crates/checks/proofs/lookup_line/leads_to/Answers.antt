-- `checks::lookup_line::leads_to` meets its contract: the values joined are as many as their digits
-- allow, and the roots are compared.
use mathlib.Core.Path.{sym, ◌∙◌}
use Rattle.lists.proofs.SameLaws.{slices_same}
use Rattle.checks.proofs.LookupLineLaws.{leads-not, leads-same}
use Rattle.checks.proofs.lookup_line.leads_to.Goals as goal

pub returns-then-not-terminal_fits : goal.returns-then-not-terminal_fits
returns-then-not-terminal_fits c = sym (leads-not _ _ _ _ (sym c.terminal_fits.ensures ∙ c.if-not-terminal_fits.true))

pub returns : goal.returns
returns c =
    c.eq.ensures ∙ slices_same _ _
    ∙ leads-same _ _ _ _ (sym c.terminal_fits.ensures ∙ c.if-not-terminal_fits.false) _ c.lookup_root.ensures
