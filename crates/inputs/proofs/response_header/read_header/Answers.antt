-- `inputs::response_header::read_header` meets its contract: each line is read where the one before
-- it ends.
use mathlib.Core.Path.{sym}
use Rattle.inputs.specs.ResponseHeader.{parts_after}
use Rattle.inputs.proofs.ResponseLaws.{response-unopened, response-unsized, response-unfound}
use Rattle.inputs.proofs.ResponseLaws.{response-headed, sections-within}
use Rattle.inputs.proofs.response_header.read_header.Goals as goal

pub returns-in_err-first-clause-header : goal.returns-in_err-first-clause-header
returns-in_err-first-clause-header c = rw c.from_residual.ensures (sym (response-unopened _ (sym c.in_err-first.ensures.read)))

pub returns-in_err-tree_size-clause-header : goal.returns-in_err-tree_size-clause-header
returns-in_err-tree_size-clause-header c =
    rw c.from_residual-in_err-tree_size.ensures (sym (response-unsized _ _ _ _ _ (sym c.in_ok-first.ensures.read) (sym c.in_err-tree_size.ensures)))

pub returns-in_err-finding-clause-header : goal.returns-in_err-finding-clause-header
returns-in_err-finding-clause-header c =
    let e = sym c.in_ok-first.ensures.read in
    rw c.from_residual-in_err-finding.ensures
    (sym (response-unfound _ _ _ _ _ e _ _ (sym c.in_ok-tree_size.ensures) (sym c.in_err-finding.ensures.read)))

pub returns : goal.returns
unfolding parts_after
returns c =
    let e = sym c.in_ok-first.ensures.read in
    let f = sym c.in_ok-tree_size.ensures in
    let g = sym c.in_ok-finding.ensures.read in
    let (i, l) = c.in_ok-first.ensures.decodes in
    record {
      header = sym (response-headed _ _ _ _ _ e _ _ f _ _ g);
      stands = (sections-within _ _ _ _ _ e _ _ f _ _ g, (i, l, c.in_ok-finding.ensures.decodes));
    }
