-- The line, the value and the text are first bytes of those lent for them.
use Rattle.std.proofs.Common.{rules, ◌≡◌, length, arith}
use Rattle.ktcheck.proofs.OutcomeLaws.{line-counted, value-counted, text-counted}
use Rattle.ktcheck.proofs.outcome.judge.Goals as goal

pub slice_bounds-line-end : goal.slice_bounds-line-end
slice_bounds-line-end g c = let e = c.check_files-outcome.ensures in (line-counted _ _ e.outcome _ _ e.line).0

pub slice_bounds-line-end-2 : goal.slice_bounds-line-end-2
slice_bounds-line-end-2 g c = let e = c.check_files-outcome.ensures in (line-counted _ _ e.outcome _ _ e.line).1

pub slice_bounds-text-end : goal.slice_bounds-text-end
slice_bounds-text-end g c =
    let e = c.check_files-outcome.ensures in (text-counted _ _ e.outcome _ _ _ c.in-Ok.is e.text).0

pub slice_bounds-accept-end : goal.slice_bounds-accept-end
slice_bounds-accept-end g c =
    let e = c.check_files-outcome.ensures in (text-counted _ _ e.outcome _ _ _ c.in-Ok.is e.text).1

pub shared_ref_as_front-value : goal.shared_ref_as_front-value
shared_ref_as_front-value g c =
    let e = c.check_files-outcome.ensures in
    let h = (value-counted _ _ e.outcome _ _ _ c.in-Ok.is _ c.in-Some.is e.value).0 in
    let l : length c.check_files-outcome.new.value ≡ 1024 = search rules in
    omega (arith, h, l)
