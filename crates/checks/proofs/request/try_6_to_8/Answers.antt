-- `checks::request::try_6_to_8` meets its contract: the first of the three tests that fails gives its
-- number.
use mathlib.Core.Path.{sym, ◌∙◌}
use Rattle.checks.proofs.RequestLaws.{first-foreign, first-size, first-version, first_none}
use Rattle.checks.proofs.request.try_6_to_8.Goals as goal

pub returns-then-not-is_requested : goal.returns-then-not-is_requested
returns-then-not-is_requested c =
    let o = c.is_requested.ensures in
    first-foreign _ _ c.args.call _ _ _ (λ d p q i l. sym c.if-not-is_requested.true ∙ o d p q i l)

pub returns-then-not-has_size : goal.returns-then-not-has_size
returns-then-not-has_size c =
    let o = c.is_requested.ensures in
    first-size _ _ (c.args.call) _ _ _ (λ d p q i l. sym c.if-not-is_requested.false ∙ o d p q i l) (sym c.if-not-has_size.true ∙ c.has_size.ensures)

pub returns-then-not-target_fits : goal.returns-then-not-target_fits
returns-then-not-target_fits c =
    let o = c.is_requested.ensures in
    let t = c.target_fits.ensures in
    first-version _ _ (c.args.call) _ _ _ (λ d p q i l. sym c.if-not-is_requested.false ∙ o d p q i l) (sym c.if-not-has_size.false ∙ c.has_size.ensures)
    (λ d g m. sym c.if-not-target_fits.true ∙ t d g m)

pub returns : goal.returns
returns c =
    let o = c.is_requested.ensures in
    let t = c.target_fits.ensures in
    first_none _ _ (c.args.call) _ _ _ (λ d p q i l. sym c.if-not-is_requested.false ∙ o d p q i l) (sym c.if-not-has_size.false ∙ c.has_size.ensures)
    (λ d g m. sym c.if-not-target_fits.false ∙ t d g m)
