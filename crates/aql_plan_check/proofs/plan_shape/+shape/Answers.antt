-- A plan has the shape that its nodes give it one after another, and no other.
use Rattle.std.proofs.Common.{◌≡◌, ◌∙◌, sym, subst, refl, true, true≢false}
use Rattle.aql_plan.specs.Plan.{Plan, top}
use Rattle.aql_plan.specs.Shapes.{Shape, Rows, Result, Shaped, one_row}
use Rattle.aql_plan.specs.View.{plan_tree}
use Rattle.aql_plan_laws.specs.laws.ShapeOnce.{shape_once}
use Rattle.aql_plan_laws.specs.laws.ShapeOnce as once
use Rattle.aql_plan_check.proofs.Shaping.{Tells, none_below, stands_there, tells_over, at_result}
use Rattle.aql_plan_check.proofs.plan_shape.+shape.Goals as goal

pub shape-returns-in-None : goal.shape-returns-in-None
shape-returns-in-None t c =
    let facts = c.args.facts.now in
    subst (λ (q : Plan). Shaped facts q (Rows true) × (Rows true ≡ once.shape_of facts q)) (sym c.in-None.ensures)
    (one_row, refl)

pub shape_above-returns-in-None : goal.shape_above-returns-in-None
shape_above-returns-in-None t c s h =
    let facts = c.args.facts.now in
    none_below facts (plan_tree c.args.below.now) (top (plan_tree c.args.plan.now)) c.in-None.ensures s
    (subst (λ (q : Plan). Shaped facts q s) c.requires h)

pub shape_above-returns-then-not-fits : goal.shape_above-returns-then-not-fits
shape_above-returns-then-not-fits t c s h =
    let facts = c.args.facts.now in
    let k = stands_there facts (plan_tree c.args.below.now) (top (plan_tree c.args.plan.now)) s
    (subst (λ (q : Plan). Shaped facts q s) c.requires h) in
    true≢false (sym (c.fits.ensures.1 k.fits) ∙ c.if-not-fits.true)

pub shape_above-returns-then-not-body_fits : goal.shape_above-returns-then-not-body_fits
shape_above-returns-then-not-body_fits t c s h =
    let facts = c.args.facts.now in
    let k = stands_there facts (plan_tree c.args.below.now) (top (plan_tree c.args.plan.now)) s
    (subst (λ (q : Plan). Shaped facts q s) c.requires h) in
    true≢false (sym (c.body_fits.ensures.1 k.body) ∙ c.if-not-body_fits.true)

pub shape_above-returns-else-not-body_fits : goal.shape_above-returns-else-not-body_fits
shape_above-returns-else-not-body_fits t c =
    let facts = c.args.facts.now in
    let r = c.shape_over.result in
    subst (λ (q : Plan). Tells facts q r) (sym c.requires)
    (tells_over facts (plan_tree c.args.below.now) (top (plan_tree c.args.plan.now)) c.in-Some.under r
    c.in-Some.ensures.0 c.in-Some.ensures.1 (c.fits.ensures.0 c.if-not-fits.false)
    (c.body_fits.ensures.0 c.if-not-body_fits.false) c.shape_over.ensures)

pub has_result-returns-in-None : goal.has_result-returns-in-None
has_result-returns-in-None t c =
    ((λ e. absurd (true≢false (sym e))), (λ h. absurd (c.in-None.ensures Result h)))

pub has_result-returns-in-Some : goal.has_result-returns-in-Some
has_result-returns-in-Some t c =
    let facts = c.args.facts.now in
    let p = plan_tree c.args.plan.now in (
      (λ e. subst (λ (s : Shape). Shaped facts p s) (c.is_result.ensures.0 e) c.in-Some.ensures.0),
      (λ h. c.is_result.ensures.1 (c.in-Some.ensures.1 ∙ at_result (once.shape_of facts p) (shape_once facts h))),
    )
