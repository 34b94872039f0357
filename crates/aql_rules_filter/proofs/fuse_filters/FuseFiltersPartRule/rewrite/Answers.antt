use Rattle.std.proofs.Common.{◌∙◌, refl, sym}
use Rattle.aql_tree.specs.View.{tree}
use Rattle.aql_plan.specs.View.{plan_tree}
use Rattle.aql_rules_filter.specs.laws.FiltersFused.{not_a_filter, not_over_a_filter, fused_at}
use Rattle.aql_rules_filter.proofs.fuse_filters.FuseFiltersPartRule.rewrite.Goals as goal

pub returns-in_default : goal.returns-in_default
returns-in_default c = (not_a_filter _ (plan_tree c.args.part.now) c.in_default.ensures, refl)

pub returns-then-not-is_filter : goal.returns-then-not-is_filter
returns-then-not-is_filter c = (
  not_over_a_filter _ (plan_tree c.args.part.now) (plan_tree c.in-Some.below.now)
      (tree c.in-Some.field-0-1.now) c.in-Some.ensures (sym c.is_filter.ensures ∙ c.if-not-is_filter.true),
  refl,
)

pub returns : goal.returns
returns c = fused_at _ (plan_tree c.args.part.now) (plan_tree c.in-Some.below.now)
    (plan_tree c.push_filter.new.plan) (tree c.in-Some.field-0-1.now) c.in-Some.ensures
    (sym c.is_filter.ensures ∙ c.if-not-is_filter.false) c.in_ok-push_filter.ensures
