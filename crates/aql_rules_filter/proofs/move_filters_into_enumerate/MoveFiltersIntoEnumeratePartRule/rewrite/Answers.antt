use Rattle.std.proofs.Common.{◌∙◌, refl, sym}
use Rattle.aql_tree.specs.View.{tree}
use Rattle.aql_plan.specs.View.{plan_tree}
use Rattle.aql_rules_filter.specs.laws.FiltersInside.{moves_in_no_filter, moves_in_stays, moves_in_at}
use Rattle.aql_rules_filter.proofs.move_filters_into_enumerate.MoveFiltersIntoEnumeratePartRule.rewrite.Goals as goal

pub returns-in_default : goal.returns-in_default
returns-in_default c = (moves_in_no_filter _ (plan_tree c.args.part.now) c.in_default.ensures, refl)

pub returns-then-not-keeps_all : goal.returns-then-not-keeps_all
returns-then-not-keeps_all c = (
  moves_in_stays _ (plan_tree c.args.part.now) (plan_tree c.in-Some.node.now)
      (tree c.in-Some.field-0-1.now) c.in-Some.ensures (sym c.keeps_all.ensures ∙ c.if-not-keeps_all.true),
  refl,
)

pub returns : goal.returns
returns c = moves_in_at _ (plan_tree c.args.part.now) (plan_tree c.in-Some.node.now)
    (plan_tree c.push_filter.new.plan) (tree c.in-Some.field-0-1.now) c.in-Some.ensures
    (sym c.keeps_all.ensures ∙ c.if-not-keeps_all.false) c.in_ok-push_filter.ensures
