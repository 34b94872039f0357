use Rattle.std.proofs.Common.{rules, refl}
use Rattle.aql_value.specs.View.{datum_of}
use Rattle.aql_tree.specs.View.{tree}
use Rattle.aql_plan.specs.View.{plan_tree}
use Rattle.aql_rules_filter.specs.laws.FiltersRemoved.{removes_stays, passing_at, failing_at}
use Rattle.aql_rules_filter.proofs.remove_unnecessary_filters.RemoveUnnecessaryFiltersPartRule.rewrite.Goals as goal

pub returns-in_default-literal_in : goal.returns-in_default-literal_in
returns-in_default-literal_in c = (
  removes_stays _ (plan_tree c.args.part.now) (plan_tree c.in-Some.field-0-0.now) (tree c.in-Some.cond.now)
      c.in-Some.ensures c.in_default-literal_in.ensures,
  refl,
)

pub returns-then-truthy : goal.returns-then-truthy
returns-then-truthy c = passing_at _ (plan_tree c.args.part.now) (plan_tree c.in-Some.field-0-0.now)
    (plan_tree c.take_filter.new.plan) (tree c.in-Some.cond.now) (datum_of c.in-Some-literal_in.value.now)
    c.take_filter.result c.in-Some.ensures c.in-Some-literal_in.ensures
    (search (rules, c.truthy.ensures, c.if-truthy.true)) c.take_filter.ensures

pub returns-else-truthy : goal.returns-else-truthy
returns-else-truthy c = failing_at _ (plan_tree c.args.part.now) (plan_tree c.in-Some.field-0-0.now)
    (plan_tree c.empty_filter.new.plan) (tree c.in-Some.cond.now) (datum_of c.in-Some-literal_in.value.now)
    c.in-Some.ensures c.in-Some-literal_in.ensures (search (rules, c.truthy.ensures, c.if-truthy.false))
    c.empty_filter.ensures
