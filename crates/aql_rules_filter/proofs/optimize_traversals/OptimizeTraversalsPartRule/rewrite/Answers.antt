use Rattle.std.proofs.Common.{rules, refl}
use Rattle.aql_tree.specs.View.{tree}
use Rattle.aql_plan.specs.View.{plan_tree}
use Rattle.aql_rules_filter.specs.laws.TraversalsOptimized.{filter_at, filter_stays}
use Rattle.aql_rules_filter.proofs.optimize_traversals.OptimizeTraversalsPartRule.rewrite.Goals as goal

pub returns-then-not-branch : goal.returns-then-not-branch
returns-then-not-branch c = (
  filter_stays _ (plan_tree c.args.part.now) (plan_tree c.in-Some.node.now) (tree c.in-Some.cond.now)
      c.in-Some.ensures (search rules),
  refl,
)

pub returns : goal.returns
returns c = filter_at _ (plan_tree c.args.part.now) (plan_tree c.in-Some.node.now)
    (plan_tree c.push_filter.new.plan) (tree c.in-Some.cond.now) c.in-Some.ensures (search rules)
    c.in_ok-push_filter.ensures
