use Rattle.std.proofs.Common.{refl}
use Rattle.aql_plan.specs.View.{plan_tree}
use Rattle.aql_rules_index.specs.RemoveFilterCoveredByIndex.{RemovesCovered}
use Rattle.aql_rules_index.specs.laws.ItemsRemoved.{taken_is}
use Rattle.aql_rules_index.specs.laws.Shrinking.{covered_look, stays_under, made_under}
use Rattle.aql_rules_index.proofs.remove_filter_covered_by_index.RemoveFilterCoveredByIndexPartRule.rewrite.Goals as goal

pub returns-in-Stays : goal.returns-in-Stays
returns-in-Stays c = (
  stays_under RemovesCovered covered_look c.args.facts.now _ (plan_tree c.args.part.now)
      (rw c.in-Stays.is at c.in_ok-change_at.ensures),
  refl,
)

pub returns-in-Shrinks : goal.returns-in-Shrinks
returns-in-Shrinks c = made_under RemovesCovered covered_look c.args.facts.now _ (plan_tree c.args.part.now) _ _
    (rw c.in-Shrinks.is at c.in_ok-change_at.ensures) c.set_cond.ensures

pub returns-in-Goes : goal.returns-in-Goes
returns-in-Goes c =
    let gone = rw c.in-Goes.is at c.in_ok-change_at.ensures in
    made_under RemovesCovered covered_look c.args.facts.now _ (plan_tree c.args.part.now) _ _ gone
    (taken_is c.args.facts.now (plan_tree c.args.part.now) (plan_tree c.take_filter.new.plan)
    c.take_filter.result c.take_filter.ensures gone)
