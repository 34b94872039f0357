use Rattle.std.proofs.Common.{refl}
use Rattle.aql_plan.specs.View.{plan_tree}
use Rattle.aql_rules_index.specs.UseIndexes.{UsesIndex}
use Rattle.aql_rules_index.specs.laws.Shrinking.{uses_look, stays_under, made_under}
use Rattle.aql_rules_index.proofs.use_indexes.UseIndexesPartRule.rewrite.Goals as goal

pub returns-in_default : goal.returns-in_default
returns-in_default c = (
  stays_under UsesIndex uses_look c.args.facts.now _ (plan_tree c.args.part.now)
      (rw c.in_default.is at c.in_ok-chosen.ensures),
  refl,
)

pub returns : goal.returns
returns c = made_under UsesIndex uses_look c.args.facts.now _ (plan_tree c.args.part.now) _ _
    (rw c.in-Some.is at c.in_ok-chosen.ensures) c.set_input_index.ensures
