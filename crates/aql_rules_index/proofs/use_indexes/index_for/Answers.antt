use Rattle.std.proofs.Common.{[], sym}
use Rattle.aql_tree.specs.View.{tree}
use Rattle.aql_tree.specs.declared.syntax.Ident.TheVariants.{Num}
use Rattle.aql_plan.specs.View.{plan_tree}
use Rattle.aql_rules_index.specs.laws.IndexUsed.{no_filter}
use Rattle.aql_rules_index.proofs.Used.{index_at}
use Rattle.aql_rules_index.proofs.use_indexes.index_for.Goals as goal

pub returns-in_default : goal.returns-in_default
returns-in_default c = no_filter c.args.facts.now [] (plan_tree c.args.part.now) c.in_default.ensures

pub returns : goal.returns
returns c = index_at c.args.facts.now (plan_tree c.args.part.now) (plan_tree c.in-Some.below.now)
    (tree c.in-Some.cond.now) (Num c.in-Some-bare_reading.var) c.in-Some-bare_reading.coll.0 c.in-Some.ensures
    (sym c.in-Some-bare_reading.ensures) c.in_ok-chosen.chosen c.in_ok-chosen.ensures
