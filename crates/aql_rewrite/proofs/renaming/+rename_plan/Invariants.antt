use Rattle.aql_plan.specs.Nodes.{weight}
use Rattle.aql_plan.specs.View.{plan_tree}
use Rattle.aql_rewrite.proofs.renaming.+rename_plan.Given as goal

abbrev pub decreases-rename_plan : goal.decreases-rename_plan
decreases-rename_plan l = weight (plan_tree l.plan.now)
