use Rattle.std.proofs.Common.{◌+◌}
use Rattle.aql_plan.specs.View.{plan_tree}
use Rattle.aql_passes.specs.laws.Finishing.{work}
use Rattle.aql_passes.proofs.part_pass.+settle.Given as goal

abbrev pub decreases-settle : goal.decreases-settle
decreases-settle g l =
    work (g.R.PartRule.size l.rule.now) (plan_tree l.plan)
    + work (g.R.PartRule.size l.rule.now) (plan_tree l.plan)

abbrev pub decreases-settle_below : goal.decreases-settle_below
decreases-settle_below g l =
    work (g.R.PartRule.size l.rule.now) (plan_tree l.below)
    + (work (g.R.PartRule.size l.rule.now) (plan_tree l.below) + 1)
