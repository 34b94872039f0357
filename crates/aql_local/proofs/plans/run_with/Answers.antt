use Rattle.aql_plan.specs.Shapes.{Result}
use Rattle.aql_plan.specs.View.{plan_tree}
use Rattle.aql_shard.specs.Datasets.{stock}
use Rattle.aql_local.proofs.Apart.{stands_apart}
use Rattle.aql_local.proofs.CanRun.{shaped_fits, sets_numbers}
use Rattle.aql_local.proofs.plans.run_with.Goals as goal

pub tree_of-requires-clause-apart : goal.tree_of-requires-clause-apart
tree_of-requires-clause-apart g c =
    stands_apart (stock c.args.servers.now).facts (plan_tree c.args.plan) c.requires.plan.1

pub tree_of-requires-clause-fits : goal.tree_of-requires-clause-fits
tree_of-requires-clause-fits g c =
    shaped_fits (stock c.args.servers.now).facts (plan_tree c.args.plan) Result c.requires.plan.1

pub tree_of-requires-clause-numbers : goal.tree_of-requires-clause-numbers
tree_of-requires-clause-numbers g c =
    sets_numbers (stock c.args.servers.now).facts (plan_tree c.args.plan) c.requires.plan.1 c.requires.plan.4
