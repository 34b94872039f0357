-- The node is over its expressions with the renamings, or they stay as they are.
use Rattle.std.proofs.Common.{◌∙◌, map}
use Rattle.aql_tree.specs.View.{tree}
use Rattle.aql_plan.specs.View.{node_tree}
use Rattle.aql_rewrite.specs.laws.RenamedPlans.{no_body, node_renamed, node_stays}
use Rattle.aql_rewrite.proofs.renaming.rename_node.Goals as goal

pub returns-in-Some : goal.returns-in-Some
returns-in-Some c =
    c.set_exprs.ensures ∙ node_renamed c.args.renames.now (node_tree c.args.node.now)
    (map tree c.in-Some.queue.items) (no_body c.args.node.now) (rw c.in-Some.is at c.in_ok-queue.ensures)

pub returns-in-None : goal.returns-in-None
returns-in-None c =
    node_stays c.args.renames.now (node_tree c.args.node.now) (no_body c.args.node.now)
    (rw c.in-None.is at c.in_ok-queue.ensures)
