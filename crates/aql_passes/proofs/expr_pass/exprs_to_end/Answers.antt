-- The node is over what its expressions come to, or they stay as they are.
use Rattle.std.proofs.Common.{map, sym}
use Rattle.aql_tree.specs.View.{tree}
use Rattle.aql_plan.specs.View.{node_tree}
use Rattle.aql_rewrite.specs.NodeExprs.{node_exprs}
use Rattle.aql_passes.specs.laws.ExprsAgain.{exprs_own}
use Rattle.aql_passes.proofs.expr_pass.exprs_to_end.Goals as goal

pub returns-in-Some : goal.returns-in-Some
returns-in-Some g c =
    (map tree c.in-Some.queue.items, (rw c.in-Some.is at c.in_ok-queue.ensures), c.set_exprs.ensures)

pub returns-in-None : goal.returns-in-None
returns-in-None g c = (
  node_exprs (node_tree c.args.node.now),
  (rw c.in-None.is at c.in_ok-queue.ensures),
  sym (exprs_own (node_tree c.args.node.now)),
)
