use Rattle.std.proofs.Common.{◌+◌, ◌*◌}
use Rattle.aql_exec.specs.Operators.{height}
use Rattle.aql_exec.specs.Steps.{weight}
use Rattle.aql_engine.specs.Tree.{tree_plan, NodeBudget}
use Rattle.aql_engine.proofs.Loops.{Turning, Kept, Linked}
use Rattle.aql_engine.proofs.tree.+pull.Given as goal

abbrev pub decreases-TreeFeed::pull : goal.decreases-TreeFeed::pull
decreases-TreeFeed::pull g l = height (tree_plan g.X.Executor g.W.Surroundings l.self.now) * 2 + 1

abbrev pub decreases-run_node : goal.decreases-run_node
decreases-run_node g l =
    (height (tree_plan g.X.Executor g.W.Surroundings l.below.now)
    + height (tree_plan g.X.Executor g.W.Surroundings l.body.now)) * 2 + 2

abbrev pub invariant-run_node-loop-at : goal.invariant-run_node-loop-at
invariant-run_node-loop-at g l =
    let x = g.X.Executor in
    let p = g.W.Surroundings in
    Turning x p l.port l.call l.initial.x l.initial.below l.initial.body l.initial.world l.initial.tally
    l.x l.below l.body l.world l.tally
    × Kept x p l.port l.initial.x l.initial.below l.initial.body l.initial.world
    l.x l.below l.body l.world l.call
    × Linked x p l.initial.x l.initial.below l.initial.body l.initial.world l.x l.below l.body l.world

abbrev pub decreases-run_node-loop-at : goal.decreases-run_node-loop-at
decreases-run_node-loop-at g l =
    let x = g.X.Executor in
    NodeBudget x g.W.Surroundings l.initial.x l.initial.body l.x l.below l.body l.world * weight + x.waits_left l.x
