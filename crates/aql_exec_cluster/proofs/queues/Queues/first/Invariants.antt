use Rattle.aql_plan.specs.View.{directions, key_trees}
use Rattle.aql_meaning.specs.AtRows.{row_before}
use Rattle.aql_exec_cluster.specs.Queues.{FirstUpTo}
use Rattle.aql_exec_cluster.proofs.queues.Queues.first.Given as goal

abbrev pub invariant-loop-other : goal.invariant-loop-other
invariant-loop-other l =
    FirstUpTo (row_before (directions l.keys) (key_trees l.keys)) l.self.list.items l.other l.first
