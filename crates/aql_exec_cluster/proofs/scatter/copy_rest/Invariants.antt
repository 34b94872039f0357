use Rattle.std.proofs.Common.{◌≡◌, ◌++◌, length}
use Rattle.aql_engine.specs.Run.{rows_in}
use Rattle.aql_exec_cluster.specs.Shared.{rows_at}
use Rattle.aql_exec_cluster.specs.Routings.{rows_to}
use Rattle.aql_exec_cluster.proofs.scatter.copy_rest.Given as goal

-- with the rows that are left those that were copied are all
abbrev pub invariant-loop-rest : goal.invariant-loop-rest
invariant-loop-rest l = rows_in l.rest ++ rows_to l.routing l.target (rows_at l.blocks l.place)
    ≡ rows_to l.routing l.target (rows_at l.blocks l.fn.place)

abbrev pub decreases-loop-rest : goal.decreases-loop-rest
decreases-loop-rest l = length (rows_at l.blocks l.place)
