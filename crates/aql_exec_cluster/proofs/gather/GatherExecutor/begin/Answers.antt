use Rattle.std.proofs.Common.{length, ap, arith}
use Rattle.aql_block.specs.Tables.{rows_of}
use Rattle.aql_exec_cluster.proofs.Stands.{going_few}
use Rattle.aql_exec_cluster.proofs.gather.GatherExecutor.begin.Goals as goal

pub returns-clause-budget : goal.returns-clause-budget
returns-clause-budget g c w f =
    let none = ap (λ b. length (rows_of b)) c.empty.ensures in
    let few = going_few c.begin.new.self.progress.items in
    omega (arith, none, few)
