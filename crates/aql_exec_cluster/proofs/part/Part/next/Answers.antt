use Rattle.std.proofs.Common.{ap}
use Rattle.aql_block.specs.Tables.{rows_of}
use Rattle.aql_exec_cluster.specs.Shared.{rows_at}
use Rattle.aql_exec_cluster.proofs.Sharing.{past_rows}
use Rattle.aql_exec_cluster.proofs.part.Part.next.Goals as goal

pub returns-then-call-gt0-clause-rows : goal.returns-then-call-gt0-clause-rows
returns-then-call-gt0-clause-rows c =
    let me = c.args.self.now in
    let blocks = c.in-Some.list.value in
    let skip = c.skip-skipped.ensures in
    rw c.in-Some.is (past_rows (rows_at blocks me.place) (rows_at blocks c.skip-skipped.new.place)
    (rows_of c.empty.result) c.skip-skipped.result (rw c.deref.ensures at skip.rest)
    (rw c.deref.ensures at skip.within) (ap rows_of c.empty.ensures))
