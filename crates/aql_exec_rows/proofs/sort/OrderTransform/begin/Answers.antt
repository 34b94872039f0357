use Rattle.std.proofs.Common.{ap}
use Rattle.aql_plan.specs.View.{directions, key_trees}
use Rattle.aql_block.specs.Tables.{rows_of}
use Rattle.aql_exec.specs.Rests.{sent_on, opened_on, closed_on}
use Rattle.aql_exec_rows.proofs.Ordered.{sorts}
use Rattle.aql_exec_rows.proofs.sort.OrderTransform.begin.Goals as goal

pub returns-clause-left : goal.returns-clause-left
returns-clause-left g c w rows r h =
    let me = c.args.self.now in
    let left = rw (c.clear.ensures.items, ap rows_of c.empty.ensures) at h in (
      λ l. (left.1 (sent_on l), left.1 (opened_on l), left.1 (closed_on l)),
      (sorts (directions me.keys) (key_trees me.keys) me.limit rows r.rows left.0, left.1),
    )
