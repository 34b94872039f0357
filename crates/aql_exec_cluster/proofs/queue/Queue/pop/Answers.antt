use Rattle.aql_block.specs.Rows.{row_of}
use Rattle.aql_block.specs.Tables.{rows_of}
use Rattle.aql_block.specs.laws.BlockRows.{row_has_all, row_only}
use Rattle.aql_exec_cluster.proofs.Found.{others_after}
use Rattle.aql_exec_cluster.proofs.queue.Queue.pop.Goals as goal

pub returns-clause-row : goal.returns-clause-row
returns-clause-row c =
    others_after (rows_of c.args.self.now.block) (rows_of c.take_row.new.self) c.args.self.now.at
    (row_of c.in_ok-row.row) _ c.in_ok-row.ensures.row c.in_ok-row.ensures.rest

pub returns-clause-has : goal.returns-clause-has
returns-clause-has c =
    row_has_all c.args.self.now.block c.args.self.now.at (row_of c.in_ok-row.row) c.in_ok-row.ensures.row

pub returns-clause-only : goal.returns-clause-only
returns-clause-only c =
    row_only c.args.self.now.block c.args.self.now.at (row_of c.in_ok-row.row) c.in_ok-row.ensures.row
