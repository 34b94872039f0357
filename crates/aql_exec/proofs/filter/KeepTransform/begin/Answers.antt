use Rattle.std.proofs.Common.{ap}
use Rattle.aql_tree.specs.View.{tree}
use Rattle.aql_block.specs.Tables.{rows_of}
use Rattle.aql_block.specs.Rows.{row_of}
use Rattle.aql_exec.proofs.Keeping.{filters}
use Rattle.aql_exec.proofs.filter.KeepTransform.begin.Goals as goal

pub returns-clause-left : goal.returns-clause-left
returns-clause-left g c w rows r h =
    filters (tree c.args.self.now.condition) w (row_of c.args._start.now) rows r
    (rw (ap rows_of c.empty.ensures) at h)
