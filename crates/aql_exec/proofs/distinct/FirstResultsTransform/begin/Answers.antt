use Rattle.std.proofs.Common.{◌≡◌, [], ap}
use Rattle.aql_value.specs.View.{datums_in}
use Rattle.aql_tree.specs.View.{tree}
use Rattle.aql_block.specs.Tables.{rows_of}
use Rattle.aql_block.specs.Rows.{row_of}
use Rattle.aql_exec.specs.laws.Firsts.{returns_firsts}
use Rattle.aql_exec.proofs.distinct.FirstResultsTransform.begin.Goals as goal

pub returns-clause-left : goal.returns-clause-left
returns-clause-left g c w rows r h =
    let none : c.new.result.keys ≡ [] = c.new.ensures.empty in
    returns_firsts (tree c.args.self.now.expr) w (row_of c.args._start.now) rows r
    (rw (ap rows_of c.empty.ensures, ap datums_in none) at h)
