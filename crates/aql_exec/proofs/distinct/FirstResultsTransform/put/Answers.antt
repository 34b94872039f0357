use Rattle.aql_value.specs.View.{datums_in}
use Rattle.aql_tree.specs.View.{tree}
use Rattle.aql_block.specs.Tables.{rows_of}
use Rattle.aql_exec.specs.laws.Firsts.{put_results}
use Rattle.aql_exec.proofs.distinct.FirstResultsTransform.put.Goals as goal

pub returns-clause-left : goal.returns-clause-left
returns-clause-left g c w rows r h =
    let me = c.args.self.now in
    put_results (tree me.expr) me.made (datums_in me.seen.keys) (rows_of me.block) (rows_of c.args.block) rows r
    c.requires.ready h
