use Rattle.std.proofs.Common.{◌≡◌, ◌∙◌, Some, sym, ap}
use Rattle.std.specs.Prelude.{option_map}
use Rattle.aql_plan.specs.View.{key_trees}
use Rattle.aql_meaning.specs.AtRows.{keys_of}
use Rattle.aql_block.specs.Rows.{row_of}
use Rattle.aql_block.specs.Tables.{rows_of}
use Rattle.aql_exec_cluster.proofs.Found.{get_first}
use Rattle.aql_exec_cluster.proofs.queue.keys_in.Goals as goal

pub returns-in_ok-values-in-Some : goal.returns-in_ok-values-in-Some
returns-in_ok-values-in-Some c row rows e =
    let here : Some (row_of c.in-Some.row) ≡ Some row =
    sym (ap (option_map row_of) c.in-Some.is) ∙ c.row.ensures
    ∙ get_first (rows_of c.args.block.now) c.args.at row rows e in
    let same : row_of c.in-Some.row ≡ row = cc in
    c.in_ok-values-in-Some.ensures ∙ ap (keys_of (key_trees c.args.keys.now)) same

pub returns-in-None : goal.returns-in-None
returns-in-None c row rows e =
    let here = sym (ap (option_map row_of) c.in-None.is) ∙ c.row.ensures
    ∙ get_first (rows_of c.args.block.now) c.args.at row rows e in
    absurd (cc)
