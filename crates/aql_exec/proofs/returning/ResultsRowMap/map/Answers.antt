use Rattle.std.proofs.Common.{◌≡◌, length, map, sym, ap, ◌∙◌, arith}
use Rattle.std.proofs.lemmas.List.{length-map}
use Rattle.std.proofs.lemmas.Result.{IfOk-weaker}
use Rattle.aql_value.specs.View.{datum_of}
use Rattle.aql_tree.specs.View.{tree}
use Rattle.aql_meaning.specs.AtRows.{value_of}
use Rattle.aql_meaning.specs.Row.{empty_row}
use Rattle.aql_plan.specs.Runs.{result_row}
use Rattle.aql_block.specs.Tables.{rows_of}
use Rattle.aql_exec.specs.RowMaps.{return_maps}
use Rattle.aql_exec.proofs.returning.ResultsRowMap.map.Goals as goal

pub returns : goal.returns
returns g c = IfOk-weaker c.from_values.result _ _ (λ b h.
    h ∙ ap (map result_row) c.in_ok-values.ensures
    ∙ sym (return_maps (tree c.args.self.now.expr) (g.W.Surroundings.stock c.args._world.now) empty_row
    (rows_of c.args.block)).0) c.from_values.ensures.rows

pub from_values-requires : goal.from_values-requires
from_values-requires g c =
    let values : length c.in_ok-values.values.items ≡ length (rows_of c.args.block) =
    sym (length-map c.in_ok-values.values.items datum_of) ∙ ap length c.in_ok-values.ensures
    ∙ length-map (rows_of c.args.block) (value_of (tree c.args.self.now.expr)) in
    let count = c.len-count.ensures in omega (arith, values, count)
