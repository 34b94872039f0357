use Rattle.std.proofs.Common.{◌∙◌, ◌++◌, ◌∷◌, [], ap, map}
use Rattle.aql_meaning.specs.Row.{value_at}
use Rattle.aql_exec_rows.proofs.Parts.{vars_here, one_more_of}
use Rattle.aql_exec_rows.proofs.grouping.criteria_in_row.Goals as goal

pub loop-item-preserved : goal.loop-item-preserved
loop-item-preserved g c =
    let row = g.R.RowView.vars c.args.row.now in
    let values = c.loop-item.values in
    let here = vars_here c.args.criteria.now c.loop-item.item-index c.item-item.result c.item-item.is
    c.loop-item-test.true in
    one_more_of values _ _ _ _ _ (ap (map (value_at row)) here)
    (c.in_ok-push.ensures.ok ∙ ap (λ t. values ++ t ∷ []) c.in_ok-value_in_row.ensures) c.loop-item.invariant
