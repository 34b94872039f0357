use Rattle.std.proofs.Common.{◌∙◌, ◌++◌, ◌∷◌, [], map, ap}
use Rattle.std.proofs.lemmas.List.{map-append}
use Rattle.aql_value.specs.View.{datum_of, datums_in}
use Rattle.aql_meaning.specs.Row.{value_at}
use Rattle.aql_meaning.specs.Visible.{aggregate_vars}
use Rattle.aql_exec_rows.proofs.Parts.{aggregates_here, one_more_of}
use Rattle.aql_exec_rows.proofs.grouping.arguments_in_row.Goals as goal

pub loop-item-preserved : goal.loop-item-preserved
loop-item-preserved g c =
    let x = c.item-item.result in
    let row = g.R.RowView.vars c.args.row.now in
    let values = c.loop-item.values.items in
    let here = aggregates_here c.args.aggregates.now c.loop-item.item-index x c.item-item.is
    c.loop-item-test.true in
    let pushed = ap datums_in c.in_ok-push.ensures.items
    ∙ map-append datum_of values (c.in_ok-value_in_row.field-0 ∷ [])
    ∙ ap (λ t. datums_in values ++ t ∷ []) c.in_ok-value_in_row.ensures in
    one_more_of (datums_in values) _ _ _ _ _ (ap (λ gs. map (value_at row) (aggregate_vars gs)) here) pushed
    c.loop-item.invariant
