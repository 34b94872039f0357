use Rattle.std.proofs.Common.{◌∙◌, ◌++◌, ◌∷◌, [], ap, subst}
use Rattle.std.proofs.lemmas.List.{map-append}
use Rattle.aql_value.specs.View.{datum_of, datums_in}
use Rattle.aql_func.specs.Aggregates.{aggregate_named}
use Rattle.aql_meaning.specs.Stages.{arguments_at}
use Rattle.aql_plan.specs.Fits.{AllKnown}
use Rattle.aql_plan.specs.View.{maybe_tree}
use Rattle.aql_exec_rows.proofs.Parts.{aggregates_here, has_plain, one_more_of}
use Rattle.aql_exec_rows.proofs.grouping.argument_values.Goals as goal

pub argument-requires : goal.argument-requires
argument-requires g c =
    let x = c.item-item.result in
    let here = aggregates_here c.args.aggregates.now c.loop-item.item-index x c.item-item.is
    c.loop-item-test.true in
    has_plain (aggregate_named x.name) (maybe_tree x.arg) (subst AllKnown here c.loop-item.invariant.known).0

pub loop-item-preserved : goal.loop-item-preserved
loop-item-preserved g c =
    let x = c.item-item.result in
    let row = g.R.RowView.vars c.args.row.now in
    let values = c.loop-item.values.items in
    let here = aggregates_here c.args.aggregates.now c.loop-item.item-index x c.item-item.is
    c.loop-item-test.true in
    let pushed = ap datums_in c.in_ok-push.ensures.items
    ∙ map-append datum_of values (c.in_ok-argument.field-0 ∷ [])
    ∙ ap (λ t. datums_in values ++ t ∷ []) c.in_ok-argument.ensures in
    record {
      known = (subst AllKnown here c.loop-item.invariant.known).1;
      values = one_more_of (datums_in values) _ _ _ _ _ (ap (λ gs. arguments_at gs row) here) pushed
          c.loop-item.invariant.values;
    }
