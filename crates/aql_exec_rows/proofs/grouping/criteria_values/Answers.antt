use Rattle.std.proofs.Common.{◌∙◌, ◌++◌, ◌∷◌, [], ap, subst}
use Rattle.aql_meaning.specs.Plain.{AllPlain}
use Rattle.aql_meaning.specs.AtRows.{keys_of}
use Rattle.aql_exec_rows.proofs.Parts.{criteria_here, one_more_of}
use Rattle.aql_exec_rows.proofs.grouping.criteria_values.Goals as goal

pub loop-item-preserved : goal.loop-item-preserved
loop-item-preserved g c =
    let row = g.R.RowView.vars c.args.row.now in
    let values = c.loop-item.values in
    let here = criteria_here c.args.criteria.now c.loop-item.item-index c.item-item.result c.item-item.is
    c.loop-item-test.true in
    let pushed = c.in_ok-push.ensures.ok ∙ ap (λ t. values ++ t ∷ []) c.in_ok-eval.ensures.value in
    record {
      plain = (subst AllPlain here c.loop-item.invariant.plain).1;
      values = one_more_of values _ _ _ _ _ (ap (λ es. keys_of es row) here) pushed c.loop-item.invariant.values;
    }
