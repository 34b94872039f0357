use Rattle.std.proofs.Common.{◌≡◌, sym, subst}
use Rattle.std.proofs.lemmas.Result.{IfOk-weaker}
use Rattle.aql_value.specs.Database.{Database}
use Rattle.aql_value.specs.Datum.{Datum, null}
use Rattle.aql_value.specs.View.{datum_of}
use Rattle.aql_value.specs.declared.values.Value.{Value}
use Rattle.aql_tree.specs.View.{tree}
use Rattle.aql_meaning.specs.Meaning.{Evaluates}
use Rattle.aql_meaning.specs.Value.{value}
use Rattle.aql_meaning.specs.laws.OneValue.{has_value}
use Rattle.aql_expr.proofs.evaluation.eval.Goals as goal

pub returns-clause-meaning : goal.returns-clause-meaning
returns-clause-meaning g c =
    let e = tree c.args.expr.now in
    let row = g.R.RowView.vars c.args.row.now in
    IfOk-weaker c.evaluate.result (λ (v : Value). datum_of v ≡ value e null row)
    (λ (v : Value). (db : Database) → Evaluates db e null row (datum_of v))
    (λ (v : Value) (k : datum_of v ≡ value e null row) (db : Database).
    subst (λ (t : Datum). Evaluates db e null row t) (sym k) (has_value db e c.requires null row))
    c.evaluate.ensures
