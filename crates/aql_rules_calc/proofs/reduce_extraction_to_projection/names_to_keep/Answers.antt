use Rattle.std.proofs.lemmas.Result.{IfOk-weaker}
use Rattle.aql_tree.specs.declared.syntax.Ident.TheVariants.{Num}
use Rattle.aql_plan.specs.View.{plan_tree}
use Rattle.aql_rewrite.specs.View.{above_uses}
use Rattle.aql_rules_calc.specs.laws.Projected.{kept_reduces}
use Rattle.aql_rules_calc.proofs.reduce_extraction_to_projection.names_to_keep.Goals as goal

pub returns-in-Some : goal.returns-in-Some
returns-in-Some c = IfOk-weaker c.kept_names.result _ _
    (λ kept h. kept_reduces c.args.facts.now (above_uses c.args.above.now) (plan_tree c.args.part.now)
    (Num c.in-Some.var) c.in-Some.order.now kept c.in-Some.ensures h) c.kept_names.ensures
